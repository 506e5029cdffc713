-- One word of a table lowered, and two words leveled.
-- Assumes nothing.
use mathlib.Core.Path.{◌≡◌, refl, ap, ◌∙◌, subst⁻¹}
use mathlib.Core.Logic.{⊎_elim}
use mathlib.Core.List.{List}
use Prim.Native.Nat.{ℕ, ◌+◌, ◌*◌, ◌≤◌, ◌<◌, min}
use native.Mathlib.Decide.{ℕ_discrete}
use native.Mathlib.Omega.{arith}
use lib.ListN.{length, get_or, length-set}
use lib.Seq.{get_or-set_same, get_or-set_other}
use Rattle.cells.specs.Lowered.{lowered}
use Rattle.roads.specs.Map.{Map, part_count}
use Rattle.roads.specs.Dist.{dist}
use Rattle.parts.specs.Size.{size_of, need}
use Rattle.image.specs.Places.{table_of}
use Rattle.image.specs.Records.{row_vertex}
use Rattle.image.proofs.Records.{rows_end}
use Rattle.assembly.specs.Laid.{table_entry}
use Rattle.assembly.specs.Lower.{Honest, Lower, Inside}
use Rattle.assembly.proofs.Places.{table_from, table_to, entry_to, one_word}

-- ---- nothing done, and one thing after the other

pub lower_none : (m : Map) (low : ℕ) (mem : List ℕ) → Lower m low mem mem
lower_none m low mem = record { sized = refl; outside = λ x h. refl; less = λ q i j _ _ _ _. omega arith; honest = λ h. h }

pub lower_then : {m : Map} {low : ℕ} {a b c : List ℕ} → Lower m low a b → Lower m low b c → Lower m low a c
lower_then f g = record {
  sized = g.sized ∙ f.sized;
  outside = λ x h. g.outside x h ∙ f.outside x h;
  less = λ q i j hl hq hi hj. omega (arith, g.less q i j hl hq hi hj, f.less q i j hl hq hi hj);
  honest = λ h. g.honest (f.honest h);
}

-- what is between the distances and the weights of inner walks stays so
pub inside_lower : {m : Map} {low : ℕ} {a b : List ℕ} → Lower m low a b → Inside m low a → Inside m low b
inside_lower f h = record {
  honest = f.honest h.honest;
  inner = λ q i j w hl hq hi hj walk. omega (arith, f.less q i j hl hq hi hj, h.inner q i j w hl hq hi hj walk);
}

-- ---- one word

module _ (mem : List ℕ) (a x : ℕ) where
  pub lowered_at : a < length mem → get_or (lowered mem a x) a 0 ≡ min (get_or mem a 0) x
  lowered_at h = get_or-set_same mem a (min (get_or mem a 0) x) 0 h

  pub lowered_other : (y : ℕ) → (y ≡ a → ⊥) → get_or (lowered mem a x) y 0 ≡ get_or mem y 0
  lowered_other y other = get_or-set_other mem a y (min (get_or mem a 0) x) 0 other

  pub lowered_less : a < length mem → (y : ℕ) → get_or (lowered mem a x) y 0 ≤ get_or mem y 0
  lowered_less h y = elim (ℕ_discrete y a) [
    | yes same ↦ subst⁻¹ (λ (k : ℕ). get_or (lowered mem a x) k 0 ≤ get_or mem k 0) same (omega (arith, lowered_at h))
    | no other ↦ omega (arith, lowered_other y other)
  ]

module _ (m : Map) (mem : List ℕ) (fits : need m ≤ length mem) (q i j : ℕ) (hq : q < part_count m) (hi : i < size_of m q) (hj : j < size_of m q) (x : ℕ) where
  within : table_of m q + (size_of m q * i + j) < length mem
  within = omega (arith, fits, rows_end m, table_to m q hq, entry_to m q i j hi hj)

  pub lower_one_at : table_entry m (lowered mem (table_of m q + (size_of m q * i + j)) x) q i j ≤ x
  lower_one_at = omega (arith, lowered_at mem (table_of m q + (size_of m q * i + j)) x within)

  -- where x is no less than the distance
  pub lower_one : (low : ℕ) → low ≤ q → (Honest m low mem → dist m (row_vertex m q i) (row_vertex m q j) ≤ x) → Lower m low mem (lowered mem (table_of m q + (size_of m q * i + j)) x)
  lower_one low hl near = record {
    sized = length-set mem (table_of m q + (size_of m q * i + j)) _;
    outside = λ y out. lowered_other mem _ x y (λ same. ⊎_elim
        (λ below. omega (arith, table_from m q))
        (λ above. omega (arith, table_to m q hq, entry_to m q i j hi hj))
        out);
    less = λ r k l _ _ _ _. lowered_less mem _ x within (table_of m r + (size_of m r * k + l));
    honest = λ h r k l lr hr hk hl'. elim (ℕ_discrete (table_of m r + (size_of m r * k + l)) (table_of m q + (size_of m q * i + j))) [
      | yes same ↦
          let one = one_word m r k l q i j hk hl' hi hj same in
          rw (same, ap (λ (s : ℕ). row_vertex m s k) one.part, ap (λ (s : ℕ). row_vertex m s l) one.part, one.row, one.column)
          (omega (arith, lowered_at mem (table_of m q + (size_of m q * i + j)) x within, h q i j hl hq hi hj, near h))
      | no other ↦ omega (arith, lowered_other mem (table_of m q + (size_of m q * i + j)) x (table_of m r + (size_of m r * k + l)) other, h r k l lr hr hk hl')
    ];
  }
