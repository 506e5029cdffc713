-- One row vertex tried in the table of its part, as a halt between every two: no way round by it is lighter then, and none by a vertex tried before.
-- Assumes nothing.
use mathlib.Core.Path.{◌≡◌, subst⁻¹}
use mathlib.Core.Logic.{inl, inr, ⊎_elim}
use mathlib.Core.List.{List}
use Prim.Native.Nat.{ℕ, ◌+◌, ◌*◌, ◌≤◌, ◌<◌, min}
use native.Mathlib.Decide.{dec_lt, ℕ_discrete}
use native.Mathlib.Omega.{arith}
use Rattle.roads.specs.Map.{Map, part_count}
use Rattle.roads.specs.Dist.{dist}
use Rattle.roads.proofs.Laws.{dist_triangle}
use Rattle.parts.specs.Size.{size_of}
use Rattle.maps.proofs.Distances.{sound_net, few_rows}
use Rattle.image.specs.Places.{table_of}
use Rattle.image.specs.Records.{row_vertex}
use Rattle.image.proofs.Records.{rows_end}
use Rattle.table_rows.specs.Flat.{through, Becomes, Tried}
use Rattle.assembly.specs.Laid.{LaidForTables, table_entry}
use Rattle.assembly.specs.Lower.{Honest, Lower}
use Rattle.assembly.specs.Steps.{Tight}
use Rattle.assembly.proofs.Places.{table_from, tables_apart, table_to, entry_to, row_real}

module _ (m : Map) (before after : List ℕ) (L : LaidForTables m before) (q k : ℕ) (hq : q < part_count m) (hk : k < size_of m q)
    (T : Tried (table_of m q) (size_of m q) k before after) where
  made : Becomes (table_of m q) (size_of m q) (through k) before after
  made = T.tried (few_rows m L.sound q hq) hk (omega (arith, L.fits, rows_end m, table_to m q hq))

  pub tried_entry : (i j : ℕ) → i < size_of m q → j < size_of m q → table_entry m after q i j ≡ min (table_entry m before q i j) (table_entry m before q i k + table_entry m before q k j)
  unfolding through
  tried_entry i j hi hj = made.each i j hi hj

  pub tried_other : (r i j : ℕ) → (r ≡ q → ⊥) → i < size_of m r → j < size_of m r → table_entry m after r i j ≡ table_entry m before r i j
  tried_other r i j other hi hj = made.outside (table_of m r + (size_of m r * i + j)) (elim (dec_lt r q) [
    | yes less ↦ inl (omega (arith, tables_apart m r q less, entry_to m r i j hi hj))
    | no more ↦ inr (omega (arith, tables_apart m q r (omega (arith, more, other))))
  ])

  pub tried_lower : (low : ℕ) → low ≤ q → Lower m low before after
  tried_lower low hl = record {
    sized = T.sized;
    outside = λ x out. made.outside x (⊎_elim (λ below. inl (omega (arith, table_from m q))) (λ above. inr (omega (arith, table_to m q hq))) out);
    less = λ r i j _ _ hi hj. elim (ℕ_discrete r q) [
      | yes same ↦ less_own r i j same hi hj
      | no other ↦ omega (arith, tried_other r i j other hi hj)
    ];
    honest = λ h r i j lr hr hi hj. elim (ℕ_discrete r q) [
      | yes same ↦ honest_own h r i j same hi hj
      | no other ↦ omega (arith, tried_other r i j other hi hj, h r i j lr hr hi hj)
    ];
  }
    where
      own : (i j : ℕ) → i < size_of m q → j < size_of m q → table_entry m after q i j ≤ table_entry m before q i j
      own i j hi hj = omega (arith, tried_entry i j hi hj)

      less_own : (r i j : ℕ) → r ≡ q → i < size_of m r → j < size_of m r → table_entry m after r i j ≤ table_entry m before r i j
      less_own r i j same =
          subst⁻¹ (λ (s : ℕ). i < size_of m s → j < size_of m s → table_entry m after s i j ≤ table_entry m before s i j) same (own i j)

      honest_here : Honest m low before → (i j : ℕ) → i < size_of m q → j < size_of m q → dist m (row_vertex m q i) (row_vertex m q j) ≤ table_entry m after q i j
      honest_here h i j hi hj =
          omega (
            arith,
            tried_entry i j hi hj,
            h q i j hl hq hi hj,
            h q i k hl hq hi hk,
            h q k j hl hq hk hj,
            dist_triangle m (sound_net m L.sound) (row_vertex m q i) (row_real m q i hi) (row_vertex m q k) (row_vertex m q j) (row_real m q k hk),
          )

      honest_own : Honest m low before → (r i j : ℕ) → r ≡ q → i < size_of m r → j < size_of m r → dist m (row_vertex m r i) (row_vertex m r j) ≤ table_entry m after r i j
      honest_own h r i j same =
          subst⁻¹ (λ (s : ℕ). i < size_of m s → j < size_of m s → dist m (row_vertex m s i) (row_vertex m s j) ≤ table_entry m after s i j) same (honest_here h i j)

  -- by k, from which the way to itself was 0
  pub tried_tight : table_entry m before q k k ≤ 0 → Tight m q k after
  tried_tight home i j hi hj = omega (arith, tried_entry i j hi hj, tried_entry i k hi hk, tried_entry k j hk hj)

  -- and by any row that was tried before
  pub tried_keeps : (r l : ℕ) → r < part_count m → l < size_of m r → Tight m r l before → Tight m r l after
  tried_keeps r l hr hl tight i j hi hj = elim (ℕ_discrete r q) [
    | yes same ↦ here r same hl tight hi hj
    | no other ↦ omega (arith, tried_other r i j other hi hj, tried_other r i l other hi hl, tried_other r l j other hl hj, tight i j hi hj)
  ]
    where
      own : l < size_of m q → Tight m q l before → i < size_of m q → j < size_of m q → table_entry m after q i j ≤ table_entry m after q i l + table_entry m after q l j
      own hl tight hi hj =
          omega (
            arith,
            tried_entry i j hi hj,
            tried_entry i l hi hl,
            tried_entry l j hl hj,
            tight i j hi hj,
            tight k j hk hj,
            tight i k hi hk,
          )

      here : (r : ℕ) → r ≡ q → l < size_of m r → Tight m r l before → i < size_of m r → j < size_of m r → table_entry m after r i j ≤ table_entry m after r i l + table_entry m after r l j
      here r same = subst⁻¹ (λ (s : ℕ). l < size_of m s → Tight m s l before → i < size_of m s → j < size_of m s → table_entry m after s i j ≤ table_entry m after s i l + table_entry m after s l j) same own
