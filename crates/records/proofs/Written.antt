-- One record more is written.
-- Assumes nothing.
use mathlib.Core.Path.{◌≡◌, refl, ap, sym, ◌∙◌}
use mathlib.Core.List.{List}
use Prim.Native.Nat.{ℕ, suc, ◌+◌, ◌*◌, ◌≤◌, ◌<◌}
use native.Mathlib.Nat.{mul-le-mul_left, mul-suc}
use native.Mathlib.Decide.{dec_lt, ℕ_discrete}
use native.Mathlib.Omega.{arith}
use lib.ListN.{length}
use lib.Seq.{sets, length-sets}
use Rattle.words.specs.Lists.{word}
use Rattle.words.proofs.Stores.{stored_in, stored_out}
use Rattle.records.specs.Written.{InRecords, Written}

-- a record ends before the next begins
record_before : (size j k : ℕ) → j < k → size * j + size ≤ size * k
record_before size j k h = omega (arith, mul-suc size j, mul-le-mul_left size (let more : suc j ≤ k = omega arith in more))

-- so words of records with different numbers are different words
apart : (base size j k v w : ℕ) → v < size → w < size → base + size * j + v ≡ base + size * k + w → j ≡ k
apart base size j k v w hv hw e = elim (ℕ_discrete j k) [ yes same ↦ same | no other ↦ absurd (elim (dec_lt j k) [ yes less ↦ omega (arith, record_before size j k less) | no more ↦ omega (arith, record_before size k j (omega (arith, more, other))) ]) ]

module _ (base size : ℕ) (record_of : ℕ → List ℕ) where
  pub written_none : (low : ℕ) (mem : List ℕ) → Written base size low low record_of mem mem
  written_none low mem = record { long = refl; right = λ k w from to inside. absurd (omega arith); kept = λ i away. refl }

  -- the record k, to those that are written
  written_turn : (low high low' high' k : ℕ) (start mem mem' : List ℕ) → low' ≤ k → k < high'
      → ((j : ℕ) → low' ≤ j → j < high' → (j ≡ k → ⊥) → (low ≤ j) × (j < high))
      → ((j : ℕ) → low ≤ j → j < high → (low' ≤ j) × (j < high'))
      → length (record_of k) ≡ size → base + size * k + size ≤ length mem
      → Written base size low high record_of start mem → mem' ≡ sets mem (base + size * k) (record_of k)
      → Written base size low' high' record_of start mem'
  written_turn low high low' high' k start mem mem' here there old new sized fits w e =
      record {
        long = ap length e ∙ length-sets mem (base + size * k) (record_of k) ∙ w.long;
        right = λ j v from to inside. elim (ℕ_discrete j k) [ yes same ↦ this j v inside same | no other ↦ that j v inside (old j from to other) other ];
        kept = λ i away. ap (λ (l : List ℕ). word l i) e ∙ stored_out mem (base + size * k) (record_of k) i (λ v h at. away (record { number = k; at = v; from = here; to = there; inside = omega (arith, sized); place = at })) ∙ w.kept i (λ in-old. away (more i in-old));
      }
    where
      more : (i : ℕ) → InRecords base size low high i → InRecords base size low' high' i
      more i x = record { number = x.number; at = x.at; from = (new x.number x.from x.to).0; to = (new x.number x.from x.to).1; inside = x.inside; place = x.place }

      this : (j v : ℕ) → v < size → j ≡ k → word mem' (base + size * j + v) ≡ word (record_of j) v
      this j v inside same =
          ap (λ (n : ℕ). word mem' (base + size * n + v)) same
          ∙ ap (λ (l : List ℕ). word l (base + size * k + v)) e
          ∙ stored_in mem (base + size * k) (record_of k) v (omega (arith, sized)) (omega (arith, sized))
          ∙ ap (λ (n : ℕ). word (record_of n) v) (sym same)

      that : (j v : ℕ) → v < size → (low ≤ j) × (j < high) → (j ≡ k → ⊥) → word mem' (base + size * j + v) ≡ word (record_of j) v
      that j v inside was other =
          ap (λ (l : List ℕ). word l (base + size * j + v)) e
          ∙ stored_out mem (base + size * k) (record_of k) (base + size * j + v) (λ u h at. other (apart base size j k v u inside (omega (arith, sized)) at))
          ∙ w.right j v was.0 was.1 inside

  -- from the first record on
  pub written_up : (low k : ℕ) (start mem mem' : List ℕ) → low ≤ k → length (record_of k) ≡ size → base + size * k + size ≤ length mem
      → Written base size low k record_of start mem → mem' ≡ sets mem (base + size * k) (record_of k) → Written base size low (k + 1) record_of start mem'
  written_up low k start mem mem' h sized fits w e =
      written_turn low k low (k + 1) k start mem mem' h (omega arith) (λ j from to other. (from, omega (arith, other))) (λ j from to. (from, omega arith)) sized fits w e

  -- from the last record on
  pub written_down : (k low high : ℕ) (start mem mem' : List ℕ) → low ≡ k + 1 → k < high → length (record_of k) ≡ size → base + size * k + size ≤ length mem
      → Written base size low high record_of start mem → mem' ≡ sets mem (base + size * k) (record_of k) → Written base size k high record_of start mem'
  written_down k low high start mem mem' next h sized fits w e =
      written_turn low high k high k start mem mem' (omega arith) h (λ j from to other. (omega (arith, other), to)) (λ j from to. (omega arith, to)) sized fits w e
