-- One turn of the walk along the links, in any memory.
-- Assumes nothing.
use mathlib.Core.Path.{◌≡◌, refl, ap}
use mathlib.Core.List.{List}
use Prim.Native.Nat.{ℕ, zero, suc, ◌+◌, ◌-◌, ◌≤◌, ◌<◌}
use native.Mathlib.Omega.{arith}
use native.Mathlib.Decide.{dec_lt}
use borrow.Author.Tests.{eq-eqb, ne_eqb, lt-ltb, le-ltb}
use Rattle.words.specs.Lists.{word}
use Rattle.layout.specs.Layout.{next_in_van}
use Rattle.counts.specs.declared.Counts.{Counts}
use Rattle.places.specs.Place.{van_address}
use Rattle.van_lists.specs.Walk.{walk}

module _ (mem : List ℕ) (counts : Counts) (van at : ℕ) where
  -- no link is left to take, or the one here leads nowhere or past the van
  pub walk_done : (left : ℕ) → left ≤ 0 → walk mem counts van at left ≡ at
  unfolding walk
  walk_done zero h = refl
  walk_done (suc left) h = absurd (omega arith)

  pub walk_stops : (left : ℕ) → (0 < word mem at → van < word mem at) → walk mem counts van at left ≡ at
  unfolding walk
  walk_stops zero past = refl
  walk_stops (suc left) past = elim (dec_lt 0 (word mem at)) [
    | yes some ↦ rw (ne_eqb (word mem at) 0 (omega arith), lt-ltb van (word mem at) (past some))
    | no none ↦ rw (eq-eqb (word mem at) 0 (omega arith))
  ]

  -- the link leads to an earlier van
  pub walk_on : (other left : ℕ) → word mem at ≡ other + 1 → other < van
      → walk mem counts van at (suc left) ≡ walk mem counts van (van_address counts other + next_in_van) left
  unfolding walk
  walk_on other left link before =
      rw (ne_eqb (word mem at) 0 (omega arith), le-ltb van (word mem at) (omega arith))
      (ap (λ (k : ℕ). walk mem counts van (van_address counts k + next_in_van) left) is)
    where
      is : word mem at - 1 ≡ other
      is = omega arith
