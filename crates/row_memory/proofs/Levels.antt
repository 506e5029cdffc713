-- A part's level is one more than its parent's, so no way up has more parts than a sound map has levels.
-- Assumes nothing.
use mathlib.Core.Path.{◌≡◌, refl, ap}
use mathlib.Core.Logic.{◌≢◌}
use mathlib.Core.Bool.{Bool, true, false, cond}
use mathlib.Core.List.{[], ◌∷◌}
use Prim.Native.Nat.{ℕ, zero, suc, ◌≤◌, ◌<◌}
use native.Mathlib.Omega.{arith}
use lib.ListN.{length}
use lib.Dec.{eqb}
use borrow.Author.Tests.{ne_eqb, eqb-false}
use Rattle.roads.specs.Map.{Map, part_count}
use Rattle.parts.specs.Tree.{parent_of, climb, upward, level}
use Rattle.parts.proofs.Tree.{Falls}

module _ (m : Map) (falls : Falls m) where
  -- any number of steps that is enough gives the same way up
  climb_enough : (n k p : ℕ) → p < n → p < k → p < part_count m → climb n m p ≡ climb k m p
  unfolding climb
  climb_enough zero k p hn hk hp = absurd (omega arith)
  climb_enough (suc n) zero p hn hk hp = absurd (omega arith)
  climb_enough (suc n) (suc k) p hn hk hp = by (eqb p 0) refl (λ lower. climb_enough n k (parent_of m p) (omega arith) (omega arith) (omega arith))
    where
      by : (root : Bool) → eqb p 0 ≡ root → (parent_of m p < p → climb n m (parent_of m p) ≡ climb k m (parent_of m p))
          → p ∷ cond root [] (climb n m (parent_of m p)) ≡ p ∷ cond root [] (climb k m (parent_of m p))
      by true e later = refl
      by false e later = ap (λ l. p ∷ l) (later (falls p (omega (arith, eqb-false p 0 e)) hp))

  pub level_falls : (p : ℕ) → p ≢ 0 → p < part_count m → level m p ≡ suc (level m (parent_of m p))
  unfolding level upward climb
  level_falls p real hp =
      let lower = falls p (omega (arith, real)) hp in
      rw (ne_eqb p 0 real) (ap (λ l. suc (length l)) (climb_enough p (suc (parent_of m p)) (parent_of m p) lower (omega arith) (omega (arith, lower))))

  pub level_some : (p : ℕ) → 1 ≤ level m p
  unfolding level upward climb
  level_some p = omega arith
