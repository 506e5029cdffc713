-- The way up from a leaf: how often a part above the lift has the parent p is once or never.
-- Assumes nothing.
use mathlib.Core.Path.{◌≡◌, refl, sym, ap, subst, ◌∙◌}
use mathlib.Core.Logic.{◌⊎◌, inl, inr, ◌≢◌}
use mathlib.Core.Bool.{Bool, true, false, cond}
use mathlib.Core.List.{List}
use Prim.Native.Nat.{ℕ, zero, suc, ◌+◌, ◌<◌}
use native.Mathlib.Decide.{ℕ_discrete}
use native.Mathlib.Omega.{arith}
use lib.Dec.{ltb, eqb}
use borrow.Author.Tests.{eqb-true, eqb-false, ltb-true, ltb-false}
use Rattle.words.specs.Lists.{word}
use Rattle.roads.specs.Map.{Map, part_count}
use Rattle.parts.specs.Tree.{parent_of}
use Rattle.parts.proofs.Tree.{Above, here, up, Falls, above_next, above_least}
use Rattle.map_borders.specs.Mark.{steps}

-- d is c or lies above it, lies above the lift, and has the parent p
pub record Passes (m : Map) (lift p c d : ℕ) : Type 0 where
  pub above : Above m d c
  pub high : lift < d
  pub parent : parent_of m d ≡ p

passes_up : {m : Map} {lift p c d : ℕ} → c ≢ 0 → Passes m lift p (parent_of m c) d → Passes m lift p c d
passes_up real s = record { above = up real s.above; high = s.high; parent = s.parent }

abbrev pub Once : Map → ℕ → ℕ → ℕ → ℕ → Type 0
Once m lift p c n = ((n ≡ 0) × ((d : ℕ) → Passes m lift p c d → ⊥)) ⊎ ((n ≡ 1) × ((d : ℕ) × Passes m lift p c d))

module _ (m : Map) (falls : Falls m) (parents : List ℕ) (same : (p : ℕ) → p < part_count m → parent_of m p ≡ word parents p) (lift p : ℕ) where
  pub steps_once : (n c : ℕ) → c < n → c < part_count m → Once m lift p c (steps parents n lift c p)
  unfolding steps
  steps_once zero c h hc = absurd (omega arith)
  steps_once (suc n) c h hc = by (ltb lift c) refl (steps_once n (parent_of m c))
    where
      -- c itself does not pass, and what passes from its parent passes
      not_here : (d : ℕ) → (parent_of m c ≡ p → ⊥) → ((d : ℕ) → Passes m lift p (parent_of m c) d → ⊥) → Passes m lift p c d → ⊥
      not_here d other none s = split (ℕ_discrete d c)
        where
          split : Dec (d ≡ c) → ⊥
          split (yes same) = other (ap (parent_of m) (sym same) ∙ s.parent)
          split (no differ) = none d (record { above = (above_next c s.above differ).1; high = s.high; parent = s.parent })

      further : (k : ℕ) → lift < c → parent_of m c < c → (equal : Bool) → eqb (parent_of m c) p ≡ equal → Once m lift p (parent_of m c) k → Once m lift p c (cond equal 1 0 + k)
      further k more lower true e (inl none) = inr (omega (arith, none.0), (c, record { above = here; high = more; parent = eqb-true (parent_of m c) p e }))
      further k more lower true e (inr some) =
          let s = some.1.1 in
          let at_most = above_least m falls (parent_of m c) (omega arith) s.above in
          let again = falls some.1.0 (omega (arith, s.high)) (omega arith) in
          let is = eqb-true (parent_of m c) p e in
          absurd (omega (arith, s.parent))
      further k more lower false e (inl none) = inl (omega (arith, none.0), λ d. not_here d (eqb-false (parent_of m c) p e) none.1)
      further k more lower false e (inr some) = inr (omega (arith, some.0), (some.1.0, passes_up (λ z. omega arith) some.1.1))

      by : (more : Bool) → ltb lift c ≡ more → (parent_of m c < n → parent_of m c < part_count m → Once m lift p (parent_of m c) (steps parents n lift (parent_of m c) p))
          → Once m lift p c (cond more (cond (eqb (word parents c) p) 1 0 + steps parents n lift (word parents c) p) 0)
      by false e later = inl (refl, λ d s. let low = ltb-false lift c e in omega (arith, s.high, above_least m falls c hc s.above))
      by true e later =
          let more = ltb-true lift c e in
          let lower = falls c (omega arith) hc in
          subst (λ (q : ℕ). Once m lift p c (cond (eqb q p) 1 0 + steps parents n lift q p)) (same c hc)
          (further (steps parents n lift (parent_of m c) p) more lower (eqb (parent_of m c) p) refl (later (omega arith) (omega arith)))
