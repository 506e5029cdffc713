-- The way up to part 0.
-- Assumes nothing.
use mathlib.Core.Path.{◌≡◌, sym, ap, ap₂, ◌∙◌}
use mathlib.Core.Bool.{Bool, true, false, ◌||◌}
use mathlib.Core.List.{List}
use Prim.Native.Nat.{ℕ, zero, suc, ◌+◌, ◌-◌, ◌<◌, ◌≤◌}
use native.Mathlib.Omega.{arith}
use lib.Dec.{eqb}
use borrow.Author.Tests.{eq-eqb, ne_eqb}
use Rattle.words.specs.Lists.{word}
use Rattle.map_parts.specs.Part.{near}

-- i of the n steps are taken
module _ (parents : List ℕ) (n i : ℕ) where
  step : (left p : ℕ) → 0 < left → near parents left p ≡ (eqb p 0 || near parents (left - 1) (word parents p))
  unfolding near
  step zero p h = absurd (omega arith)
  step (suc left) p h = ap (λ (k : ℕ). eqb p 0 || near parents k (word parents p)) (let same : left ≡ suc left - 1 = omega arith in same)

  pub near_none : (p : ℕ) → n ≤ i → near parents (n - i) p ≡ false
  unfolding near
  near_none p h = ap (λ (left : ℕ). near parents left p) (let none : n - i ≡ 0 = omega arith in none)

  pub near_here : (p : ℕ) → i < n → p ≡ 0 → near parents (n - i) p ≡ true
  near_here p h root = step (n - i) p (omega arith) ∙ ap (λ (b : Bool). b || near parents (n - i - 1) (word parents p)) (eq-eqb p 0 root)

  pub near_above : (p above : ℕ) → i < n → (p ≡ 0 → ⊥) → above ≡ word parents p → near parents (n - i) p ≡ near parents (n - (i + 1)) above
  near_above p above h other is =
      step (n - i) p (omega arith)
      ∙ ap₂ (λ (b : Bool) (q : ℕ). b || near parents (n - i - 1) q) (ne_eqb p 0 other) (sym is)
      ∙ ap (λ (left : ℕ). near parents left above) (let next : n - i - 1 ≡ n - (i + 1) = omega arith in next)
