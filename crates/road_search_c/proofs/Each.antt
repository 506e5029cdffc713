-- A test of each number below n by `all`: it answers true exactly if it is so of each. Assumes nothing.
use mathlib.Core.Path.{◌≡◌, refl, subst, ◌∙◌}
use mathlib.Core.Bool.{Bool, true, false}
use Prim.Native.Nat.{ℕ, ◌-◌, ◌<◌}
use native.Mathlib.Omega.{arith}
use denote.Param.Members.{Mut}
use lib.ListN.{length, get_or}
use Rattle.std.specs.Bool.{IsTrue, MatchBool}
use Rattle.std.specs.Fn.{Called}
use Rattle.std.specs.Iterator.{ChecksAll}
use Rattle.std.specs.List.{range_with_len, AllWithin, HoldsAt}
use Rattle.std.specs.declared.ops.Range.{Range}
use Rattle.std.proofs.iter.Yields.{nat_range_steps}
use Rattle.std.proofs.lemmas.Iterator.{YieldsList-from_range, cases_from_all}
use Rattle.std.proofs.lemmas.List.FromFn.{length-range_with_len, get_or-range_with_len}

module _ (So : ℕ → Type 0) (n : ℕ) where
  long : length (range_with_len 0 (n - 0)) ≡ n
  long = length-range_with_len 0 (n - 0) ∙ omega arith

  -- the number k among those below n
  there : (k : ℕ) → k < n → get_or (range_with_len 0 (n - 0)) k 0 ≡ k
  there k h = get_or-range_with_len 0 (n - 0) k 0 (omega arith) ∙ omega arith

  both : (r : Bool) → MatchBool r (AllWithin So (range_with_len 0 (n - 0)) 0 (length (range_with_len 0 (n - 0)))) ((k : ℕ) × (k < length (range_with_len 0 (n - 0))) × HoldsAt (λ x. So x → ⊥) (range_with_len 0 (n - 0)) k) →
      (IsTrue r → (k : ℕ) → k < n → So k) × (((k : ℕ) → k < n → So k) → IsTrue r)
  both true passed = ((λ _ k h. subst So (there k h) (passed k 0 (omega arith) (omega (arith, long)))), λ _. refl)
  both false (k, below, other) =
      let h : k < n = omega (arith, long) in
      ((λ never. absurd (cc)), λ each. absurd (subst (λ (x : ℕ). So x → ⊥) (there k h) (other 0) (each k h)))

  pub each_below : {F : Type 0} {g : Mut F (ℕ × Unit {0}) Bool} {s u : Range ℕ} {f : F} {r : Bool} → ChecksAll nat_range_steps g s f r u → s ≡ record { start = 0; end = n } →
      ((x : ℕ) (q : F) → Called g f (x, tt) true q → (q ≡ f) × So x) → ((x : ℕ) (q : F) → Called g f (x, tt) false q → So x → ⊥) →
      (IsTrue r → (k : ℕ) → k < n → So k) × (((k : ℕ) → k < n → So k) → IsTrue r)
  each_below {u = u} {f = f} {r = r} ran is passes fails = both r (cases_from_all u f r So (λ x. So x → ⊥) ran (YieldsList-from_range 0 n (n - 0) is refl) passes fails)
