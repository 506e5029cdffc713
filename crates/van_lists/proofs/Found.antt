-- The first number of a range that passes a test: what it is, and what it does not depend on.
-- Assumes nothing.
use mathlib.Core.Path.{◌≡◌, refl, sym, ◌∙◌, ap}
use mathlib.Core.Bool.{Bool, true, false, cond}
use mathlib.Core.List.{List, [], ◌∷◌}
use Prim.Native.Nat.{ℕ, suc, ◌+◌, ◌≤◌, ◌<◌}
use native.Mathlib.Nat.{add-zero}
use native.Mathlib.Omega.{arith}
use native.Mathlib.Decide.{dec_lt}
use lib.ListN.{length, get_or}
use Rattle.words.specs.Lists.{link}
use Rattle.words.proofs.Tests.{clash}

-- `r` is 1 + the first number from `a` on and below `end` that passes, or 0
pub data Found (test : ℕ → Bool) (a end r : ℕ) : Type 0 where
  nothing : r ≡ 0 → ((x : ℕ) → a ≤ x → x < end → test x ≡ false) → Found test a end r
  found : (x : ℕ) → r ≡ suc x → a ≤ x → x < end → test x ≡ true → ((y : ℕ) → a ≤ y → y < x → test y ≡ false) → Found test a end r

-- one number more in front, which does not pass
found_skip : (test : ℕ → Bool) (a end r : ℕ) → test a ≡ false → Found test (suc a) end r → Found test a end r
found_skip test a end r fails (nothing zero_is none) = nothing zero_is (λ x from to. elim (dec_lt a x) [ yes later ↦ none x later to | no here ↦ rw (at x from here) fails ])
  where
    at : (x : ℕ) → a ≤ x → ¬ (a < x) → x ≡ a
    at x from here = omega arith
found_skip test a end r fails (found x is from to passes none) =
    found x is (omega arith) to passes (λ y yfrom yto. elim (dec_lt a y) [ yes later ↦ none y later yto | no here ↦ rw (at y yfrom here) fails ])
  where
    at : (y : ℕ) → a ≤ y → ¬ (a < y) → y ≡ a
    at y from here = omega arith

-- a link is such a number, where `at` says of each number whether its entry passes
pub link_in : {A : Type 0} (test : A → Bool) (d : A) (at : ℕ → Bool) (xs : List A) (a end : ℕ) → a + length xs ≡ end
    → ((k : ℕ) → k < length xs → at (a + k) ≡ test (get_or xs k d)) → Found at a end (link test a xs)
link_in test d at [] a end e agree = nothing refl (λ x from to. absurd (omega arith))
link_in test d at (x ∷ xs) a end e agree = go (test x) refl (link_in test d at xs (suc a) end (omega arith) (λ k h. ap at (over a k) ∙ agree (suc k) (omega arith)))
  where
    over : (n k : ℕ) → suc n + k ≡ n + suc k
    over n k = omega arith

    here : at a ≡ test x
    here = ap at (sym (add-zero a)) ∙ agree 0 (omega arith)

    go : (b : Bool) → test x ≡ b → Found at (suc a) end (link test (suc a) xs) → Found at a end (cond b (suc a) (link test (suc a) xs))
    go true passes later = found a refl (omega arith) (omega arith) (here ∙ passes) (λ y from to. absurd (omega arith))
    go false fails later = found_skip at a end _ (here ∙ fails) later

-- there is only one such number
pub found_same : (test : ℕ → Bool) (a end r t : ℕ) → Found test a end r → Found test a end t → r ≡ t
found_same test a end r t (nothing p none) (nothing q none') = p ∙ sym q
found_same test a end r t (nothing p none) (found x q from to passes before) = absurd (clash passes (none x from to))
found_same test a end r t (found x p from to passes before) (nothing q none) = absurd (clash passes (none x from to))
found_same test a end r t (found x p from to passes before) (found y q from' to' passes' before') =
    elim (dec_lt x y) [
      | yes less ↦ absurd (clash passes (before' x from less))
      | no no_less ↦ elim (dec_lt y x) [ yes more ↦ absurd (clash passes' (before y from' more)) | no no_more ↦ omega arith ]
    ]

-- a test that agrees on the range
pub found_agrees : (test other : ℕ → Bool) (a end r : ℕ) → ((x : ℕ) → a ≤ x → x < end → other x ≡ test x) → Found test a end r → Found other a end r
found_agrees test other a end r agree (nothing p none) = nothing p (λ x from to. agree x from to ∙ none x from to)
found_agrees test other a end r agree (found x p from to passes before) =
    found x p from to (agree x from to ∙ passes) (λ y yfrom yto. agree y yfrom (omega arith) ∙ before y yfrom yto)

-- a test that agrees but at `n`, where an earlier number passes
pub found_sooner : (test other : ℕ → Bool) (a end r n w : ℕ) → ((x : ℕ) → (x ≡ n → ⊥) → other x ≡ test x) → a ≤ w → w < n → w < end → test w ≡ true
    → Found test a end r → Found other a end r
found_sooner test other a end r n w agree from to within passes (nothing p none) = absurd (clash passes (none w from within))
found_sooner test other a end r n w agree from to within passes (found x p xfrom xto xpasses before) =
    found x p xfrom xto (agree x (λ e. omega (arith, no_later)) ∙ xpasses) (λ y yfrom yto. agree y (λ e. omega (arith, no_later)) ∙ before y yfrom yto)
  where
    no_later : x ≤ w
    no_later = elim (dec_lt w x) [ yes later ↦ absurd (clash passes (before w from later)) | no h ↦ omega arith ]

-- more numbers in front, none of which passes
pub found_down : (test : ℕ → Bool) (a b end r : ℕ) → a ≤ b → ((x : ℕ) → a ≤ x → x < b → test x ≡ false) → Found test b end r → Found test a end r
found_down test a b end r h none (nothing p later) =
    nothing p (λ x from to. elim (dec_lt x b) [ yes before ↦ none x from before | no after ↦ later x (omega arith) to ])
found_down test a b end r h none (found x p from to passes later) =
    found x p (omega arith) to passes (λ y yfrom yto. elim (dec_lt y b) [ yes before ↦ none y yfrom before | no after ↦ later y (omega arith) yto ])
