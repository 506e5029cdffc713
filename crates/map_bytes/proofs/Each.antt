-- Chains that test each number below n, or each of the first n numbers of a list.
-- Assumes nothing.
use mathlib.Core.Path.{◌≡◌, refl, ap, ◌∙◌}
use mathlib.Core.List.{List, [], ◌∷◌, map}
use lib.ListN.{length, take, drop}
use lib.Seq.{drop-cons}
use denote.Ref.{Bor}
use mathlib.Core.Bool.{Bool, ◌&&◌}
use Prim.Native.Nat.{ℕ, zero, suc, ◌+◌, ◌-◌, ◌≤◌}
use Rattle.std.proofs.Common.{Iter, add-one}
use Rattle.std.specs.Slice.Iter.{iter_rest}
use native.Mathlib.Omega.{arith}
use denote.Param.Members.{Mut}
use Rattle.std.specs.Fn.{Called}
use Rattle.std.specs.Iterator.{ChecksAll}
use Rattle.std.specs.List.{list_all, range_with_len}
use Rattle.std.proofs.iter.Yields.{fronts, nat_range_steps}
use Rattle.std.specs.declared.ops.Range.{Range}
use Rattle.std.proofs.lemmas.Iterator.{YieldsList-from_slice, YieldsList-from_range}
use Rattle.std.proofs.lemmas.Iterator.Search.{all_from_yields_List}
use Rattle.words.specs.Lists.{count_from, up_to, word, all}
use Rattle.words.proofs.Tested.{all_map}

all_listed : (test : ℕ → Bool) (a n : ℕ) → list_all test (range_with_len a n) ≡ all test (count_from a n)
all_listed test a zero = refl
all_listed test a (suc n) = rw add-one (ap (λ (b : Bool). test a && b) (all_listed test (suc a) n))

-- what `(0..n).all(test)` answers
pub all_is : {F : Type 0} {g : Mut F (ℕ × Unit {0}) Bool} (test : ℕ → Bool) (n : ℕ) {s u : Range ℕ} {f : F} {r : Bool} → ChecksAll nat_range_steps g s f r u
    → s ≡ record { start = 0; end = n } → ((x : ℕ) (b : Bool) (q : F) → Called g f (x, tt) b q → (q ≡ f) × (b ≡ test x)) → r ≡ all test (up_to n)
all_is test n {s} {u} {f} {r} ran is calls = all_from_yields_List test u f r ran (YieldsList-from_range 0 n n is (let whole : n - 0 ≡ n = omega arith in whole)) calls ∙ all_listed test 0 n

all_same : (test : ℕ → Bool) (xs : List ℕ) → list_all test xs ≡ all test xs
all_same test [] = refl
all_same test (x ∷ xs) = ap (λ (b : Bool). test x && b) (all_same test xs)

-- a list's numbers from place a on, n of them
front_from : (xs : List ℕ) (a n : ℕ) → a + n ≤ length xs → take n (drop a xs) ≡ map (word xs) (count_from a n)
front_from xs a zero h = refl
front_from xs a (suc n) h =
    ap (take (suc n)) (drop-cons xs a 0 (omega arith)) ∙ ap (λ (l : List ℕ). word xs a ∷ l) (front_from xs (suc a) n (omega arith))

-- what `numbers[..n].iter().all(test)` answers
pub all_in : {F : Type 0} {g : Mut F (Bor ℕ × Unit {0}) Bool} (test : ℕ → Bool) (numbers : List ℕ) (n : ℕ) {s u : Iter ℕ} {f : F} {r : Bool} → n ≤ length numbers
    → ChecksAll fronts g s f r u → iter_rest s ≡ take n numbers → ((x : Bor ℕ) (b : Bool) (q : F) → Called g f (x, tt) b q → (q ≡ f) × (b ≡ test x.now))
    → r ≡ all (λ i. test (word numbers i)) (up_to n)
all_in test numbers n {s} {u} {f} {r} h ran is calls =
    all_from_yields_List test u f r ran (YieldsList-from_slice (take n numbers) is) calls
    ∙ all_same test (take n numbers)
    ∙ ap (all test) (front_from numbers 0 n (omega arith))
    ∙ all_map test (word numbers) (up_to n)
