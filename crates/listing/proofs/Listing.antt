-- The numbers that pass a test, listed one by one.
-- Assumes nothing.
use mathlib.Core.Path.{◌≡◌, refl, sym, ap, subst, subst⁻¹, ◌∙◌}
use mathlib.Core.Bool.{Bool, cond}
use mathlib.Core.List.{List, ◌++◌, Memᴰ}
use Prim.Native.Nat.{ℕ, ◌+◌, ◌-◌, ◌≤◌, ◌<◌}
use native.Mathlib.Decide.{ℕ_discrete}
use native.Mathlib.Omega.{arith}
use lib.ListN.{length, set, take, length-set}
use lib.Seq.{length-take-le, get_or-take, get_or-set_same, get_or-set_other}
use Rattle.words.specs.Lists.{word, up_to, count_from, keep, place_in}
use Rattle.words.proofs.Lists.{up_to_has, count_from_below, keep_says, keep_has, place_in_lem}
use Rattle.words.proofs.Places.{entry_in}
use Rattle.listing.specs.Lists.{Lists}
use Rattle.listing.proofs.Turns.{numbers_turn, numbers_done}

-- what the numbers that pass a test say of a list of them
pub lists_of : (test : ℕ → Bool) (size : ℕ) (list : List ℕ) (count : ℕ) → count ≤ length list → count ≤ size → take count list ≡ keep test (up_to size) → ((s t : ℕ) → s < t → t < count → word list s < word list t) → Lists test size list count
lists_of test size list count long few e rise =
    record {
      few = few;
      these = e;
      rise = rise;
      all = λ i h passes.
          let at = place_in_lem i (take count list) (subst⁻¹ (Memᴰ i) e (keep_has test (up_to size) i (up_to_has size i h) passes)) in
          let here : place_in i (take count list) < count = omega (arith, at.0, taken) in
          (place_in i (take count list), here, sym (get_or-take count list (place_in i (take count list)) 0 here) ∙ at.1);
      only = λ t h.
          let there = keep_says test (up_to size) (word (take count list) t) (subst (Memᴰ (word (take count list) t)) e (entry_in (take count list) t 0 (omega (arith, taken)))) in
          let same : word (take count list) t ≡ word list t = get_or-take count list t 0 h in
          (omega (arith, same, count_from_below 0 size (word (take count list) t) there.0), ap test (sym same) ∙ there.1);
    }
  where
    taken : length (take count list) ≡ count
    taken = length-take-le count list (omega arith)

-- The numbers that pass a test, listed up to i: what is listed and what is left to look at stays the whole.
pub record Listing (test : ℕ → Bool) (size i : ℕ) (list : List ℕ) (count : ℕ) : Type 0 where
  pub long : count ≤ length list
  pub few : count ≤ i
  pub whole : take count list ++ keep test (count_from i (size - i)) ≡ keep test (up_to size)
  pub below : (t : ℕ) → t < count → word list t < i
  pub rise : (s t : ℕ) → s < t → t < count → word list s < word list t

module _ {test : ℕ → Bool} {size : ℕ} where
  pub listing_none : {list : List ℕ} → Listing test size 0 list 0
  listing_none =
      let all : size - 0 ≡ size = omega arith in
      record {
        long = omega arith;
        few = omega arith;
        whole = ap (λ (k : ℕ). keep test (count_from 0 k)) all;
        below = λ t h. absurd (omega arith);
        rise = λ s t h k. absurd (omega arith);
      }

  pub listing_more : {i : ℕ} {list : List ℕ} {count : ℕ} → Listing test size i list count → i < size → size ≤ length list → {is : Bool} {list' : List ℕ} {count' : ℕ} → is ≡ test i → list' ≡ set list count i
      → (count' ≡ cond is (count + 1) count) × (count' ≤ count + 1) → Listing test size (i + 1) list' count'
  listing_more {i} {list} {count} l h room {is} {list'} {count'} isTest isList (isCount, most) =
      record {
        long = omega (arith, ap length isList, length-set list count i, l.few);
        few = omega (arith, l.few);
        whole = ap (λ (a : List ℕ). take count' a ++ keep test (count_from (i + 1) (size - (i + 1)))) isList
            ∙ numbers_turn test list (size - i) (size - (i + 1)) i count count' i is (omega arith) (omega (arith, l.few)) isTest isCount refl
            ∙ l.whole;
        below = λ t ht. below t ht (ℕ_discrete t count);
        rise = λ s t hs ht. rise s t hs ht (ℕ_discrete t count);
      }
    where
      here : word list' count ≡ i
      here = ap (λ (w : List ℕ). word w count) isList ∙ get_or-set_same list count i 0 (omega (arith, l.few))

      old : (t : ℕ) → (t ≡ count → ⊥) → word list' t ≡ word list t
      old t other = ap (λ (w : List ℕ). word w t) isList ∙ get_or-set_other list count t i 0 other

      below : (t : ℕ) → t < count' → Dec (t ≡ count) → word list' t < i + 1
      below t ht (yes same) = omega (arith, ap (word list') same, here)
      below t ht (no other) = omega (arith, old t other, l.below t (omega (arith, other)))

      rise : (s t : ℕ) → s < t → t < count' → Dec (t ≡ count) → word list' s < word list' t
      rise s t hs ht (yes same) = omega (arith, ap (word list') same, here, old s (λ e. omega (arith, e, hs, same)), l.below s (omega arith))
      rise s t hs ht (no other) = omega (arith, old s (λ e. omega (arith, e, hs, ht, most, other)), old t other, l.rise s t hs (omega (arith, other)))

  pub listing_all : {i : ℕ} {list : List ℕ} {count : ℕ} → Listing test size i list count → i ≤ size → size ≤ i → Lists test size list count
  listing_all {i} {list} {count} l low high =
      lists_of test size list count l.long (omega (arith, l.few)) (numbers_done test list (keep test (up_to size)) (size - i) i count (omega arith) l.whole) l.rise
