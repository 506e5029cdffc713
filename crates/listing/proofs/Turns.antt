-- Lists written entry by entry: each entry is written, and counts if it passes a test.
-- Assumes nothing.
use mathlib.Core.Path.{◌≡◌, refl, sym, ◌∙◌, ap, subst}
use mathlib.Core.Bool.{Bool, true, false, cond}
use mathlib.Core.List.{List, [], ◌∷◌, ◌++◌, map, append_assoc, append-nil, Memᴰ}
use Prim.Native.Nat.{ℕ, suc, ◌+◌, ◌-◌, ◌≤◌, ◌<◌}
use native.Mathlib.Numerals.{add-one}
use native.Mathlib.Omega.{arith}
use lib.ListN.{length, take, set}
use lib.Seq.{take-suc-set, take-set-le, length-take-le}
use Rattle.words.specs.Lists.{word, up_to, count_from, keep, place_in}
use Rattle.words.proofs.Lists.{count_from_below, keep_says, place_in_lem}
use Rattle.words.proofs.Places.{entry_in}
use Rattle.listing.specs.Lists.{EachBelow}

map_same : (xs : List ℕ) → map (λ i. i) xs ≡ xs
map_same [] = refl
map_same (x ∷ xs) = ap (λ (l : List ℕ). x ∷ l) (map_same xs)

-- nothing is listed yet
pub listed_first : {A : Type 0} (test : ℕ → Bool) (f : ℕ → A) (array : List A) (size : ℕ) → take 0 array ++ map f (keep test (count_from 0 (size - 0))) ≡ map f (keep test (up_to size))
listed_first test f array size = ap (λ (k : ℕ). map f (keep test (count_from 0 k))) (let all : size - 0 ≡ size = omega arith in all)

module _ (test : ℕ → Bool) {A : Type 0} (array : List A) (left k i n next : ℕ) (x : A) (is : Bool) (e : left ≡ suc k) (room : n < length array) (q : is ≡ test i) (r : next ≡ cond is (n + 1) n) where
  -- what counts so far and what is left stays the whole
  pub listed_turn : (f : ℕ → A) → x ≡ f i → take next (set array n x) ++ map f (keep test (count_from (i + 1) k)) ≡ take n array ++ map f (keep test (count_from i left))
  listed_turn f p = by is q r
    where
      later : List ℕ
      later = keep test (count_from (suc i) k)

      rest : (b : Bool) → b ≡ test i → take n array ++ map f (cond b (i ∷ later) later) ≡ take n array ++ map f (keep test (count_from i left))
      rest b t = ap (λ (c : Bool). take n array ++ map f (cond c (i ∷ later) later)) t ∙ ap (λ (l : ℕ). take n array ++ map f (keep test (count_from i l))) (sym e)

      by : (b : Bool) → b ≡ test i → next ≡ cond b (n + 1) n → take next (set array n x) ++ map f (keep test (count_from (i + 1) k)) ≡ take n array ++ map f (keep test (count_from i left))
      by true t m =
          (λ j. take ((m ∙ add-one n) j) (set array n x) ++ map f (keep test (count_from (add-one i j) k)))
          ∙ ap (λ (l : List A). l ++ map f later) (take-suc-set array n x room)
          ∙ append_assoc (take n array) (x ∷ []) (map f later)
          ∙ ap (λ (y : A). take n array ++ (y ∷ map f later)) p
          ∙ rest true t
      by false t m =
          (λ j. take (m j) (set array n x) ++ map f (keep test (count_from (add-one i j) k)))
          ∙ ap (λ (l : List A). l ++ map f later) (take-set-le n array n x (omega arith))
          ∙ rest false t

pub numbers_turn : (test : ℕ → Bool) (array : List ℕ) (left k i n next x : ℕ) (is : Bool) → left ≡ suc k → n < length array → is ≡ test i → next ≡ cond is (n + 1) n → x ≡ i
    → take next (set array n x) ++ keep test (count_from (i + 1) k) ≡ take n array ++ keep test (count_from i left)
numbers_turn test array left k i n next x is e room q r p =
    ap (λ (l : List ℕ). take next (set array n x) ++ l) (sym (map_same (keep test (count_from (i + 1) k))))
    ∙ listed_turn test array left k i n next x is e room q r (λ j. j) p
    ∙ ap (λ (l : List ℕ). take n array ++ l) (map_same (keep test (count_from i left)))

module _ (test : ℕ → Bool) {A : Type 0} (array whole : List A) (left i n : ℕ) (none : left ≤ 0) where
  pub listed_done : (f : ℕ → A) → take n array ++ map f (keep test (count_from i left)) ≡ whole → take n array ≡ whole
  listed_done f e = sym (append-nil (take n array)) ∙ ap (λ (l : ℕ). take n array ++ map f (keep test (count_from i l))) (let z : 0 ≡ left = omega arith in z) ∙ e

pub numbers_done : (test : ℕ → Bool) (array whole : List ℕ) (left i n : ℕ) → left ≤ 0 → take n array ++ keep test (count_from i left) ≡ whole → take n array ≡ whole
numbers_done test array whole left i n none e =
    sym (append-nil (take n array)) ∙ ap (λ (l : ℕ). take n array ++ keep test (count_from i l)) (let z : 0 ≡ left = omega arith in z) ∙ e

-- so many entries are listed
pub listed_count : {A : Type 0} (n : ℕ) (array : List A) → n ≤ length array → n ≡ length (take n array)
listed_count n array h = sym (length-take-le n array h)

-- an entry of a list of numbers below a limit is one
pub entry_below : (size : ℕ) (numbers : List ℕ) → EachBelow size numbers → (i : ℕ) → Memᴰ i numbers → i < size
entry_below size numbers below i h = let at = place_in_lem i numbers h in omega (arith, below (place_in i numbers) at.0, at.1)

-- a listed number is below the limit
pub kept_below : (test : ℕ → Bool) (size : ℕ) (numbers : List ℕ) → numbers ≡ keep test (up_to size) → EachBelow size numbers
kept_below test size numbers e k h =
    omega (arith, count_from_below 0 size (word numbers k) (keep_says test (up_to size) (word numbers k) (subst (λ (l : List ℕ). Memᴰ (word numbers k) l) e (entry_in numbers k 0 h))).0)
