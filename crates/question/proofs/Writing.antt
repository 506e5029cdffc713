-- The list written over the first words of the answer, entry by entry.
-- Assumes nothing.
use mathlib.Core.Path.{◌≡◌, refl, sym, ap, ap₂, ◌∙◌}
use mathlib.Core.List.{List, [], ◌∷◌, ◌++◌, append_assoc}
use Prim.Native.Nat.{ℕ, suc, ◌+◌, ◌*◌, ◌≤◌, ◌<◌}
use native.Mathlib.Numerals.{add-one}
use native.Mathlib.Omega.{arith}
use lib.ListN.{length, get_or, set, take, drop, length-set, length-take, length-drop}
use lib.Seq.{take-suc, take_all, drop-drop}
use Rattle.std.proofs.lemmas.List.{length-map, get_or-map}
use Rattle.words.specs.Lists.{word, gather}
use Rattle.words.proofs.Lists.{sum_same, gather_length}
use Rattle.fleet.specs.Question.{Listed, listed_words}
use Rattle.places.specs.Place.{counts_in}
use Rattle.counts.specs.declared.Counts.{Counts}
use Rattle.best_list.specs.Best.{Best, listed, listing, entries}
use Rattle.best_list.specs.declared.Offer.{Offer}
use Rattle.van_offers.specs.Offers.{stamp_in}
use Rattle.places.specs.Place.{van_address}
use Rattle.van_offers.specs.Genuine.{list_in}
use Rattle.question.specs.Kept.{list_written}

-- three words written behind others
three : (front back : List ℕ) (a b c : ℕ) → 3 ≤ length back
    → set (set (set (front ++ back) (length front) a) (suc (length front)) b) (suc (suc (length front))) c ≡ front ++ a ∷ b ∷ c ∷ drop 3 back
three [] [] a b c h = absurd (omega arith)
three [] (x ∷ []) a b c h = absurd (omega arith)
three [] (x ∷ y ∷ []) a b c h = absurd (omega arith)
three [] (x ∷ y ∷ z ∷ back) a b c h = refl
three (w ∷ front) back a b c h = ap (λ (l : List ℕ). w ∷ l) (three front back a b c h)

gather_append : (xs ys : List Listed) → gather listed_words (xs ++ ys) ≡ gather listed_words xs ++ gather listed_words ys
gather_append [] ys = refl
gather_append (x ∷ xs) ys = ap (λ (l : List ℕ). x.van ∷ x.distance ∷ x.stamp ∷ l) (gather_append xs ys)

three_each : (xs : List Listed) → length (gather listed_words xs) ≡ 3 * length xs
three_each xs = gather_length listed_words (λ x. 3) (λ x. refl) xs ∙ sum_same 3 xs

-- the first i entries are written
pub record Writing (list : List Listed) (before : List ℕ) (i : ℕ) (now : List ℕ) : Type 0 where
  pub within : i ≤ length list
  pub fits : 3 * length list ≤ length before
  pub so_far : now ≡ gather listed_words (take i list) ++ drop (3 * i) before
  pub same_length : length now ≡ length before

pub writing_none : (list : List Listed) (before : List ℕ) → 3 * length list ≤ length before → Writing list before 0 before
writing_none list before fits = record { within = omega arith; fits = fits; so_far = refl; same_length = refl }

module _ {list : List Listed} {before : List ℕ} {i : ℕ} {now : List ℕ} (w : Writing list before i now) (h : i < length list) {at : ℕ} {now' : List ℕ} {e : Listed}
    (is_at : at ≡ 3 * i) (isEntry : get_or list i (listed (λ v. 0) 0 0) ≡ e) (isNow : now' ≡ set (set (set now at e.van) (at + 1) e.distance) (at + 2) e.stamp) (long : length now' ≡ length now) where
  front : List ℕ
  front = gather listed_words (take i list)

  front_length : length front ≡ 3 * i
  unfolding front
  front_length = three_each (take i list) ∙ ap (λ (n : ℕ). 3 * n) (omega (arith, length-take i list, h))

  front_next : gather listed_words (take (i + 1) list) ≡ front ++ listed_words e
  unfolding front
  front_next =
      ap (λ (n : ℕ). gather listed_words (take n list)) (add-one i)
      ∙ ap (gather listed_words) (take-suc list i (listed (λ v. 0) 0 0) h)
      ∙ gather_append (take i list) (get_or list i (listed (λ v. 0) 0 0) ∷ [])
      ∙ ap (λ (x : Listed). front ++ listed_words x) isEntry

  pub writing_more : Writing list before (i + 1) now'
  unfolding front
  writing_more =
      record {
        within = omega arith;
        fits = w.fits;
        so_far =
            isNow
            ∙ (λ j. set (set (set (w.so_far j) (first j) e.van) (second j) e.distance) (third j) e.stamp)
            ∙ three front (drop (3 * i) before) e.van e.distance e.stamp (omega (arith, length-drop (3 * i) before, w.fits, h))
            ∙ ap (λ (l : List ℕ). front ++ e.van ∷ e.distance ∷ e.stamp ∷ l) rest
            ∙ sym (append_assoc front (listed_words e) (drop (3 * (i + 1)) before))
            ∙ ap (λ (l : List ℕ). l ++ drop (3 * (i + 1)) before) (sym front_next);
        same_length = long ∙ w.same_length;
      }
    where
      first : at ≡ length front
      first = is_at ∙ sym front_length

      second : at + 1 ≡ suc (length front)
      second = omega (arith, first)

      third : at + 2 ≡ suc (suc (length front))
      third = omega (arith, first)

      rest : drop 3 (drop (3 * i) before) ≡ drop (3 * (i + 1)) before
      rest =
          let onward : 3 * i + 3 ≡ 3 * (i + 1) = omega arith in
          drop-drop 3 (3 * i) before ∙ ap (λ (n : ℕ). drop n before) onward

pub writing_all : {list : List Listed} {before : List ℕ} {i : ℕ} {now : List ℕ} → Writing list before i now → length list ≤ i → now ≡ list_written list before
unfolding list_written
writing_all {list} {before} {i} {now} w all =
    let same : i ≡ length list = omega (arith, w.within) in
    w.so_far ∙ ap₂ (λ (xs : List Listed) (n : ℕ). gather listed_words xs ++ drop (3 * n) before) (take_all i list all) same

-- The offers of a list, as its entries.
module _ (mem : List ℕ) (counts : Counts) (best : Best) (before : List ℕ) where
  abbrev list : List Listed
  list = entries (stamp_in mem counts) best

  list_length : length list ≡ length best.offers
  list_length = length-map best.offers (listing (stamp_in mem counts))

  pub write_none : 3 * length best.offers ≤ length before → Writing list before 0 before
  write_none fits = writing_none list before (omega (arith, list_length))

  abbrev at_place : List Offer → ℕ → Offer
  at_place items i = get_or items i (record { far = 0; van = 0 })

  pub write_more : (i : ℕ) (items : List Offer) {now now' : List ℕ} {stamp : ℕ} → items ≡ best.offers → Writing list before i now → i < length items → stamp ≡ word mem (van_address counts (at_place items i).van + 3)
      → now' ≡ set (set (set now (3 * i) (at_place items i).van) (3 * i + 1) (at_place items i).far) (3 * i + 2) stamp → Writing list before (i + 1) now'
  write_more i items {now} {now'} {stamp} same w h isStamp isNow =
      let here : i < length best.offers = omega (arith, h, ap length same) in
      writing_more w (omega (arith, list_length)) {e = listing (stamp_in mem counts) (at_place items i)} refl
      (get_or-map (listing (stamp_in mem counts)) best.offers i (record { far = 0; van = 0 }) (listed (λ v. 0) 0 0) here ∙ ap (λ (l : List Offer). listing (stamp_in mem counts) (at_place l i)) (sym same))
      (isNow ∙ ap (λ (s : ℕ). set (set (set now (3 * i) (at_place items i).van) (3 * i + 1) (at_place items i).far) (3 * i + 2) s) isStamp)
      (ap length isNow ∙ simp length-set)

  pub write_all : (i : ℕ) {now : List ℕ} → counts ≡ counts_in mem → Writing list before i now → length best.offers ≤ i → now ≡ list_written (list_in mem best) before
  write_all i isCounts w all =
      writing_all w (omega (arith, list_length)) ∙ ap (λ (c : Counts). list_written (entries (stamp_in mem c) best) before) isCounts
