-- The offers of a list of vans, one van at a time, and those of some rows, one row at a time.
-- Assumes nothing.
use mathlib.Core.Path.{◌≡◌, refl, sym, ap, ◌∙◌}
use mathlib.Core.List.{List, [], ◌∷◌, ◌++◌}
use Prim.Native.Nat.{ℕ, zero, suc, ◌+◌, ◌-◌, ◌≤◌, ◌<◌, min}
use native.Mathlib.Numerals.{add-one}
use native.Mathlib.Omega.{arith}
use lib.ListN.{length, drop, drop_of_length-le}
use lib.Seq.{drop-cons}
use borrow.Author.Tests.{lt-ltb, le-ltb}
use Rattle.words.specs.Limits.{FAR}
use Rattle.words.specs.Lists.{word}
use Rattle.counts.specs.declared.Counts.{Counts}
use Rattle.places.specs.Place.{vertex_address, van_address}
use Rattle.fleet.specs.Question.{Listed}
use Rattle.best_list.specs.Best.{listed, limit_of, offered, offered_all}
use Rattle.best_list.proofs.Pass.{offer_beyond}
use Rattle.van_offers.specs.Offers.{stamp_in, van_offers, row_owner, vertex_offers, row_offers}

pub offered_append : (k : ℕ) (l a b : List Listed) → offered_all k l (a ++ b) ≡ offered_all k (offered_all k l a) b
unfolding offered_all
offered_append k l [] b = refl
offered_append k l (e ∷ a) b = offered_append k (offered k e l) a b

module _ (mem : List ℕ) (counts : Counts) (near k : ℕ) (l : List Listed) where
  -- beyond the limit nothing changes
  pub vans_beyond : (n link : ℕ) → near ≤ FAR → limit_of k l < near → offered_all k l (van_offers mem counts near n link) ≡ l
  unfolding offered_all van_offers
  vans_beyond zero link most beyond = refl
  vans_beyond (suc n) zero most beyond = refl
  vans_beyond (suc n) (suc van) most beyond =
      ap (λ (r : List Listed). offered_all k r (van_offers mem counts near n (word mem (van_address counts van + 4))))
      (offer_beyond k (listed (stamp_in mem counts) (min (near + word mem (van_address counts van + 2)) FAR) van) l (omega arith))
      ∙ (vans_beyond n (word mem (van_address counts van + 4)) most beyond)

  -- the list of vans has ended, or as many were followed as there are
  pub vans_end : {target : List Listed} (left link : ℕ) → link ≡ 0 → offered_all k l (van_offers mem counts near left link) ≡ target → l ≡ target
  unfolding offered_all van_offers
  vans_end zero link ended e = e
  vans_end (suc left) zero ended e = e
  vans_end (suc left) (suc van) ended e = absurd (omega arith)

  pub vans_out : {target : List Listed} (left link : ℕ) → left ≤ 0 → offered_all k l (van_offers mem counts near left link) ≡ target → l ≡ target
  unfolding offered_all van_offers
  vans_out zero link out e = e
  vans_out (suc left) link out e = absurd (omega arith)

  vans_step : (left fewer link van offset far next : ℕ) → left ≡ suc fewer → 1 ≤ link → van ≡ link - 1 → offset ≡ word mem (van_address counts van + 2) → far ≡ min (near + offset) 4294967295
      → next ≡ word mem (van_address counts van + 4) → offered_all k (offered k (listed (stamp_in mem counts) far van) l) (van_offers mem counts near fewer next) ≡ offered_all k l (van_offers mem counts near left link)
  unfolding offered_all van_offers
  vans_step zero fewer link van offset far next some real isVan isOffset isFar isNext = absurd (omega arith)
  vans_step (suc n) fewer zero van offset far next some real isVan isOffset isFar isNext = absurd (omega arith)
  vans_step (suc n) fewer (suc v) van offset far next some real isVan isOffset isFar isNext =
      let same : van ≡ v = omega arith in
      let one_less : fewer ≡ n = omega arith in
      λ i. offered_all k (offered k (listed (stamp_in mem counts) (far_is same i) (same i)) l) (van_offers mem counts near (one_less i) (next_is same i))
    where
      far_is : van ≡ v → far ≡ min (near + word mem (van_address counts v + 2)) FAR
      far_is same = isFar ∙ ap (λ (o : ℕ). min (near + o) FAR) (isOffset ∙ ap (λ (w : ℕ). word mem (van_address counts w + 2)) same)

      next_is : van ≡ v → next ≡ word mem (van_address counts v + 4)
      next_is same = isNext ∙ ap (λ (w : ℕ). word mem (van_address counts w + 4)) same

  pub vans_again : {target after : List Listed} (left fewer link van offset far next : ℕ) → left ≡ suc fewer → 1 ≤ link → van ≡ link - 1 → offset ≡ word mem (van_address counts van + 2)
      → far ≡ min (near + offset) 4294967295 → next ≡ word mem (van_address counts van + 4) → after ≡ offered k (listed (stamp_in mem counts) far van) l
      → offered_all k l (van_offers mem counts near left link) ≡ target → offered_all k after (van_offers mem counts near fewer next) ≡ target
  vans_again left fewer link van offset far next some real isVan isOffset isFar isNext isAfter rest =
      ap (λ (r : List Listed). offered_all k r (van_offers mem counts near fewer next)) isAfter
      ∙ vans_step left fewer link van offset far next some real isVan isOffset isFar isNext
      ∙ rest

-- Some rows, one after the other: number t is row i.
module _ (mem : List ℕ) (counts : Counts) (first : ℕ) (dx rows : List ℕ) (k t : ℕ) (h : t < length rows) (l target : List Listed)
    (rest : offered_all k l (row_offers mem counts first dx (drop t rows)) ≡ target) {i : ℕ} (is_row : i ≡ word rows t) where
  -- what is offered at row i, then the rows after it
  next_row : offered_all k (offered_all k l (vertex_offers mem counts (row_owner mem first i) (word dx (row_owner mem first i)))) (row_offers mem counts first dx (drop (t + 1) rows)) ≡ target
  unfolding row_offers
  next_row =
      sym (offered_append k l (vertex_offers mem counts (row_owner mem first i) (word dx (row_owner mem first i))) (row_offers mem counts first dx (drop (t + 1) rows)))
      ∙ ap (λ (r : List ℕ). offered_all k l (row_offers mem counts first dx r)) next
      ∙ rest
    where
      next : i ∷ drop (t + 1) rows ≡ drop t rows
      next = (λ j. is_row j ∷ drop (add-one t j) rows) ∙ sym (drop-cons rows t 0 h)

  module _ {v near : ℕ} (isOwner : v ≡ row_owner mem first i) (isNear : near ≡ word dx v) where
    near_is : near ≡ word dx (row_owner mem first i)
    near_is = isNear ∙ ap (word dx) isOwner

    none_near : FAR ≤ near → vertex_offers mem counts (row_owner mem first i) (word dx (row_owner mem first i)) ≡ []
    unfolding vertex_offers
    none_near far = rw (le-ltb (word dx (row_owner mem first i)) FAR (omega (arith, near_is)))

    some_near : near < FAR → vertex_offers mem counts (row_owner mem first i) (word dx (row_owner mem first i))
        ≡ van_offers mem counts (word dx (row_owner mem first i)) 1024 (word mem (vertex_address counts (row_owner mem first i) + 4))
    unfolding vertex_offers
    some_near real = rw (lt-ltb (word dx (row_owner mem first i)) FAR (omega (arith, near_is)))

    pub rows_skip : FAR ≤ near → offered_all k l (row_offers mem counts first dx (drop (t + 1) rows)) ≡ target
    unfolding offered_all
    rows_skip far =
        ap (λ (es : List Listed). offered_all k (offered_all k l es) (row_offers mem counts first dx (drop (t + 1) rows))) (sym (none_near far)) ∙ next_row

    pub rows_offer : {link : ℕ} {after : List Listed} → near < FAR → link ≡ word mem (vertex_address counts v + 4) → after ≡ offered_all k l (van_offers mem counts near 1024 link)
        → offered_all k after (row_offers mem counts first dx (drop (t + 1) rows)) ≡ target
    rows_offer {link} {after} real isLink isAfter =
        ap (λ (r : List Listed). offered_all k r (row_offers mem counts first dx (drop (t + 1) rows)))
        (isAfter
        ∙ (λ j. offered_all k l (van_offers mem counts (near_is j) 1024 ((isLink ∙ ap (λ (u : ℕ). word mem (vertex_address counts u + 4)) isOwner) j)))
        ∙ ap (offered_all k l) (sym (some_near real)))
        ∙ next_row

pub rows_done : (mem : List ℕ) (counts : Counts) (first : ℕ) (dx rows : List ℕ) (k t : ℕ) → length rows ≤ t → (l target : List Listed)
    → offered_all k l (row_offers mem counts first dx (drop t rows)) ≡ target → l ≡ target
unfolding row_offers offered_all
rows_done mem counts first dx rows k t h l target rest =
    ap (λ (r : List ℕ). offered_all k l (row_offers mem counts first dx r)) (sym (drop_of_length-le rows {i = t} h)) ∙ rest
