-- The pass over the offers, and an offer put in at its place among offers in order, which comes to the same.
-- Assumes nothing.
use mathlib.Core.Path.{◌≡◌, refl, sym, ap, ap₂, subst, ◌∙◌}
use mathlib.Core.Logic.{inl, inr, ⊎_elim}
use mathlib.Core.Bool.{true, false}
use mathlib.Core.List.{List, [], ◌∷◌, ◌++◌}
use Prim.Native.Nat.{ℕ, zero, suc, ◌+◌, ◌-◌, ◌≤◌, ◌<◌}
use native.Mathlib.Numerals.{add-one}
use native.Mathlib.Nat.{le_of_suc-le-suc, not-suc-le-zero}
use native.Mathlib.Decide.{dec_lt}
use native.Mathlib.Omega.{arith}
use lib.ListN.{length, take, drop, get_or, set, length-take, get_or-map}
use lib.Seq.{get_or-set_other, drop-cons, take-suc, take-set-lt, drop-length, append_snoc, take_all, take_at, drop_at, set_at}
use borrow.Author.Tests.{lt-ltb, le-ltb}
use Rattle.std.specs.Prelude.{map}
use Rattle.std.specs.List.{insert, take-map, drop-map}
use Rattle.std.proofs.lemmas.List.{get_or-take, take_more_set, length-map, map-append, get_or-map as get_or-map_any}
use Rattle.std.proofs.lemmas.List.Edits.{length-insert, get_or-insert_below, get_or-insert_at, get_or-insert_above}
use Rattle.words.proofs.Tests.{true_or_false, pair_le_trans, pair_first, pair_second, pair_says}
use Rattle.fleet.specs.Question.{Listed, listed_before}
use Rattle.best_list.specs.declared.Offer.{Offer}
use Rattle.best_list.specs.Best.{listed, listing, pass, limit_of, offered, NoLater, offer_at, InOrder, BeforeNone}

-- What the order of two entries tells of their offers, and the other way round.
pub in_front : (a b : Offer) → ((stampOf : ℕ → ℕ) → listed_before (listing stampOf a) (listing stampOf b) ≡ true) → NoLater a b
unfolding listed_before
in_front a b before = pair_first a.far a.van b.far b.van (before (λ u. 0))

pub in_back : (a b : Offer) → ((stampOf : ℕ → ℕ) → listed_before (listing stampOf a) (listing stampOf b) ≡ false) → NoLater b a
unfolding listed_before
in_back a b before = pair_second a.far a.van b.far b.van (before (λ u. 0))

not_before : (stampOf : ℕ → ℕ) (a b : Offer) → NoLater b a → listed_before (listing stampOf a) (listing stampOf b) ≡ false
unfolding listed_before
not_before stampOf a b later = ⊎_elim (λ before. absurd (both later (pair_says a.far a.van b.far b.van before))) (λ e. e) (true_or_false _)
  where
    both : NoLater b a → NoLater (record { far = a.far; van = suc a.van }) b → ⊥
    both (inl p) (inl q) = omega arith
    both (inl p) (inr q) = omega arith
    both (inr p) (inl q) = omega arith
    both (inr p) (inr q) = omega arith

no_later_trans : {a b c : Offer} → NoLater a b → NoLater b c → NoLater a c
no_later_trans p q = pair_le_trans _ _ _ _ _ _ p q

-- an offer that does not come before the one at a place, where they are in order, comes before none up to there
pub from_last : {offers : List Offer} {offer : Offer} (p : ℕ) → InOrder offers → p < length offers → NoLater (offer_at offers p) offer → BeforeNone offers (p + 1) offer
from_last {offers} {offer} p order inside last = record { earlier = λ i h. by i h (dec_lt i p) }
  where
    by : (i : ℕ) → i < p + 1 → Dec (i < p) → NoLater (offer_at offers i) offer
    by i h (yes less) = no_later_trans (order.earlier i p less inside) last
    by i h (no past) =
        let same : p ≡ i = omega (arith, past) in
        subst (λ (j : ℕ). NoLater (offer_at offers j) offer) same last

-- Parts of offers in order.
order_tail : {x : Offer} {l : List Offer} → InOrder (x ∷ l) → InOrder l
order_tail order = record { earlier = λ i j less h. order.earlier (suc i) (suc j) (omega arith) (omega arith) }

order_drop : (n : ℕ) {l : List Offer} → InOrder l → InOrder (drop n l)
order_drop zero order = order
order_drop (suc n) {l = []} order = order
order_drop (suc n) {l = x ∷ l} order = order_drop n (order_tail order)

pub order_take : (n : ℕ) {l : List Offer} → InOrder l → InOrder (take n l)
order_take n {l} order =
    record { earlier = λ i j less h. rw (get_or-take n l i _ (omega (arith, less, h, length-take n l)), get_or-take n l j _ (omega (arith, h, length-take n l))) (order.earlier i j less (omega (arith, h, length-take n l))) }

-- an offer put in behind those that it comes before none of, and before the next
order_insert : {l : List Offer} {e : Offer} (i : ℕ) → InOrder l → i ≤ length l → BeforeNone l i e → (i < length l → NoLater e (offer_at l i)) → InOrder (insert l i e)
order_insert {l} {e} i order within first next =
    record { earlier = λ p q less h. by p q less (omega (arith, h, length-insert l i e within)) (dec_lt p i) (dec_lt q i) }
  where
    below : (j : ℕ) → j < i → offer_at (insert l i e) j ≡ offer_at l j
    below j h = get_or-insert_below l i e _ j h within

    here : (j : ℕ) → j ≡ i → offer_at (insert l i e) j ≡ e
    here j same = ap (offer_at (insert l i e)) same ∙ get_or-insert_at l i e _ within

    above : (j : ℕ) → i < j → offer_at (insert l i e) j ≡ offer_at l (j - 1)
    above j h =
        let on : j ≡ j - 1 + 1 = omega (arith, h) in
        ap (offer_at (insert l i e)) on ∙ get_or-insert_above l i e _ (j - 1) (omega (arith, h)) within

    later : (j : ℕ) → i ≤ j → j < length l → Dec (i < j) → NoLater e (offer_at l j)
    later j h inside (yes past) = no_later_trans (next (omega arith)) (order.earlier i j past inside)
    later j h inside (no not-past) =
        let same : i ≡ j = omega (arith, h, not-past) in
        subst (λ (n : ℕ). NoLater e (offer_at l n)) same (next (omega (arith, same, inside)))

    behind : (p q : ℕ) → p < q → q < length l + 1 → i < q → Dec (i < p) → Dec (p < i) → NoLater (offer_at (insert l i e) p) (offer_at l (q - 1))
    behind p q less h past (yes after) before = rw (above p after) (order.earlier (p - 1) (q - 1) (omega arith) (omega arith))
    behind p q less h past (no not-after) (yes before) = rw (below p before) (order.earlier p (q - 1) (omega arith) (omega arith))
    behind p q less h past (no not-after) (no not-before) =
        rw (here p (omega (arith, not-after, not-before))) (later (q - 1) (omega arith) (omega arith) (dec_lt i (q - 1)))

    by : (p q : ℕ) → p < q → q < length l + 1 → Dec (p < i) → Dec (q < i) → NoLater (offer_at (insert l i e) p) (offer_at (insert l i e) q)
    by p q less h before (yes low) = rw (below p (omega arith), below q low) (order.earlier p q less (omega arith))
    by p q less h (yes before) (no high) = at_or_past (dec_lt i q)
      where
        at_or_past : Dec (i < q) → NoLater (offer_at (insert l i e) p) (offer_at (insert l i e) q)
        at_or_past (yes past) = rw (above q past) (behind p q less h past (dec_lt i p) (dec_lt p i))
        at_or_past (no at) = rw (here q (omega (arith, high, at)), below p before) (first.earlier p before)
    by p q less h (no not-before) (no high) =
        let past : i < q = omega (arith, less, not-before) in
        rw (above q past) (behind p q less h past (dec_lt i p) (dec_lt p i))

-- One turn of the pass, at place i.
module _ (i : ℕ) (e : Listed) (l : List Listed) (z : Listed) (h : i < length l) where
  stays_behind : listed_before e (get_or l i z) ≡ false → take (suc i) l ++ pass e (drop (suc i) l) ≡ take i l ++ pass e (drop i l)
  unfolding pass
  stays_behind k = rw (take-suc l i z h, drop-cons l i z h, k, append_snoc)

-- a pass leaves those at the front that the offer comes before none of
front_stays : (stampOf : ℕ → ℕ) {l : List Offer} {e : Offer} (i : ℕ) → i ≤ length l → BeforeNone l i e
    → take i (map (listing stampOf) l) ++ pass (listing stampOf e) (drop i (map (listing stampOf) l)) ≡ pass (listing stampOf e) (map (listing stampOf) l)
front_stays stampOf zero within first = refl
front_stays stampOf {l} {e} (suc i) within first =
    stays_behind i (listing stampOf e) (map (listing stampOf) l) (listed stampOf 0 0) (omega (arith, within, length-map l (listing stampOf)))
    (ap (listed_before (listing stampOf e)) (get_or-map (listing stampOf) l i (record { far = 0; van = 0 })) ∙ not_before stampOf e (offer_at l i) (first.earlier i (omega arith)))
    ∙ front_stays stampOf i (omega arith) (record { earlier = λ j below. first.earlier j (omega arith) })

-- two offers of which neither comes before the other are listed alike
alike : (stampOf : ℕ → ℕ) {a b : Offer} → NoLater a b → NoLater b a → listing stampOf a ≡ listing stampOf b
alike stampOf {a} {b} p q = by p q
  where
    by : NoLater a b → NoLater b a → listing stampOf a ≡ listing stampOf b
    by (inl x) (inl y) = absurd (omega arith)
    by (inl x) (inr y) = absurd (omega arith)
    by (inr x) (inl y) = absurd (omega arith)
    by (inr x) (inr y) = let van : a.van ≡ b.van = omega arith in ap₂ (listed stampOf) x.0 van

behind_at : (stampOf : ℕ → ℕ) (a b : Offer) → listed_before (listing stampOf a) (listing stampOf b) ≡ false → NoLater b a
unfolding listed_before
behind_at stampOf a b before = pair_second a.far a.van b.far b.van before

-- the first of offers in order, passed over the others, stays the first
first_stays : (stampOf : ℕ → ℕ) (x : Offer) (l : List Offer) → InOrder (x ∷ l) → pass (listing stampOf x) (map (listing stampOf) l) ≡ map (listing stampOf) (x ∷ l)
unfolding pass
first_stays stampOf x [] order = refl
first_stays stampOf x (y ∷ l) order =
    ⊎_elim
    (λ before. rw before (ap (λ (t : List Listed). listing stampOf x ∷ t) (first_stays stampOf y l (order_tail order))))
    (λ after.
    let same : listing stampOf x ≡ listing stampOf y = alike stampOf (order.earlier 0 1 (omega arith) (omega arith)) (behind_at stampOf x y after) in
    rw after
    (ap (λ (e : Listed). listing stampOf y ∷ pass e (map (listing stampOf) l)) same
    ∙ ap (λ (t : List Listed). listing stampOf y ∷ t) (first_stays stampOf y l (order_tail order))
    ∙ ap (λ (e : Listed). e ∷ listing stampOf y ∷ map (listing stampOf) l) (sym same)))
    (true_or_false (listed_before (listing stampOf x) (listing stampOf y)))

-- An offer put in at its place is what its pass leaves.
pub insert_pass : {l : List Offer} {e : Offer} (i : ℕ) → InOrder l → i ≤ length l → BeforeNone l i e → (i < length l → NoLater e (offer_at l i))
    → (stampOf : ℕ → ℕ) → map (listing stampOf) (insert l i e) ≡ pass (listing stampOf e) (map (listing stampOf) l)
insert_pass {l} {e} i order within first next stampOf =
    let at : length (take i l) ≡ i = omega (arith, within, length-take i l) in
    let rest : InOrder (e ∷ drop i l) = subst InOrder (drop_at (take i l) (e ∷ drop i l) i at) (order_drop i (order_insert i order within first next)) in
    map-append (listing stampOf) (take i l) (e ∷ drop i l)
    ∙ ap₂ (λ (a b : List Listed). a ++ b) (sym (take-map (listing stampOf) i l))
    (sym (first_stays stampOf e (drop i l) rest) ∙ ap (pass (listing stampOf e)) (sym (drop-map (listing stampOf) i l)))
    ∙ front_stays stampOf i within first

-- Of a list in order the last one makes room for an offer that comes before it.
pub last_leaves : (stampOf : ℕ → ℕ) (n : ℕ) (e : Offer) (l : List Offer) → InOrder l → n < length l → listed_before (listing stampOf e) (listing stampOf (offer_at l n)) ≡ true
    → pass (listing stampOf e) (map (listing stampOf) (take n l)) ≡ take (suc n) (pass (listing stampOf e) (map (listing stampOf) l))
unfolding pass
last_leaves stampOf n e [] order h front = absurd (not-suc-le-zero h)
last_leaves stampOf zero e (x ∷ l) order h front = rw front refl
last_leaves stampOf (suc n) e (x ∷ l) order h front =
    ⊎_elim
    (λ before.
    rw before
    (ap (λ (t : List Listed). listing stampOf e ∷ t)
    (first_stays stampOf x (take n l) (order_take (suc n) order)
    ∙ ap (λ (t : List Listed). listing stampOf x ∷ t) (sym (take-map (listing stampOf) n l))
    ∙ ap (take (suc n)) (sym (first_stays stampOf x l order)))))
    (λ after. rw after (ap (λ (t : List Listed). listing stampOf x ∷ t) (last_leaves stampOf n e l (order_tail order) (le_of_suc-le-suc h) front)))
    (true_or_false (listed_before (listing stampOf e) (listing stampOf x)))

-- an offer that comes before none leaves a full list as it is
pub full_stays : (stampOf : ℕ → ℕ) {l : List Offer} {e : Offer} (k : ℕ) → length l ≡ k → BeforeNone l k e → map (listing stampOf) l ≡ take k (pass (listing stampOf e) (map (listing stampOf) l))
full_stays stampOf {l} {e} k full first =
    let long : length (map (listing stampOf) l) ≡ k = length-map l (listing stampOf) ∙ full in
    let all : take k (map (listing stampOf) l) ≡ map (listing stampOf) l = take_all k (map (listing stampOf) l) (omega (arith, long)) in
    sym (take_at (map (listing stampOf) l) (pass (listing stampOf e) (drop k (map (listing stampOf) l))) k long)
    ∙ ap (λ (t : List Listed). take k (t ++ pass (listing stampOf e) (drop k (map (listing stampOf) l)))) (sym all)
    ∙ ap (take k) (front_stays stampOf k (omega (arith, full)) first)

-- The limit, read off the offers.
module _ (stampOf : ℕ → ℕ) (offers : List Offer) (k : ℕ) where
  pub limit_room : length offers < k → limit_of k (map (listing stampOf) offers) ≡ 4294967294
  unfolding limit_of
  limit_room less = rw (lt-ltb (length (map (listing stampOf) offers)) k (omega (arith, less, length-map offers (listing stampOf))))

  pub limit_full : k ≤ length offers → 1 ≤ k → limit_of k (map (listing stampOf) offers) ≡ (offer_at offers (k - 1)).far
  unfolding limit_of
  limit_full full some =
      rw (le-ltb (length (map (listing stampOf) offers)) k (omega (arith, full, length-map offers (listing stampOf))))
      (ap (λ (e : Listed). e.distance) (get_or-map_any (listing stampOf) offers (k - 1) (record { far = 0; van = 0 }) (listed (λ v. 0) 0 0) (omega (arith, full, some))))

-- The state at place i, from the back: whatever is put there now stands where it would in the list as it was with that put in at i;
-- and the new offer comes before the one that was there.
pub record Moving (new : Offer) (first now : List Offer) (i : ℕ) : Type 0 where
  pub within : i ≤ length first
  pub moved : (e : Offer) → set now i e ≡ insert first i e
  pub next : i < length first → NoLater new (offer_at first i)

-- The first `len` of an array, and one more place.
module _ (offers : List Offer) (len : ℕ) (inside : len < length offers) where
  long : length (take len offers) ≡ len
  long = omega (arith, inside, length-take len offers)

  pub move_none : (new : Offer) → Moving new (take len offers) (take (len + 1) offers) len
  move_none new = record {
    within = omega (arith, long);
    moved = λ e.
        sym (take-set-lt (len + 1) offers len e (omega arith)) ∙ take_more_set offers len e inside
        ∙ ap₂ (λ (a b : List Offer). a ++ e ∷ b) (sym (take_all len (take len offers) (omega (arith, long)))) (sym (ap (λ (n : ℕ). drop n (take len offers)) (sym long) ∙ drop-length (take len offers)));
    next = λ h. absurd (omega (arith, h, long));
  }

-- The offer before the place moves on to it.
module _ {new : Offer} {first now : List Offer} {i : ℕ} (s : Moving new first now (suc i)) where
  stands : offer_at now i ≡ offer_at first i
  stands =
      sym (get_or-set_other now (suc i) i new _ (λ same. absurd (omega (arith, same))))
      ∙ ap (λ (l : List Offer). offer_at l i) (s.moved new)
      ∙ get_or-insert_below first (suc i) new _ i (omega arith) s.within

  move_one : NoLater new (offer_at first i) → Moving new first (set now (suc i) (offer_at now i)) i
  move_one front =
      let inside : i < length first = omega (arith, s.within) in
      let at : length (take i first) ≡ i = omega (arith, inside, length-take i first) in
      record {
        within = omega (arith, inside);
        moved = λ e.
            ap (λ (o : Offer). set (set now (suc i) o) i e) stands
            ∙ ap (λ (l : List Offer). set l i e) (s.moved (offer_at first i))
            ∙ ap (λ (l : List Offer). set (l ++ offer_at first i ∷ drop (suc i) first) i e) (take-suc first i _ inside)
            ∙ ap (λ (l : List Offer). set l i e) (append_snoc (take i first) (offer_at first i) (offer_at first i ∷ drop (suc i) first))
            ∙ set_at (take i first) (offer_at first i) (offer_at first i ∷ drop (suc i) first) e i at
            ∙ ap (λ (l : List Offer). take i first ++ e ∷ l) (sym (drop-cons first i _ inside));
        next = λ h. front;
      }

module _ (offers : List Offer) (len : ℕ) {new : Offer} {first : List Offer} {i : ℕ} (order : InOrder first) (short : length first ≤ len) (s : Moving new first (take (len + 1) offers) i) where
  put : take (len + 1) (set offers i new) ≡ insert first i new
  put = take-set-lt (len + 1) offers i new (omega (arith, short, s.within)) ∙ s.moved new

  -- the new offer is put in at the place, where it comes before none of those before it
  module _ (before : BeforeNone first i new) where
    pub put_order : InOrder (take (len + 1) (set offers i new))
    put_order = rw put (order_insert i order s.within before s.next)

    pub put_list : (stampOf : ℕ → ℕ) → map (listing stampOf) (take (len + 1) (set offers i new)) ≡ pass (listing stampOf new) (map (listing stampOf) first)
    put_list stampOf = rw put (insert_pass i order s.within before s.next stampOf)

  module _ (h : 0 < i) where
    after : i ≡ suc (i - 1)
    after = omega (arith, h)

    in_array : offer_at (take (len + 1) offers) (i - 1) ≡ offer_at offers (i - 1)
    in_array = get_or-take (len + 1) offers (i - 1) _ (omega (arith, h, short, s.within))

    read : offer_at offers (i - 1) ≡ offer_at first (i - 1)
    read = sym in_array ∙ stands (subst (Moving new first (take (len + 1) offers)) after s)

    pub move_more : ((stampOf : ℕ → ℕ) → listed_before (listing stampOf new) (listing stampOf (offer_at offers (i - 1))) ≡ true)
        → Moving new first (take (len + 1) (set offers (i - 1 + 1) (offer_at offers (i - 1)))) (i - 1)
    move_more k =
        rw (add-one (i - 1), take-set-lt (len + 1) offers (suc (i - 1)) (offer_at offers (i - 1)) (omega (arith, h, short, s.within)), ← in_array)
        (move_one (subst (Moving new first (take (len + 1) offers)) after s) (subst (NoLater new) read (in_front new (offer_at offers (i - 1)) k)))

    pub stop : ((stampOf : ℕ → ℕ) → listed_before (listing stampOf new) (listing stampOf (offer_at offers (i - 1))) ≡ false) → BeforeNone first (i - 1 + 1) new
    stop k = from_last (i - 1) order (omega (arith, h, s.within)) (subst (λ (o : Offer). NoLater o new) read (in_back new (offer_at offers (i - 1)) k))

-- an offer that is farther than the limit, and any other
module _ (k : ℕ) (e : Listed) (l : List Listed) where
  pub offer_beyond : limit_of k l < e.distance → offered k e l ≡ l
  unfolding offered
  offer_beyond h = rw (lt-ltb (limit_of k l) e.distance h)

  pub offer_within : e.distance ≤ limit_of k l → offered k e l ≡ take k (pass e l)
  unfolding offered
  offer_within h = rw (le-ltb (limit_of k l) e.distance h)
