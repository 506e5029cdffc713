-- The list of the best k holds the first k of what was offered, in whatever order it was offered; and it is the first k of all
-- as soon as whatever was not offered is farther than its limit.
-- Assumes nothing.
use mathlib.Core.Path.{◌≡◌, refl, sym, ap, ap₂, ◌∙◌}
use mathlib.Core.Logic.{◌⊎◌, inl, inr, ⊎_elim, ◌≢◌}
use mathlib.Core.Bool.{Bool, true, false, cond, true≢false}
use mathlib.Core.List.Memᴰ
use mathlib.Core.List.{List, [], ◌∷◌, ◌++◌, Memᴰ}
use Prim.Native.Nat.{ℕ, zero, suc, ◌-◌, ◌≤◌, ◌<◌}
use native.Mathlib.Nat.{le_of_suc-le-suc, not-suc-le-zero}
use native.Mathlib.Decide.{dec_lt}
use native.Mathlib.Omega.{arith}
use lib.ListN.{length, take, get_or, length-take}
use lib.Seq.{take-take, take_at}
use lib.Dec.{ltb}
use borrow.Author.Tests.{lt-ltb, le-ltb}
use Rattle.words.specs.Limits.{FAR}
use Rattle.words.specs.Lists.{keep}
use Rattle.words.proofs.Tests.{true_or_false}
use Rattle.words.proofs.Lists.{keep_says, keep_has, take_from}
use Rattle.fleet.specs.Question.{Listed, listed_before, insert, sorted}
use Rattle.fleet.proofs.Sorted.{before_near, before_says, before_if, insert_has, insert_keeps, insert_from, insert_sorted, Later, Sorted, more, sorted_keeps, sorted_from, Distinct, sorted_sorted, take_sorted}
use Rattle.best_list.specs.Best.{listed, pass, limit_of, offered, offered_all}

-- no entry stands before itself, and of two only one before the other
never_before : (a b : Listed) → listed_before a b ≡ true → b.distance < a.distance → ⊥
never_before a b e h = omega (arith, before_near a b e)

asym : (a b : Listed) → listed_before a b ≡ true → listed_before b a ≡ true → ⊥
asym a b p q = by (before_says a b p) (before_says b a q)
  where
    by : (a.distance < b.distance) ⊎ ((a.distance ≡ b.distance) × (a.van < b.van)) → (b.distance < a.distance) ⊎ ((b.distance ≡ a.distance) × (b.van < a.van)) → ⊥
    by (inl x) (inl y) = omega arith
    by (inl x) (inr y) = omega arith
    by (inr x) (inl y) = omega arith
    by (inr x) (inr y) = omega arith

-- On a list in order a pass is an insertion.

pass_first : (x : Listed) {l : List Listed} → Sorted (x ∷ l) → pass x l ≡ x ∷ l
unfolding pass
pass_first x (more before Sorted.none) = refl
pass_first x (more before (Sorted.more {a = y} {bs = l} after rest)) =
    rw (before y (Memᴰ.head refl)) (ap (λ (t : List Listed). x ∷ t) (pass_first y (Sorted.more after rest)))

pub pass_insert : (e : Listed) {l : List Listed} → Sorted l → pass e l ≡ insert e l
unfolding pass insert
pass_insert e Sorted.none = refl
pass_insert e (Sorted.more {a = x} {bs = l} before rest) = by (listed_before e x) (pass_first x (Sorted.more before rest)) (pass_insert e rest)
  where
    by : (b : Bool) → pass x l ≡ x ∷ l → pass e l ≡ insert e l → cond b (e ∷ pass x l) (x ∷ pass e l) ≡ cond b (e ∷ x ∷ l) (x ∷ insert e l)
    by true first later = ap (λ (t : List Listed). e ∷ t) first
    by false first later = ap (λ (t : List Listed). x ∷ t) later

-- what is farther than all goes behind them
insert_behind : (e : Listed) (l : List Listed) → ((b : Listed) → Memᴰ b l → b.distance < e.distance) → insert e l ≡ l ++ e ∷ []
unfolding insert
insert_behind e [] far = refl
insert_behind e (b ∷ l) far =
    ⊎_elim
    (λ first. absurd (never_before e b first (far b (Memᴰ.head refl))))
    (λ later. rw later (ap (λ (t : List Listed). b ∷ t) (insert_behind e l (λ c h. far c (Memᴰ.tail h)))))
    (true_or_false (listed_before e b))

get_d_in : (l : List Listed) (i : ℕ) (d : Listed) → i < length l → Memᴰ (get_or l i d) l
get_d_in [] i d h = absurd (not-suc-le-zero h)
get_d_in (x ∷ l) zero d h = Memᴰ.head refl
get_d_in (x ∷ l) (suc i) d h = Memᴰ.tail (get_d_in l i d (le_of_suc-le-suc h))

-- no entry is farther than the last
last_farthest : {l : List Listed} (j : ℕ) (d : Listed) → Sorted l → length l ≡ suc j → (z : Listed) → Memᴰ z l → z.distance ≤ (get_or l j d).distance
last_farthest j d Sorted.none n z h = absurd (Memᴰ.not-nil h)
last_farthest zero d (Sorted.more before Sorted.none) n z h =
    ⊎_elim (λ same. omega (arith, ap (λ (a : Listed). a.distance) same)) (λ below. absurd (Memᴰ.not-nil below)) (Memᴰ.cases_cons h)
last_farthest zero d (Sorted.more before (Sorted.more after rest)) n z h = absurd (omega arith)
last_farthest (suc j) d (Sorted.more {a = x} {bs = l} before rest) n z h =
    ⊎_elim
    (λ same. omega (arith, ap (λ (a : Listed). a.distance) same, before_near x (get_or l j d) (before (get_or l j d) (get_d_in l j d (omega arith)))))
    (λ below. last_farthest j d rest (omega arith) z below)
    (Memᴰ.cases_cons h)

-- The limit: below it, or the list is full and no entry of it is farther.
pub data Limited (k : ℕ) (l : List Listed) : Type 0 where
  room : length l < k → limit_of k l ≡ 4294967294 → Limited k l
  full : k ≤ length l → ((z : Listed) → Memᴰ z l → z.distance ≤ limit_of k l) → Limited k l

pub limited : (k : ℕ) (l : List Listed) → Sorted l → length l ≤ k → 1 ≤ k → Limited k l
unfolding limit_of
limited k l sort most some = by (dec_lt (length l) k)
  where
    by : Dec (length l < k) → Limited k l
    by (yes less) = room less (rw (lt-ltb (length l) k less))
    by (no not-less) =
        full (omega (arith, not-less))
        (λ z h. rw (le-ltb (length l) k (omega (arith, not-less))) (last_farthest (k - 1) (listed (λ v. 0) 0 0) sort (omega (arith, not-less)) z h))

-- an offer to a list in order is an insertion, cut at k
pub offered_is : (k : ℕ) (e : Listed) (l : List Listed) → Sorted l → length l ≤ k → 1 ≤ k → e.distance < FAR → offered k e l ≡ take k (insert e l)
unfolding offered
offered_is k e l sort most some near = by (dec_lt (limit_of k l) e.distance) (limited k l sort most some)
  where
    by : Dec (limit_of k l < e.distance) → Limited k l → cond (ltb (limit_of k l) e.distance) l (take k (pass e l)) ≡ take k (insert e l)
    by (no within) limit = rw (le-ltb (limit_of k l) e.distance (omega (arith, within))) (ap (take k) (pass_insert e sort))
    by (yes beyond) (room less limit) = absurd (omega (arith, beyond, limit, near))
    by (yes beyond) (full enough far) =
        rw (lt-ltb (limit_of k l) e.distance beyond)
        (sym (ap (take k) (insert_behind e l (λ b h. omega (arith, far b h, beyond))) ∙ take_at l (e ∷ []) k (omega (arith, most, enough))))

-- to cut before an offer changes nothing of what is left after it
cut_cons : (k : ℕ) (x : Listed) (l : List Listed) → take k (x ∷ take k l) ≡ take k (x ∷ l)
cut_cons zero x l = refl
cut_cons (suc k) x l = ap (λ (r : List Listed). x ∷ r) (take-take k (suc k) l (omega arith))

offer_cut : (k : ℕ) (e : Listed) (l : List Listed) → take k (insert e (take k l)) ≡ take k (insert e l)
unfolding insert
offer_cut zero e l = refl
offer_cut (suc k) e [] = refl
offer_cut (suc k) e (x ∷ l) = by (listed_before e x) (offer_cut k e l)
  where
    by : (b : Bool) → take k (insert e (take k l)) ≡ take k (insert e l) → take (suc k) (cond b (e ∷ x ∷ take k l) (x ∷ insert e (take k l))) ≡ take (suc k) (cond b (e ∷ x ∷ l) (x ∷ insert e l))
    by true later = ap (λ (r : List Listed). e ∷ r) (cut_cons k x l)
    by false later = ap (λ (r : List Listed). x ∷ r) later

-- entries put into a list, one after the other
unfoldable insert_all : List Listed → List Listed → List Listed
insert_all l [] = l
insert_all l (e ∷ es) = insert_all (insert e l) es

-- entries that differ from a list's and from one more differ from the list with that one
still_apart : {l : List Listed} {e : Listed} {es : List Listed} → ((d : Listed) → Memᴰ d es → e.van ≢ d.van)
    → ((d b : Listed) → Memᴰ d (e ∷ es) → Memᴰ b l → d.van ≢ b.van) → (d b : Listed) → Memᴰ d es → Memᴰ b (insert e l) → d.van ≢ b.van
still_apart {l} {e} differ apart d b hd hb =
    ⊎_elim (λ same. λ alike. differ d hd (sym (alike ∙ ap (λ (c : Listed). c.van) same))) (λ old. apart d b (Memᴰ.tail hd) old) (insert_from e l b hb)

insert_all_sorted : {l es : List Listed} → Sorted l → Distinct es → ((e b : Listed) → Memᴰ e es → Memᴰ b l → e.van ≢ b.van) → Sorted (insert_all l es)
unfolding insert_all
insert_all_sorted {l} sort Distinct.none apart = sort
insert_all_sorted {l} sort (Distinct.more {a = e} {bs = es} differ rest) apart =
    insert_all_sorted {l = insert e l} (insert_sorted e sort (λ b h. apart e b (Memᴰ.head refl) h)) rest
    (still_apart differ apart)

insert_all_has : (l es : List Listed) (c : Listed) → Memᴰ c l ⊎ Memᴰ c es → Memᴰ c (insert_all l es)
unfolding insert_all
insert_all_has l [] c (inl h) = h
insert_all_has l [] c (inr h) = absurd (Memᴰ.not-nil h)
insert_all_has l (e ∷ es) c (inl h) = insert_all_has (insert e l) es c (inl (insert_keeps e l c h))
insert_all_has l (e ∷ es) c (inr h) =
    ⊎_elim
    (λ same. insert_all_has (insert e l) es c (inl (Memᴰ.cast same (insert_has e l))))
    (λ later. insert_all_has (insert e l) es c (inr later))
    (Memᴰ.cases_cons h)

insert_all_from : (l es : List Listed) (c : Listed) → Memᴰ c (insert_all l es) → Memᴰ c l ⊎ Memᴰ c es
unfolding insert_all
insert_all_from l [] c h = inl h
insert_all_from l (e ∷ es) c h =
    ⊎_elim
    (λ before. ⊎_elim (λ same. inr (Memᴰ.head same)) inl (insert_from e l c before))
    (λ later. inr (Memᴰ.tail later))
    (insert_all_from (insert e l) es c h)

-- offers to the first k of a list in order
offer_all : (k : ℕ) {l es : List Listed} → 1 ≤ k → Sorted l → Distinct es → ((e : Listed) → Memᴰ e es → e.distance < FAR)
    → ((e b : Listed) → Memᴰ e es → Memᴰ b l → e.van ≢ b.van) → offered_all k (take k l) es ≡ take k (insert_all l es)
unfolding offered_all insert_all
offer_all k {l} some sort Distinct.none near apart = refl
offer_all k {l} some sort (Distinct.more {a = e} {bs = es} differ rest) near apart =
    ap (λ (r : List Listed). offered_all k r es)
    (offered_is k e (take k l) (take_sorted k sort) (omega (arith, length-take k l)) some (near e (Memᴰ.head refl)) ∙ offer_cut k e l)
    ∙ offer_all k {l = insert e l} some (insert_sorted e sort (λ b h. apart e b (Memᴰ.head refl) h)) rest (λ d h. near d (Memᴰ.tail h))
    (still_apart differ apart)

-- The start of a list in order.

-- the first k of `some` are there, and y stands behind them all
record Behind (k : ℕ) (some : List Listed) (y : Listed) : Type 0 where
  enough : k ≤ length some
  after : (z : Listed) → Memᴰ z (take k some) → listed_before z y ≡ true

module _ {x y : Listed} {some all : List Listed} (first : Later x some) (second : Later y all) where
  same_head : {k : ℕ} → Memᴰ x (y ∷ all) → Memᴰ y (x ∷ some) ⊎ Behind (suc k) (x ∷ some) y → x ≡ y
  same_head (Memᴰ.head p) w = p
  same_head (Memᴰ.tail m) (inl (Memᴰ.head p)) = sym p
  same_head (Memᴰ.tail m) (inl (Memᴰ.tail m')) = absurd (asym x y (first y m') (second x m))
  same_head (Memᴰ.tail m) (inr b) = absurd (asym x y (b.after x (Memᴰ.head refl)) (second x m))

  tail_known : x ≡ y → (z : Listed) → Memᴰ z some → Memᴰ z (y ∷ all) → Memᴰ z all
  tail_known e z m (Memᴰ.head p) =
      let same : listed_before x x ≡ true = ap (listed_before x) (e ∙ sym p) ∙ first z m in
      absurd (asym x x same same)
  tail_known e z m (Memᴰ.tail m') = m'

  tail_covered : {k : ℕ} → x ≡ y → (z : Listed) → Memᴰ z all → Memᴰ z (x ∷ some) ⊎ Behind (suc k) (x ∷ some) z → Memᴰ z some ⊎ Behind k some z
  tail_covered e z m (inl (Memᴰ.head p)) =
      let same : listed_before y y ≡ true = ap (listed_before y) (sym e ∙ sym p) ∙ second z m in
      absurd (asym y y same same)
  tail_covered e z m (inl (Memᴰ.tail m')) = inl m'
  tail_covered e z m (inr b) = inr (record { enough = le_of_suc-le-suc b.enough; after = λ w i. b.after w (Memᴰ.tail i) })

-- Of a list in order of which some entries are known, the first k are the first k known ones, if whatever is not known stands behind them.
start_known : (k : ℕ) {some all : List Listed} → Sorted some → Sorted all → ((y : Listed) → Memᴰ y some → Memᴰ y all)
    → ((y : Listed) → Memᴰ y all → Memᴰ y some ⊎ Behind k some y) → take k some ≡ take k all
start_known zero r r' sub cover = refl
start_known (suc k) Sorted.none Sorted.none sub cover = refl
start_known (suc k) Sorted.none (Sorted.more {a = y} before rest) sub cover =
    ⊎_elim (λ m. absurd (Memᴰ.not-nil m)) (λ b. absurd (not-suc-le-zero b.enough)) (cover y (Memᴰ.head refl))
start_known (suc k) (Sorted.more {a = x} before rest) Sorted.none sub cover = absurd (Memᴰ.not-nil (sub x (Memᴰ.head refl)))
start_known (suc k) (Sorted.more {a = x} {bs = some} before rest) (Sorted.more {a = y} {bs = all} before' rest') sub cover =
    let e = same_head before before' (sub x (Memᴰ.head refl)) (cover y (Memᴰ.head refl)) in
    ap₂ (λ (z : Listed) (l : List Listed). z ∷ l) e
    (start_known k rest rest' (λ z m. tail_known before before' e z m (sub z (Memᴰ.tail m))) (λ z m. tail_covered before before' e z m (cover z (Memᴰ.tail m))))

-- Some of all, by a test.

module _ (test : Listed → Bool) where
  keep_distinct : {all : List Listed} → Distinct all → Distinct (keep test all)
  keep_distinct Distinct.none = Distinct.none
  keep_distinct (Distinct.more {a} {bs} differ rest) = by (test a) (keep_distinct rest)
    where
      by : (b : Bool) → Distinct (keep test bs) → Distinct (cond b (a ∷ keep test bs) (keep test bs))
      by true later = Distinct.more {a = a} {bs = keep test bs} (λ b h. differ b (keep_says test bs b h).0) later
      by false later = later

-- an entry of all is known by its van
same_van : {all : List Listed} → Distinct all → (a b : Listed) → Memᴰ a all → Memᴰ b all → a.van ≡ b.van → a ≡ b
same_van Distinct.none a b ha hb e = absurd (Memᴰ.not-nil ha)
same_van (Distinct.more {a = x} {bs = all} differ rest) a b ha hb e =
    ⊎_elim
    (λ here. ⊎_elim
    (λ there. here ∙ sym there)
    (λ there. absurd (differ b there (ap (λ (c : Listed). c.van) (sym here) ∙ e)))
    (Memᴰ.cases_cons hb))
    (λ here. ⊎_elim
    (λ there. absurd (differ a here (ap (λ (c : Listed). c.van) (sym there) ∙ sym e)))
    (λ there. same_van rest a b here there e)
    (Memᴰ.cases_cons hb))
    (Memᴰ.cases_cons ha)

module _ (k : ℕ) (some : 1 ≤ k) (all : List Listed) (distinct : Distinct all) (near : (l : Listed) → Memᴰ l all → l.distance < FAR) where
  -- the first k of those that pass the test
  abbrev pub best_of : (Listed → Bool) → List Listed
  best_of done = take k (sorted (keep done all))

  in_best : (done : Listed → Bool) (l : Listed) → Memᴰ l (sorted (keep done all)) → Memᴰ l all × (done l ≡ true)
  in_best done l h = keep_says done all l (sorted_from (keep done all) l h)

  best_in : (done : Listed → Bool) (l : Listed) → Memᴰ l all → done l ≡ true → Memᴰ l (sorted (keep done all))
  best_in done l h e = sorted_keeps (keep done all) l (keep_has done all l h e)

  best_sorted : (done : Listed → Bool) → Sorted (sorted (keep done all))
  best_sorted done = sorted_sorted (keep_distinct done distinct)

  -- to the best of what was offered so far are offered others: the best of all of them
  pub offered_more : (done later : Listed → Bool) (es : List Listed) → Distinct es
      → ((e : Listed) → Memᴰ e es → Memᴰ e all × (done e ≡ false))
      → ((l : Listed) → Memᴰ l all → later l ≡ true → (done l ≡ true) ⊎ Memᴰ l es)
      → ((l : Listed) → Memᴰ l all → (done l ≡ true) ⊎ Memᴰ l es → later l ≡ true)
      → offered_all k (best_of done) es ≡ best_of later
  offered_more done later es once fresh says has =
      offer_all k some (best_sorted done) once (λ e h. near e (fresh e h).0) apart
      ∙ start_known k (insert_all_sorted (best_sorted done) once apart) (best_sorted later) into (λ y h. inl (back y h))
    where
      apart : (e b : Listed) → Memᴰ e es → Memᴰ b (sorted (keep done all)) → e.van ≢ b.van
      apart e b he hb same =
          let old = in_best done b hb in
          let new = fresh e he in
          true≢false (sym old.1 ∙ ap done (sym (same_van distinct e b new.0 old.0 same)) ∙ new.1)

      into : (y : Listed) → Memᴰ y (insert_all (sorted (keep done all)) es) → Memᴰ y (sorted (keep later all))
      into y h =
          ⊎_elim
          (λ old. let told = in_best done y old in best_in later y told.0 (has y told.0 (inl told.1)))
          (λ new. best_in later y (fresh y new).0 (has y (fresh y new).0 (inr new)))
          (insert_all_from (sorted (keep done all)) es y h)

      back : (y : Listed) → Memᴰ y (sorted (keep later all)) → Memᴰ y (insert_all (sorted (keep done all)) es)
      back y h =
          let told = in_best later y h in
          insert_all_has (sorted (keep done all)) es y (⊎_elim (λ old. inl (best_in done y told.0 old)) inr (says y told.0 told.1))

  -- whatever was not offered is farther than the limit: the list is the start of all. At equal distance a lower van may still come.
  pub ends : (done : Listed → Bool) → ((l : Listed) → Memᴰ l all → (done l ≡ true) ⊎ (limit_of k (best_of done) < l.distance)) → best_of done ≡ take k (sorted all)
  ends done rest =
      start_known k (best_sorted done) (sorted_sorted distinct)
      (λ y h. sorted_keeps all y (in_best done y h).0)
      (λ y h. let hy = sorted_from all y h in ⊎_elim (λ old. inl (best_in done y hy old)) (λ far. inr (behind y hy far)) (rest y hy))
    where
      behind : (y : Listed) → Memᴰ y all → limit_of k (best_of done) < y.distance → Behind k (sorted (keep done all)) y
      behind y hy far = by (limited k (best_of done) (take_sorted k (best_sorted done)) (omega (arith, length-take k (sorted (keep done all)))) some)
        where
          by : Limited k (best_of done) → Behind k (sorted (keep done all)) y
          by (room less limit) = absurd (omega (arith, near y hy, far, limit))
          by (full enough most) =
              record {
                enough = omega (arith, enough, length-take k (sorted (keep done all)));
                after = λ z h. before_if z y (inl (omega (arith, most z h, far)));
              }

  -- the limit of the best is below FAR
  pub limit_below : (done : Listed → Bool) (best : List Listed) → best ≡ best_of done → limit_of k best < FAR
  unfolding limit_of
  limit_below done best e = omega (arith, ap (limit_of k) e, by (dec_lt (length (best_of done)) k))
    where
      by : Dec (length (best_of done) < k) → cond (ltb (length (best_of done)) k) 4294967294 (get_or (best_of done) (k - 1) (listed (λ v. 0) 0 0)).distance < FAR
      by (yes less) = rw (lt-ltb (length (best_of done)) k less) (omega arith)
      by (no full') =
          let last = get_d_in (best_of done) (k - 1) (listed (λ v. 0) 0 0) (omega (arith, full')) in
          rw (le-ltb (length (best_of done)) k (omega (arith, full')))
          (near (get_or (best_of done) (k - 1) (listed (λ v. 0) 0 0)) (in_best done _ (take_from k (sorted (keep done all)) _ last)).0)
