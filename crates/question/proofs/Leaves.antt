-- A leaf that is looked at offers the free vans that head into it and reach x, each once; so the best are the best with these.
-- Assumes nothing.
use mathlib.Core.Path.{◌≡◌, refl, sym, ap, subst, subst⁻¹, ◌∙◌}
use mathlib.Core.Logic.{◌⊎◌, inl, inr, ⊎_elim, ◌≢◌}
use mathlib.Core.Bool.{Bool, true, false, cond, true≢false}
use mathlib.Core.List.{List, [], ◌∷◌, ◌++◌, Memᴰ}
use Prim.Native.Nat.{ℕ, zero, suc, ◌+◌, ◌≤◌, ◌<◌}
use native.Mathlib.Decide.{dec_lt, ℕ_discrete}
use native.Mathlib.Omega.{arith}
use lib.ListN.{length, set, take}
use lib.Seq.{get_or-set_same, get_or-set_other}
use lib.Dec.{eqb, ltb}
use borrow.Author.Tests.{eq-eqb, ne_eqb, lt-ltb, le-ltb}
use Rattle.words.specs.Limits.{FAR}
use Rattle.words.specs.Lists.{word, place_in, keep, count_from}
use Rattle.words.proofs.Tests.{true_or_false}
use Rattle.words.proofs.Places.{place_of_entry}
use Rattle.roads.specs.Map.{Map, part_count}
use Rattle.roads.specs.Dist.{dist}
use Rattle.parts.specs.Tree.{leaf_of, is_leaf}
use Rattle.parts.specs.Size.{row_vertices, size_of}
use Rattle.parts.proofs.Rows.{rows_unique}
use Rattle.parts.proofs.Down.{vertices_has}
use Rattle.parts.proofs.Gates.{rows_leaf, vertices_says}
use Rattle.fleet.specs.State.{present, State, slot_of, head_of, active}
use Rattle.fleet.specs.Question.{Listed, sorted}
use Rattle.fleet.proofs.Sorted.{Distinct, none, more}
use Rattle.fleet.proofs.Coming.{coming_distinct}
use Rattle.image.specs.Records.{row_vertex}
use Rattle.places.specs.Place.{counts_in, vertex_address}
use Rattle.best_list.specs.Best.{offered_all}
use Rattle.best_list.proofs.Offers.{offered_more}
use Rattle.van_offers.specs.Offers.{van_offers, row_owner, vertex_offers, row_offers}
use Rattle.layout.specs.Layout.{rows_in_part, part_word}
use Rattle.part_words.specs.Part.{rows_in}
use Rattle.row_lists.specs.Rows.{shows_own}
use Rattle.van_offers.specs.Genuine.{Genuine}
use Rattle.van_offers.proofs.Heading.{Comer, offers_say, offers_have, offers_distinct, head_below, head_active, idle_link}
use Rattle.van_offers.proofs.Comers.{comers, comer_says, comer_has, comer_near}
use Rattle.question.specs.Kept.{offers_of, van_leaf, is_looked_at}
use Rattle.question.proofs.Shown.{rows_read, owner_read, row_below_lem, row_in_lem, place_read, own_shown}

distinct_append : {a b : List Listed} → Distinct a → Distinct b → ((x y : Listed) → Memᴰ x a → Memᴰ y b → x.van ≢ y.van) → Distinct (a ++ b)
distinct_append none db apart = db
distinct_append {b = b} (more {a = x} {bs = xs} differ rest) db apart =
    more {a = x} {bs = xs ++ b}
    (λ y h. ⊎_elim (differ y) (λ there. apart x y (mathlib.Core.List.Memᴰ.head refl) there) (mathlib.Core.List.Memᴰ.append_cases xs h))
    (distinct_append rest db (λ p q hp hq. apart p q (mathlib.Core.List.Memᴰ.tail hp) hq))

module _ {m : Map} {s : State} {mem : List ℕ} (g : Genuine m s mem) (x : ℕ) where
  -- a list of vans that starts at no link
  nothing_offered : (near-enough : Bool) (near : ℕ) → cond near-enough (van_offers mem (counts_in mem) near 1024 0) [] ≡ []
  unfolding van_offers
  nothing_offered true near = refl
  nothing_offered false near = refl

  -- the leaf that it heads into
  pub comer_leaf : (l : Listed) (c : Comer g x l) → van_leaf m (slot_of s l.van) ≡ leaf_of m (head_of m c.van)
  comer_leaf l c = ap (λ (i : ℕ). van_leaf m (slot_of s i)) (ap (λ (a : Listed). a.van) c.same) ∙ ap (van_leaf m) c.there

  -- The offers of leaf q, whose active vertices have their distances.
  module _ (q : ℕ) (hq : q < part_count m) (leaf : is_leaf m q ≡ true) (dx : List ℕ)
      (exact : (r : ℕ) → Memᴰ r (row_vertices m q) → active m s r ≡ true → word dx r ≡ dist m r x) where
    abbrev first : ℕ
    first = part_word mem q rows_in_part

    abbrev offers_from : ℕ → ℕ → List Listed
    offers_from n i = row_offers mem (counts_in mem) first dx (count_from i n)

    -- a comer that heads for the vertex of row r
    record FromRow (e : Listed) (low high : ℕ) : Type 0 where
      row : ℕ
      from : low ≤ row
      below : row < high
      comer : Comer g x e
      heads : head_of m comer.van ≡ row_vertex m q row

    module _ (i : ℕ) (hi : i < size_of m q) where
      v : ℕ
      v = row_vertex m q i

      offers_at : List Listed
      offers_at = vertex_offers mem (counts_in mem) (row_owner mem first i) (word dx (row_owner mem first i))

      abbrev chain_of : ℕ → ℕ → List Listed
      chain_of near u = van_offers mem (counts_in mem) near 1024 (word mem (vertex_address (counts_in mem) u + 4))

      -- nobody heads for a vertex that is not active
      row_idle : active m s v ≡ false → offers_at ≡ []
      unfolding offers_at vertex_offers v
      row_idle idle =
          let none : word mem (vertex_address (counts_in mem) (row_owner mem first i) + 4) ≡ 0 =
          ap (λ (u : ℕ). word mem (vertex_address (counts_in mem) u + 4)) (owner_read g q hq i hi) ∙ idle_link g (row_vertex m q i) (row_below_lem g q hq i hi) idle in
          ap (λ (k : ℕ). cond (ltb (word dx (row_owner mem first i)) FAR) (van_offers mem (counts_in mem) (word dx (row_owner mem first i)) 1024 k) []) none
          ∙ nothing_offered (ltb (word dx (row_owner mem first i)) FAR) (word dx (row_owner mem first i))

      module _ (act : active m s v ≡ true) where
        near_is : word dx (row_owner mem first i) ≡ dist m v x
        unfolding v
        near_is = ap (word dx) (owner_read g q hq i hi) ∙ exact (row_vertex m q i) (row_in_lem g q hq i hi) act

        row_near : dist m v x < FAR → offers_at ≡ chain_of (dist m v x) v
        unfolding offers_at vertex_offers v
        row_near reaches =
            rw (lt-ltb (word dx (row_owner mem first i)) FAR (omega (arith, near_is)))
            (λ j. chain_of (near_is j) (owner_read g q hq i hi j))

        row_far : FAR ≤ dist m v x → offers_at ≡ []
        unfolding offers_at vertex_offers
        row_far far = rw (le-ltb (word dx (row_owner mem first i)) FAR (omega (arith, near_is)))

      -- nothing is offered, or what heads for an active vertex that reaches x
      cases : (offers_at ≡ []) ⊎ ((dist m v x < FAR) × (offers_at ≡ chain_of (dist m v x) v))
      cases = by (true_or_false (active m s v)) (dec_lt (dist m v x) FAR)
        where
          by : (active m s v ≡ true) ⊎ (active m s v ≡ false) → Dec (dist m v x < FAR) → (offers_at ≡ []) ⊎ ((dist m v x < FAR) × (offers_at ≡ chain_of (dist m v x) v))
          by (inr idle) d = inl (row_idle idle)
          by (inl act) (no far) = inl (row_far act (omega (arith, far)))
          by (inl act) (yes reaches) = inr (reaches, row_near act reaches)

      row_says : (e : Listed) → Memᴰ e offers_at → FromRow e i (suc i)
      unfolding v
      row_says e h =
          ⊎_elim
          (λ nobody. absurd (mathlib.Core.List.Memᴰ.not-nil (subst (Memᴰ e) nobody h)))
          (λ (reaches, is).
          let (c, heads) = offers_say g x v (dist m v x) reaches refl (row_below_lem g q hq i hi) e (subst (Memᴰ e) is h) in
          record { row = i; from = omega arith; below = omega arith; comer = c; heads = heads })
          cases

      row_has : (e : Listed) (c : Comer g x e) → head_of m c.van ≡ v → Memᴰ e offers_at
      unfolding v
      row_has e c heads =
          let reaches : dist m v x < FAR = omega (arith, c.reaches, ap (λ (k : ℕ). dist m k x) heads) in
          subst⁻¹ (Memᴰ e) (row_near (ap (active m s) (sym heads) ∙ head_active g c.place c.van c.there c.free) reaches)
          (mathlib.Core.List.Memᴰ.cast c.same (offers_have g x v (dist m v x) reaches refl (row_below_lem g q hq i hi) c.place c.van c.there c.free heads))

      row_distinct : Distinct offers_at
      unfolding v
      row_distinct =
          ⊎_elim
          (λ nobody. subst⁻¹ Distinct nobody none)
          (λ (reaches, is). subst⁻¹ Distinct is (offers_distinct g x v (dist m v x) reaches refl (row_below_lem g q hq i hi)))
          cases

    all_say : (n i : ℕ) → i + n ≤ size_of m q → (e : Listed) → Memᴰ e (offers_from n i) → FromRow e i (i + n)
    unfolding row_offers offers_at
    all_say zero i most e h = absurd (mathlib.Core.List.Memᴰ.not-nil h)
    all_say (suc n) i most e h =
        ⊎_elim
        (λ here. let f = row_says i (omega arith) e here in record { row = f.row; from = f.from; below = omega (arith, f.below); comer = f.comer; heads = f.heads })
        (λ later. let f = all_say n (suc i) (omega arith) e later in record { row = f.row; from = omega (arith, f.from); below = omega (arith, f.below); comer = f.comer; heads = f.heads })
        (mathlib.Core.List.Memᴰ.append_cases (offers_at i (omega arith)) h)

    all_have : (n i j : ℕ) → i + n ≤ size_of m q → i ≤ j → j < i + n → (e : Listed) (c : Comer g x e) → head_of m c.van ≡ row_vertex m q j → Memᴰ e (offers_from n i)
    unfolding row_offers offers_at v
    all_have zero i j most low high e c heads = absurd (omega arith)
    all_have (suc n) i j most low high e c heads =
        elim (ℕ_discrete j i) [
          | yes same ↦ mathlib.Core.List.Memᴰ.append_left (offers_from n (suc i)) (row_has i (omega arith) e c (heads ∙ ap (row_vertex m q) same))
          | no other ↦ mathlib.Core.List.Memᴰ.append_right (offers_at i (omega arith)) (all_have n (suc i) j (omega arith) (omega (arith, other)) (omega arith) e c heads)
        ]

    -- a van heads for one vertex, which has one row
    one_row : (a b : Listed) {low mid high : ℕ} → high ≤ size_of m q → FromRow a low mid → FromRow b mid high → a.van ≢ b.van
    unfolding size_of
    one_row a b most f h same =
        let place : f.comer.place ≡ h.comer.place = sym (ap (λ (l : Listed). l.van) f.comer.same) ∙ same ∙ ap (λ (l : Listed). l.van) h.comer.same in
        let slot : present f.comer.van ≡ present h.comer.van = sym f.comer.there ∙ ap (slot_of s) place ∙ h.comer.there in
        let van : f.comer.van ≡ h.comer.van = cc in
        let vertex : row_vertex m q f.row ≡ row_vertex m q h.row = sym f.heads ∙ ap (head_of m) van ∙ h.heads in
        omega (
          arith,
          f.below,
          h.from,
          place_of_entry (rows_unique m q) f.row (omega (arith, f.below, h.from, h.below)),
          place_of_entry (rows_unique m q) h.row (omega (arith, h.below)),
          ap (λ (k : ℕ). place_in k (row_vertices m q)) vertex,
        )

    all_distinct : (n i : ℕ) → i + n ≤ size_of m q → Distinct (offers_from n i)
    unfolding row_offers offers_at
    all_distinct zero i most = none
    all_distinct (suc n) i most =
        distinct_append (row_distinct i (omega arith)) (all_distinct n (suc i) (omega arith))
        (λ a b ha hb. one_row a b (omega arith) (row_says i (omega arith) a ha) (all_say n (suc i) (omega arith) b hb))

    -- all that it offers
    abbrev pub leaf_list : List Listed
    leaf_list = offers_from (rows_in mem q) 0

    -- rows that show another vertex than their own offer nothing
    own_enough : (n i : ℕ) → i + n ≤ size_of m q → row_offers mem (counts_in mem) first dx (keep (shows_own mem first) (count_from i n)) ≡ offers_from n i
    unfolding row_offers offers_at shows_own v
    own_enough zero i most = refl
    own_enough (suc n) i most = by (shows_own mem first i) refl (own_enough n (suc i) (omega arith))
      where
        by : (b : Bool) → shows_own mem first i ≡ b → row_offers mem (counts_in mem) first dx (keep (shows_own mem first) (count_from (suc i) n)) ≡ offers_from n (suc i)
            → row_offers mem (counts_in mem) first dx (cond b (i ∷ keep (shows_own mem first) (count_from (suc i) n)) (keep (shows_own mem first) (count_from (suc i) n)))
            ≡ offers_at i (omega arith) ++ offers_from n (suc i)
        by true own later = ap (λ (l : List Listed). offers_at i (omega arith) ++ l) later
        by false other later =
            later
            ∙ ap (λ (l : List Listed). l ++ offers_from n (suc i))
            (sym (row_idle i (omega arith) (⊎_elim
            (λ act. absurd (true≢false (sym (eq-eqb _ 0 (own_shown g q hq i (omega arith) act)) ∙ other)))
            (λ idle. idle)
            (true_or_false (active m s (row_vertex m q i))))))

    within : rows_in mem q ≡ size_of m q
    within = rows_read g q hq

    leaf_says : (e : Listed) → Memᴰ e leaf_list → (c : Comer g x e) × (leaf_of m (head_of m c.van) ≡ q)
    leaf_says e h =
        let f = all_say (rows_in mem q) 0 (omega (arith, within)) e h in
        let here : Memᴰ (row_vertex m q f.row) (row_vertices m q) = row_in_lem g q hq f.row (omega (arith, f.below, within)) in
        (f.comer, ap (leaf_of m) f.heads ∙ (vertices_says m q (row_vertex m q f.row) (subst (Memᴰ (row_vertex m q f.row)) (rows_leaf m q leaf) here)).1)

    leaf_has : (e : Listed) (c : Comer g x e) → leaf_of m (head_of m c.van) ≡ q → Memᴰ e leaf_list
    leaf_has e c own =
        let h : ℕ = head_of m c.van in
        let (i, hi, same) = place_read g q hq h (subst⁻¹ (Memᴰ h) (rows_leaf m q leaf) (vertices_has m q h (head_below g c.place c.van c.there) own)) in
        all_have (rows_in mem q) 0 i (omega (arith, within)) (omega arith) (omega (arith, within, hi)) e c (sym same)

    -- the leaf's mark, and what it makes of the best
    module _ (k : ℕ) (some : 1 ≤ k) (marks : List ℕ) (long : length marks ≡ 512) (fresh : word marks q ≢ 1) where
      marked : word (set marks q 1) q ≡ 1
      marked = get_or-set_same marks q 1 0 (omega (arith, long, g.sound.parts))

      kept : (p : ℕ) → p ≢ q → word (set marks q 1) p ≡ word marks p
      kept p other = get_or-set_other marks q p 1 0 other

      mark_is : (l : Listed) (c : Comer g x l) (marks' : List ℕ) → is_looked_at m s marks' l ≡ eqb (word marks' (leaf_of m (head_of m c.van))) 1
      unfolding is_looked_at
      mark_is l c marks' = ap (λ (p : ℕ). eqb (word marks' p) 1) (comer_leaf l c)

      leaf_best : offered_all k (take k (sorted (keep (is_looked_at m s marks) (comers g x)))) leaf_list ≡ take k (sorted (keep (is_looked_at m s (set marks q 1)) (comers g x)))
      leaf_best =
          offered_more k some (comers g x) (coming_distinct m x 0 s.vans) (comer_near g x) (is_looked_at m s marks) (is_looked_at m s (set marks q 1)) leaf_list
          (all_distinct (rows_in mem q) 0 (omega (arith, within)))
          (λ e h.
          let told = leaf_says e h in
          (comer_has g x e told.0, mark_is e told.0 marks ∙ ap (λ (p : ℕ). eqb (word marks p) 1) told.1 ∙ ne_eqb (word marks q) 1 fresh))
          (λ l h e. says l (comer_says g x l h) e)
          (λ l h e. has l (comer_says g x l h) e)
        where
          says : (l : Listed) (c : Comer g x l) → is_looked_at m s (set marks q 1) l ≡ true → (is_looked_at m s marks l ≡ true) ⊎ Memᴰ l leaf_list
          says l c e =
              elim (ℕ_discrete (leaf_of m (head_of m c.van)) q) [
                | yes own ↦ inr (leaf_has l c own)
                | no other ↦ inl (mark_is l c marks ∙ ap (λ (w : ℕ). eqb w 1) (sym (kept (leaf_of m (head_of m c.van)) other)) ∙ sym (mark_is l c (set marks q 1)) ∙ e)
              ]

          own-marked : (l : Listed) (c : Comer g x l) → leaf_of m (head_of m c.van) ≡ q → is_looked_at m s (set marks q 1) l ≡ true
          own-marked l c own = mark_is l c (set marks q 1) ∙ ap (λ (p : ℕ). eqb (word (set marks q 1) p) 1) own ∙ eq-eqb (word (set marks q 1) q) 1 marked

          has : (l : Listed) (c : Comer g x l) → (is_looked_at m s marks l ≡ true) ⊎ Memᴰ l leaf_list → is_looked_at m s (set marks q 1) l ≡ true
          has l c (inr h) = let told = leaf_says l h in own-marked l told.0 told.1
          has l c (inl e) =
              elim (ℕ_discrete (leaf_of m (head_of m c.van)) q) [
                | yes own ↦ own-marked l c own
                | no other ↦ mark_is l c (set marks q 1) ∙ ap (λ (w : ℕ). eqb w 1) (kept (leaf_of m (head_of m c.van)) other) ∙ sym (mark_is l c marks) ∙ e
              ]

      pub own_best : offered_all k (take k (sorted (keep (is_looked_at m s marks) (comers g x)))) (offers_of mem q dx) ≡ take k (sorted (keep (is_looked_at m s (set marks q 1)) (comers g x)))
      own_best = ap (offered_all k (take k (sorted (keep (is_looked_at m s marks) (comers g x))))) (own_enough (rows_in mem q) 0 (omega (arith, within))) ∙ leaf_best
