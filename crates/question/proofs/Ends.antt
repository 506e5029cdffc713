-- How a search starts, what a leaf that is looked at leaves, and when the list of the best is the answer.
-- Assumes nothing.
use mathlib.Core.Path.{◌≡◌, refl, sym, ap, subst⁻¹, ◌∙◌}
use mathlib.Core.Logic.{◌⊎◌, inl, inr, ⊎_elim, ◌≢◌}
use mathlib.Core.Bool.{Bool, true, false}
use mathlib.Core.List.{List, [], ◌∷◌, Memᴰ}
use Prim.Native.Nat.{ℕ, ◌+◌, ◌-◌, ◌≤◌, ◌<◌}
use native.Mathlib.Decide.{ℕ_discrete}
use native.Mathlib.Omega.{arith}
use lib.ListN.{length, set, take, length-set}
use lib.Seq.{get_or-set_same, get_or-set_other, take-nil}
use borrow.Author.Tests.{eq-eqb, ne_eqb}
use Rattle.words.specs.Limits.{FAR}
use Rattle.words.specs.Lists.{word, keep}
use Rattle.words.proofs.Tests.{true_or_false}
use Rattle.roads.specs.Map.{Map, part_count}
use Rattle.roads.specs.Dist.{dist}
use Rattle.roads.proofs.Trail.{Net}
use Rattle.roads.proofs.Laws.{dist_most, dist_self}
use Rattle.parts.specs.Tree.{leaf_of, holds, is_leaf}
use Rattle.parts.specs.Border.{boundary}
use Rattle.parts.specs.Size.{row_vertices, size_of}
use Rattle.parts.proofs.Rows.{row_vertex_lem}
use Rattle.parts.proofs.Way.{in_own_leaf}
use Rattle.parts.proofs.Down.{Tree, holding_part, leaf_of_held, boundary_row}
use Rattle.maps.proofs.Distances.{sound_net, sound_tree}
use Rattle.fleet.specs.State.{State, slot_of, head_of, active, distance_of}
use Rattle.fleet.specs.Question.{Listed, coming_from, sorted, nearest}
use Rattle.fleet.proofs.Coming.{coming_distinct}
use Rattle.image.specs.Records.{row_vertex}
use Rattle.best_list.specs.Best.{limit_of, offered_all}
use Rattle.best_list.proofs.Offers.{limit_below}
use Rattle.places.specs.Place.{counts_in, vertex_address}
use Rattle.far_sums.specs.Least.{Least}
use Rattle.layout.specs.Layout.{rows_in_part, part_word}
use Rattle.part_words.specs.Part.{rows_in}
use Rattle.row_distances.specs.Distances.{Alone, Relaxed}
use Rattle.cells.specs.Lowered.{lowered}
use Rattle.part_keys.specs.Keys.{key_at}
use Rattle.far_sums.proofs.Lowering.{lowered_length, lowered_here, lowered_found}
use Rattle.van_offers.specs.Genuine.{Genuine}
use Rattle.van_offers.proofs.Heading.{Comer, head_below, head_active}
use Rattle.van_offers.proofs.Comers.{comers, comer_near, settled}
use Rattle.question.specs.Kept.{LeafRelaxed, offers_of, BoundOutside, Coming, Covered, Waits, SearchingParts, van_leaf, is_looked_at}
use Rattle.question.proofs.Shown.{rows_read, owner_read, row_below_lem, one_row, place_of_own}
use Rattle.question.proofs.Exact.{still_honest, exact_own, known_own}
use Rattle.question.proofs.Asked.{asked_is_row, own_is_row, asked_every, leaf_exact, leaf_known}
use Rattle.question.proofs.Leaves.{comer_leaf, own_best}
use Rattle.question.proofs.Turns.{fewer, still_waited, none_again, fewer_apart, fewer_keyed, fewer_unmarked, covered_without, bound_outside, closer_waits, now_inside}

-- no mark is set: nothing was offered
not_offered : (m : Map) (s : State) (marks : List ℕ) → ((q : ℕ) → word marks q ≡ 0) → (l : Listed) → is_looked_at m s marks l ≡ false
unfolding is_looked_at
not_offered m s marks no-marks l = ne_eqb (word marks (van_leaf m (slot_of s l.van))) 1 (λ e. omega (arith, e, no-marks (van_leaf m (slot_of s l.van))))

keep_none : (test : Listed → Bool) (all : List Listed) → ((l : Listed) → test l ≡ false) → keep test all ≡ []
keep_none test [] out = refl
keep_none test (l ∷ all) out = rw (out l) (keep_none test all out)

module _ {m : Map} {s : State} {mem : List ℕ} (g : Genuine m s mem) (x : ℕ) (hx : x < m.vertices) (k : ℕ) (some : 1 ≤ k) where
  net : Net m
  net = sound_net m g.sound

  tree : Tree m
  tree = sound_tree m g.sound

  -- a mark is kept, and the leaf's is set
  marks_keep : (marks : List ℕ) (q p : ℕ) → q < part_count m → length marks ≡ 512 → word marks p ≡ 1 → word (set marks q 1) p ≡ 1
  marks_keep marks q p hq long e =
      elim (ℕ_discrete p q) [
        | yes same ↦ ap (word (set marks q 1)) same ∙ get_or-set_same marks q 1 0 (omega (arith, long, g.sound.parts))
        | no other ↦ get_or-set_other marks q p 1 0 other ∙ e
      ]

  marks_new : (marks : List ℕ) (q : ℕ) → q < part_count m → length marks ≡ 512 → word (set marks q 1) q ≡ 1
  marks_new marks q hq long = get_or-set_same marks q 1 0 (omega (arith, long, g.sound.parts))

  -- the list after a look, where the leaf's active vertices have their distances
  looked : (q : ℕ) → q < part_count m → is_leaf m q ≡ true → (marks dx' : List ℕ) (found found' : List Listed) → length marks ≡ 512 → word marks q ≢ 1
      → found' ≡ offered_all k found (offers_of mem q dx') → ((v : ℕ) → v < m.vertices → dist m v x ≤ word dx' v)
      → ((r : ℕ) → Memᴰ r (row_vertices m q) → active m s r ≡ true → word dx' r ≤ dist m r x) → found ≡ take k (sorted (keep (is_looked_at m s marks) (coming_from m x 0 s.vans)))
      → found' ≡ take k (sorted (keep (is_looked_at m s (set marks q 1)) (coming_from m x 0 s.vans)))
  looked q hq leaf marks dx' found found' long fresh look honest exact list =
      look
      ∙ ap (λ (l : List Listed). offered_all k l (offers_of mem q dx')) list
      ∙ own_best g x q hq leaf dx' (λ r hr act. omega (arith, honest r (row_vertex_lem m q r hr), exact r hr act)) k some marks long fresh

  module _ {dx keys marks waits : List ℕ} {part out n : ℕ} {found : List Listed} (st : SearchingParts m s x k dx keys marks waits part out n found) where
    -- A waiting leaf is taken.
    module _ (at : ℕ) (h : at < n) (fits : n ≤ length waits) (leaf : is_leaf m (word waits at) ≡ true) where
      q : ℕ
      q = word waits at

      w : Waits m s x dx q (word keys q)
      unfolding q
      w = st.waiting at h

      waits_long : length (fewer waits at n h fits) ≡ 512
      waits_long = length-set waits at (word waits (n - 1)) ∙ st.waits_length

      waiting_less : (t : ℕ) → t < n - 1 → Waits m s x dx (word (fewer waits at n h fits) t) (word keys (word (fewer waits at n h fits) t))
      waiting_less t ht =
          let (u, hu, e) = still_waited waits at n h fits t ht in
          subst⁻¹ (λ (p : ℕ). Waits m s x dx p (word keys p)) e (st.waiting u hu)

      -- what was covered still is, where the leaf's mark is set
      still : (marks' : List ℕ) → ((p : ℕ) → word marks p ≡ 1 → word marks' p ≡ 1) → word marks' q ≡ 1 → (low v : ℕ) → Covered m marks waits n low v → Covered m marks' (fewer waits at n h fits) (n - 1) low v
      unfolding q
      still marks' kept set' low v c =
          ⊎_elim
          (λ old. ⊎_elim (λ marked. inl (kept (leaf_of m v) marked)) inr old)
          (λ (from, inside). inl (ap (word marks') (leaf_of_held m net tree q v leaf inside) ∙ set'))
          (covered_without waits at n h fits m marks low v c)

      pub leaf_taken : {dx' : List ℕ} {found' : List Listed} → LeafRelaxed mem (word waits at) dx dx' → found' ≡ offered_all k found (offers_of mem (word waits at) dx')
          → SearchingParts m s x k dx' keys (set marks (word waits at) 1) (fewer waits at n h fits) part out (n - 1) found'
      unfolding q
      leaf_taken {dx'} {found'} relaxed look =
          record {
            keys_length = st.keys_length;
            marks_length = length-of;
            waits_length = waits_long;
            honest = honest;
            known = leaf_known g q w.is_part x hx st.known w.apart w.gates relaxed;
            is_part = st.is_part;
            holds_x = st.holds_x;
            root_out = st.root_out;
            gates = λ b e. omega (arith, relaxed.no_more b, st.gates b e);
            outside = st.outside;
            waiting = λ t ht. closer_waits g x hx relaxed.no_more (waiting_less t ht);
            inside = λ v comes inside. covers part v (st.inside v comes inside);
            keyed = λ p key v comes inside. covers p v (st.keyed p key v comes inside);
            known_inside = now_inside g x hx q w.is_part relaxed own_is_row part st.known_inside (st.waits_inside at h);
            waits_inside = λ t ht v inside.
                let (u, hu, e) = still_waited waits at n h fits t ht in
                st.waits_inside u hu v (ap (λ (p : ℕ). holds m p v) (sym e) ∙ inside);
            waits_keyed = fewer_keyed waits at n h fits keys st.waits_keyed;
            waits_apart = fewer_apart waits at n h fits st.waits_apart;
            unmarked = λ t ht marked.
                fewer_unmarked waits at n h fits marks st.unmarked t ht
                (sym (get_or-set_other marks q (word (fewer waits at n h fits) t) 1 0 (none_again waits at n h fits st.waits_apart t ht)) ∙ marked);
            marked_keyed = marked_keyed;
            list = looked q w.is_part leaf marks dx' found found' st.marks_length (st.unmarked at h) look honest exact st.list;
          }
        where
          length-of : length (set marks q 1) ≡ 512
          length-of = length-set marks q 1 ∙ st.marks_length

          honest : (v : ℕ) → v < m.vertices → dist m v x ≤ word dx' v
          honest = still_honest g q w.is_part relaxed own_is_row x hx st.honest

          exact : (r : ℕ) → Memᴰ r (row_vertices m q) → active m s r ≡ true → word dx' r ≤ dist m r x
          exact = leaf_exact g q w.is_part x hx st.known w.apart w.gates relaxed

          marked_keyed : (p : ℕ) → word (set marks q 1) p ≡ 1 → word keys p < FAR
          marked_keyed p marked =
              elim (ℕ_discrete p q) [
                | yes same ↦ omega (arith, ap (word keys) same, st.waits_keyed at h)
                | no other ↦ st.marked_keyed p (sym (get_or-set_other marks q p 1 0 other) ∙ marked)
              ]

          covers : (low v : ℕ) → Covered m marks waits n low v → Covered m (set marks q 1) (fewer waits at n h fits) (n - 1) low v
          covers low v c = still (set marks q 1) (λ p e. marks_keep marks q p w.is_part st.marks_length e) (marks_new marks q w.is_part st.marks_length) low v c

    -- a van that can come heads for an active vertex that reaches x, and is no nearer than it
    comer_comes : (l : Listed) (c : Comer g x l) → Coming m s x (head_of m c.van) × (dist m (head_of m c.van) x ≤ l.distance)
    unfolding active distance_of
    comer_comes l c = (
      record {
        vertex = head_below g c.place c.van c.there;
        is_active = head_active g c.place c.van c.there c.free;
        reaches = c.reaches;
      },
      omega (arith, ap (λ (a : Listed). a.distance) c.same),
    )

    -- The search stops: what lies outside and what waits is farther than the limit.
    pub stopped : (key : ℕ) → Least (key_at keys waits) n key → limit_of k found < out → limit_of k found < key → found ≡ nearest m s x k
    unfolding is_looked_at key_at
    stopped key least beyond-out beyond-key = settled g x k some (is_looked_at m s marks) st.list rest
      where
        rest : (l : Listed) → Comer g x l → (is_looked_at m s marks l ≡ true) ⊎ (limit_of k found < l.distance)
        rest l c = by (true_or_false (holds m part v))
          where
            v : ℕ
            v = head_of m c.van

            comes : Coming m s x v × (dist m v x ≤ l.distance)
            comes = comer_comes l c

            by : (holds m part v ≡ true) ⊎ (holds m part v ≡ false) → (is_looked_at m s marks l ≡ true) ⊎ (limit_of k found < l.distance)
            by (inr out') = inr (omega (arith, st.outside v comes.0.vertex out', comes.1))
            by (inl inside) =
                ⊎_elim
                (λ marked. inl (eq-eqb _ 1 (ap (word marks) (comer_leaf g x l c) ∙ marked)))
                (λ (t, ht, from, held). inr (omega (arith, least.below t ht, (st.waiting t ht).bound v comes.0 held, comes.1)))
                (st.inside v comes.0 inside)

    -- the limit of the list is below FAR
    pub limit_near : limit_of k found < FAR
    limit_near = limit_below k some (comers g x) (coming_distinct m x 0 s.vans) (comer_near g x) (is_looked_at m s marks) found st.list

  -- The start: the leaf of x.
  module _ (dx₀ : List ℕ) {dx : List ℕ} (far : (v : ℕ) → v < length dx₀ → word dx₀ v ≡ FAR) (room : m.vertices ≤ length dx₀) (isStart : dx ≡ set dx₀ x 0) (leaf : ℕ) (isLeaf' : leaf ≡ leaf_of m x) where
    hl : leaf < part_count m
    hl = omega (arith, isLeaf', tree.leaf_part x hx)

    is_leaf_lem : is_leaf m leaf ≡ true
    is_leaf_lem = ap (is_leaf m) isLeaf' ∙ tree.leaf_leaf x hx

    start_at : word dx x ≡ 0
    start_at = ap (λ (l : List ℕ). word l x) isStart ∙ get_or-set_same dx₀ x 0 0 (omega (arith, room, hx))

    elsewhere : (v : ℕ) → v < m.vertices → v ≢ x → word dx v ≡ FAR
    elsewhere v hv other = ap (λ (l : List ℕ). word l v) isStart ∙ get_or-set_other dx₀ x v 0 0 other ∙ far v (omega (arith, hv, room))

    -- x alone has a distance, in the row at its place
    module _ (place : ℕ) (isPlace : place ≡ word mem (vertex_address (counts_in mem) x + 1)) where
      at_place : (place < size_of m leaf) × (row_vertex m leaf place ≡ x)
      at_place = subst⁻¹ (λ (q : ℕ). (place < size_of m q) × (row_vertex m q place ≡ x)) isLeaf'
          (subst⁻¹ (λ (i : ℕ). (i < size_of m (leaf_of m x)) × (row_vertex m (leaf_of m x) i ≡ x)) isPlace (place_of_own g x hx))

      pub own_row : place < rows_in mem leaf
      own_row = omega (arith, at_place.0, rows_read g leaf hl)

      pub alone : Alone mem (part_word mem leaf rows_in_part) (rows_in mem leaf) dx place
      alone =
          record {
            here = ap (word dx) (owner_read g leaf hl place at_place.0 ∙ at_place.1) ∙ start_at;
            others = λ j h other.
                let hj : j < size_of m leaf = omega (arith, h, rows_read g leaf hl) in
                omega (
                  arith,
                  ap (word dx) (owner_read g leaf hl j hj),
                  elsewhere (row_vertex m leaf j) (row_below_lem g leaf hl j hj)
                      (λ same. other (one_row m leaf j place hj at_place.0 (same ∙ sym at_place.1))),
                );
          }

    honest : (v : ℕ) → v < m.vertices → dist m v x ≤ word dx v
    honest v hv =
        elim (ℕ_discrete v x) [
          | yes same ↦ omega (arith, ap (λ (k : ℕ). dist m k x) same, dist_self m net x hx)
          | no other ↦ omega (arith, elsewhere v hv other, dist_most m net v hv x)
        ]

    known : (v : ℕ) → v < m.vertices → word dx v < FAR → word dx v ≤ dist m v x
    known v hv some =
        elim (ℕ_discrete v x) [
          | yes same ↦ omega (arith, ap (word dx) same, start_at)
          | no other ↦ absurd (omega (arith, some, elsewhere v hv other))
        ]

    module _ {dx' : List ℕ} (relaxed : Relaxed mem leaf true dx dx') (keys marks waits : List ℕ) {keys₁ : List ℕ} {out : ℕ} {found' : List Listed} (no_keys : (q : ℕ) → q < 512 → word keys q ≡ FAR)
        (keys-long : length keys ≡ 512) (no-marks : (q : ℕ) → word marks q ≡ 0) (marks-long : length marks ≡ 512) (waits_long : length waits ≡ 512) (look : found' ≡ offered_all k [] (offers_of mem leaf dx'))
        (isKeys : keys₁ ≡ lowered keys leaf 0) (bound : BoundOutside mem leaf dx' out) where
      honest' : (v : ℕ) → v < m.vertices → dist m v x ≤ word dx' v
      honest' = still_honest g leaf hl relaxed asked_is_row x hx honest

      exact : (r : ℕ) → Memᴰ r (row_vertices m leaf) → word dx' r ≤ dist m r x
      exact = exact_own g leaf hl relaxed asked_is_row x hx known (asked_every g leaf hl) is_leaf_lem (sym isLeaf') (omega (arith, start_at))

      gates : (b : ℕ) → boundary m leaf b ≡ true → word dx' b ≤ dist m b x
      gates b e = exact b (boundary_row m net tree leaf b e)

      holds_x : holds m leaf x ≡ true
      holds_x = ap (λ (p : ℕ). holds m p x) isLeaf' ∙ in_own_leaf m x hx

      own_known : (v : ℕ) → v < m.vertices → word dx v < FAR → holds m leaf v ≡ true
      own_known v hv some =
          elim (ℕ_discrete v x) [
            | yes same ↦ ap (holds m leaf) same ∙ holds_x
            | no other ↦ absurd (omega (arith, some, elsewhere v hv other))
          ]

      none_offered : [] ≡ take k (sorted (keep (is_looked_at m s marks) (coming_from m x 0 s.vans)))
      unfolding sorted
      none_offered = sym (ap (λ (l : List Listed). take k (sorted l)) (keep_none (is_looked_at m s marks) (coming_from m x 0 s.vans) (not_offered m s marks no-marks)) ∙ take-nil k)

      covered : (low v : ℕ) → holds m leaf v ≡ true → Covered m (set marks leaf 1) waits 0 low v
      covered low v inside = inl (ap (word (set marks leaf 1)) (leaf_of_held m net tree leaf v is_leaf_lem inside) ∙ marks_new marks leaf hl marks-long)

      keyed : (q : ℕ) → word keys₁ q < FAR → (v : ℕ) → Coming m s x v → holds m q v ≡ true → Covered m (set marks leaf 1) waits 0 q v
      keyed q key v comes inside =
          let hq = holding_part m tree q v inside in
          ⊎_elim
          (λ old. absurd (omega (arith, no_keys q (omega (arith, hq, g.sound.parts)), old)))
          (λ (same, low, near). covered q v (ap (λ (p : ℕ). holds m p v) (sym same) ∙ inside))
          (lowered_found keys leaf 0 FAR q (omega (arith, key, ap (λ (l : List ℕ). word l q) isKeys)))

      marked_keyed : (q : ℕ) → word (set marks leaf 1) q ≡ 1 → word keys₁ q < FAR
      marked_keyed q marked =
          elim (ℕ_discrete q leaf) [
            | yes same ↦ omega (arith, ap (word keys₁) same, ap (λ (l : List ℕ). word l leaf) isKeys, lowered_here keys leaf 0)
            | no other ↦ absurd (omega (arith, get_or-set_other marks leaf q 1 0 other, marked, no-marks q))
          ]

      pub started : SearchingParts m s x k dx' keys₁ (set marks leaf 1) waits leaf out 0 found'
      started =
          record {
            keys_length = ap length isKeys ∙ lowered_length keys leaf 0 ∙ keys-long;
            marks_length = length-set marks leaf 1 ∙ marks-long;
            waits_length = waits_long;
            honest = honest';
            known = known_own g leaf hl relaxed asked_is_row x hx known (asked_every g leaf hl) is_leaf_lem (sym isLeaf') (omega (arith, start_at));
            is_part = hl;
            holds_x = holds_x;
            root_out = bound.root;
            gates = gates;
            outside = bound_outside g x hx leaf hl bound holds_x gates;
            waiting = λ t h. absurd (omega arith);
            inside = λ v comes inside. covered leaf v inside;
            keyed = keyed;
            known_inside = now_inside g x hx leaf hl relaxed asked_is_row leaf own_known (λ v held. held);
            waits_inside = λ t h. absurd (omega arith);
            waits_keyed = λ t h. absurd (omega arith);
            waits_apart = λ t u h. absurd (omega arith);
            unmarked = λ t h. absurd (omega arith);
            marked_keyed = marked_keyed;
            list = looked leaf hl is_leaf_lem marks dx' [] found' marks-long (λ e. omega (arith, e, no-marks leaf)) look honest' (λ r hr act. exact r hr) none_offered;
          }
