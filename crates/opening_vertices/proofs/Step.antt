-- One vertex more.
-- Assumes nothing.
use Rattle.std.proofs.Common.{◌≡◌, ℕ, zero, suc, ◌+◌, ◌*◌, ◌%◌, ◌^◌, ◌<◌, ◌≤◌, Bool, eqb, ltb, List, length, set, sym, refl, ap, ◌∙◌, subst, ap₂, arith, length-set, get_or-set_other, get_or-set_same, le-ltb, lt-ltb, eq-eqb, ne_eqb}
use Rattle.std.specs.Prelude.{Option, None, Some, MatchOption}
use Rattle.std.specs.Option.{unwrap_or}
use Rattle.maps.specs.Bytes.{road_shown}
use native.Mathlib.Decide.{ℕ_discrete, dec_lt}
use lib.Seq.{sets}
use Rattle.words.specs.Lists.{word, up_to, keep, place_in, link}
use Rattle.words.specs.Ranks.{rank}
use Rattle.words.proofs.Ranks.{rank_none, rank_kept, rank_left, rank_most, rank_place, keep_first}
use Rattle.layout.specs.Layout.{words_in_vertex}
use Rattle.roads.specs.Map.{Road, Map, road_count, road_at, no_road}
use Rattle.parts.specs.Tree.{leaf_of, vertices_of}
use Rattle.image.specs.Places.{vertices_at}
use Rattle.image.specs.Image.{first_road_from, ends_at}
use Rattle.records.proofs.Written.{written_up}
use Rattle.opening_fresh.specs.Fresh.{vertex_words, fresh_vertex}
use Rattle.opening_vertices.specs.Vertices.{Skipped, VerticesReady, VerticesStand}

-- what is found among the roads
pub skipped_by : (body : List ℕ) (roads first v : ℕ) (found : Option ℕ) (r : ℕ) → first ≤ roads
    → MatchOption found ((k : ℕ) → first ≤ k → k < roads → (road_shown body k).from < v)
    (λ i. (first ≤ i) × (i < roads) × (v ≤ (road_shown body i).from) × ((k : ℕ) → first ≤ k → k < i → (road_shown body k).from < v))
    → r ≡ unwrap_or found roads → Skipped body roads first v r
skipped_by body roads first v None r h none is =
    record { passed = record { from = omega arith; most = omega arith; below = λ i low high. none i low (omega arith) }; stops = λ k. absurd (omega arith) }
skipped_by body roads first v (Some i) r h some is =
    subst (Skipped body roads first v) (sym is)
    (record { passed = record { from = some.0; most = omega (arith, some.1); below = some.3 }; stops = λ k. some.2 })

-- which vertices stand in a part, if it is a leaf
abbrev pub stands_in : Map → ℕ → ℕ → Bool
stands_in m q u = eqb (leaf_of m u) q

-- the loop's state before vertex v: the places taken so far, the roads passed so far
pub record Taken (m : Map) (v : ℕ) (places : List ℕ) (road : ℕ) : Type 0 where
  pub place : (q : ℕ) → q < length places → word places q ≡ rank (stands_in m q) v
  pub reached : road ≤ road_count m
  pub passed : (i : ℕ) → i < road → (road_at m i).from < v

module _ (m : Map) (leaves body : List ℕ) (roads vertices base : ℕ) (ins places₀ mem₀ : List ℕ) (ready : VerticesReady m leaves body roads vertices base ins places₀ mem₀) where
  pub taken_none : Taken m 0 places₀ 0
  taken_none = record { place = λ q h. ready.none q h ∙ sym (rank_none (stands_in m q)); reached = omega arith; passed = λ i h. absurd (omega arith) }

  -- the roads rise by their start
  rises : (i j : ℕ) → i ≤ j → j < road_count m → (road_at m i).from ≤ (road_at m j).from
  rises i zero h k = subst (λ (n : ℕ). (road_at m n).from ≤ (road_at m 0).from) (let none : 0 ≡ i = omega arith in none) (omega arith)
  rises i (suc j) h k = elim (ℕ_discrete i (suc j)) [ yes same ↦ subst (λ (n : ℕ). (road_at m n).from ≤ (road_at m (suc j)).from) (sym same) (omega arith) | no other ↦ omega (arith, rises i j (omega (arith, other)) (omega arith), ready.rising j k) ]

  module _ (v road road' leaf place in-link : ℕ) (places places' mem mem' : List ℕ) (h : v < vertices) (long : length places ≡ length places₀) (taken : Taken m v places road)
      (skipped : Skipped body roads road v road') (is_IsLeaf : leaf ≡ word leaves v) (is_place : place ≡ word places leaf) (takes : places' ≡ set places leaf ((place + 1) % 2 ^ 32))
      (is-link : in-link ≡ word ins v) (stored : mem' ≡ sets mem (base + words_in_vertex * v) (vertex_words leaf place road' in-link)) where
    here : v < m.vertices
    here = omega (arith, ready.count)

    leaf_is : leaf ≡ leaf_of m v
    leaf_is = is_IsLeaf ∙ ready.leaves_shown v here

    leaf_in : leaf < length places
    leaf_in = omega (arith, ready.leaf_room v here, ap (λ (n : ℕ). n) leaf_is)

    place_is : place ≡ rank (stands_in m leaf) v
    place_is = is_place ∙ taken.place leaf leaf_in

    -- the roads passed start below v, and no other does
    first_road : road' ≡ first_road_from m v
    unfolding first_road_from
    first_road = sym (keep_first (λ (r : Road). ltb r.from v) no_road m.roads road' reached (λ i k. lt-ltb (road_at m i).from v (below i k)) (λ i low k. le-ltb (road_at m i).from v (above i low k)))
      where
        reached : road' ≤ road_count m
        reached = omega (arith, skipped.passed.most, ready.road_count_lem)

        below : (i : ℕ) → i < road' → (road_at m i).from < v
        below i k = elim (dec_lt i road) [ yes old ↦ taken.passed i old | no new ↦ subst (λ (r : Road). r.from < v) (ready.roads_shown i (omega (arith, reached))) (skipped.passed.below i (omega (arith, new)) k) ]

        above : (i : ℕ) → road' ≤ i → i < road_count m → v ≤ (road_at m i).from
        above i low k =
            let first : v ≤ (road_at m road').from = subst (λ (r : Road). v ≤ r.from) (ready.roads_shown road' (omega arith)) (skipped.stops (omega (arith, ready.road_count_lem))) in
            omega (arith, first, rises road' i low k)

    same_record : vertex_words leaf place road' in-link ≡ fresh_vertex m v
    unfolding fresh_vertex vertices_of
    same_record =
        (λ i. vertex_words (leaf_is i) (at_place i) (first_road i) (linked i))
      where
        at_place : place ≡ place_in v (keep (stands_in m (leaf_of m v)) (up_to m.vertices))
        at_place = place_is ∙ ap (λ (q : ℕ). rank (stands_in m q) v) leaf_is ∙ sym (rank_place (stands_in m (leaf_of m v)) v m.vertices here (eq-eqb (leaf_of m v) (leaf_of m v) refl))

        linked : in-link ≡ link (ends_at v) 0 m.roads
        linked = is-link ∙ ready.linked v here

    sized : length (fresh_vertex m v) ≡ words_in_vertex
    unfolding fresh_vertex
    sized = refl

    vertices_more : VerticesStand m v mem₀ mem → VerticesStand m (v + 1) mem₀ mem'
    vertices_more old =
        written_up (vertices_at m) words_in_vertex (fresh_vertex m) 0 v mem₀ mem mem' (omega arith) sized (omega (arith, ready.room, old.long)) old
        (stored ∙ ap₂ (λ (k : ℕ) (l : List ℕ). sets mem (k + words_in_vertex * v) l) ready.start same_record)

    one_more : (place + 1) % 2 ^ 32 ≡ suc (rank (stands_in m leaf) v)
    one_more = omega (arith, place_is, rank_most (stands_in m leaf) v, ready.few)

    places_now : (q : ℕ) → q < length places' → word places' q ≡ rank (stands_in m q) (suc v)
    places_now q k = by (ℕ_discrete q leaf)
      where
        in_room : q < length places
        in_room = omega (arith, ap length takes, length-set places leaf ((place + 1) % 2 ^ 32))

        by : Dec (q ≡ leaf) → word places' q ≡ rank (stands_in m q) (suc v)
        by (yes same) =
            ap (λ (l : List ℕ). word l q) takes
            ∙ ap (word (set places leaf ((place + 1) % 2 ^ 32))) same
            ∙ get_or-set_same places leaf ((place + 1) % 2 ^ 32) 0 leaf_in
            ∙ one_more
            ∙ ap (λ (k : ℕ). suc (rank (stands_in m k) v)) (sym same)
            ∙ sym (rank_kept (stands_in m q) v (eq-eqb (leaf_of m v) q (sym leaf_is ∙ sym same)))
        by (no other) =
            ap (λ (l : List ℕ). word l q) takes
            ∙ get_or-set_other places leaf q ((place + 1) % 2 ^ 32) 0 other
            ∙ taken.place q in_room
            ∙ sym (rank_left (stands_in m q) v (ne_eqb (leaf_of m v) q (λ e. other (sym e ∙ sym leaf_is))))

    taken_more : Taken m (v + 1) places' road'
    taken_more =
        record {
          place = λ q k. places_now q k ∙ ap (rank (stands_in m q)) (let one : suc v ≡ v + 1 = omega arith in one);
          reached = omega (arith, skipped.passed.most, ready.road_count_lem);
          passed = λ i k. elim (dec_lt i road) [ yes old ↦ omega (arith, taken.passed i old) | no new ↦ again i (omega (arith, new)) k ];
        }
      where
        again : (i : ℕ) → road ≤ i → i < road' → (road_at m i).from < v + 1
        again i low k =
            let most = skipped.passed.most in
            let less : (road_at m i).from < v = subst (λ (r : Road). r.from < v) (ready.roads_shown i (omega (arith, most, ready.road_count_lem))) (skipped.passed.below i low k) in
            omega (arith, less)

    -- vertex v written
    pub vertex_more : VerticesStand m v mem₀ mem → Taken m (v + 1) places' road' × VerticesStand m (v + 1) mem₀ mem'
    vertex_more old = (taken_more, vertices_more old)
