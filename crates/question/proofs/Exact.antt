-- Distances made less at the rows of a part that are asked for are the distances to x: in the leaf of x, in the parent of a part that holds x and whose boundary has its distances, and,
-- for rows at which an active vertex arrives, in a part outside of which x stands and whose boundary has them where one arrives.
-- Assumes nothing.
use mathlib.Core.Path.{◌≡◌, sym, ap, subst, subst⁻¹, ◌∙◌}
use mathlib.Core.Logic.{⊎_elim, ◌≢◌}
use mathlib.Core.Bool.{true, false, cond}
use mathlib.Core.List.{List, Memᴰ}
use Prim.Native.Nat.{ℕ, ◌+◌, ◌*◌, ◌≤◌, ◌<◌}
use native.Mathlib.Decide.{dec_lt, ℕ_discrete}
use native.Mathlib.Omega.{arith}
use lib.Dec.{ltb}
use borrow.Author.Tests.{lt-ltb, le-ltb}
use Rattle.words.specs.Limits.{FAR}
use Rattle.words.specs.Lists.{word}
use Rattle.words.proofs.Tests.{true_or_false}
use Rattle.roads.specs.Map.{Map, part_count}
use Rattle.roads.specs.Dist.{dist}
use Rattle.roads.proofs.Trail.{Net}
use Rattle.roads.proofs.Laws.{dist_most, dist_self, dist_triangle}
use Rattle.parts.specs.Tree.{leaf_of, holds, children, is_leaf}
use Rattle.parts.specs.Border.{boundary}
use Rattle.parts.specs.Size.{row_vertices, size_of}
use Rattle.parts.proofs.Cross.{enters_through, leaves_through}
use Rattle.parts.proofs.Rows.{row_vertex_lem}
use Rattle.parts.proofs.Down.{Tree, boundary_row, borders_says, vertices_has}
use Rattle.parts.proofs.Gates.{rows_leaf, rows_inner, row_held, boundary_border}
use Rattle.maps.proofs.Distances.{sound_net, sound_tree}
use Rattle.rows.specs.Row.{row_of, Arrives}
use Rattle.rows.proofs.Bounds.{row_bound}
use Rattle.fleet.specs.State.{State, active}
use Rattle.image.specs.Records.{row_vertex}
use Rattle.layout.specs.Layout.{rows_in_part, table_in_part, part_word}
use Rattle.part_words.specs.Part.{rows_in}
use Rattle.row_lists.specs.Rows.{owner_at, near_at}
use Rattle.row_distances.specs.Distances.{Closer}
use Rattle.van_offers.specs.Genuine.{Genuine}
use Rattle.question.proofs.Shown.{rows_read, owner_read, entry_read, row_in_lem, row_below_lem, place_read, one_row, arrives_further}

module _ {m : Map} {s : State} {mem : List ℕ} (g : Genuine m s mem) (p : ℕ) (hp : p < part_count m) {Asked : ℕ → Type 0} {dx dx' : List ℕ}
    (closer : Closer mem (part_word mem p rows_in_part) (part_word mem p table_in_part) (rows_in mem p) dx Asked dx') (of_part : (i : ℕ) → Asked i → i < rows_in mem p) (x : ℕ) (hx : x < m.vertices) where
  net : Net m
  net = sound_net m g.sound

  tree : Tree m
  tree = sound_tree m g.sound

  -- the distance to x of a vertex, and 0 of what is none
  bound : ℕ → ℕ
  bound u = cond (ltb u m.vertices) (dist m u x) 0

  bound_is : (u : ℕ) → u < m.vertices → bound u ≡ dist m u x
  unfolding bound
  bound_is u hu = rw (lt-ltb u m.vertices hu)

  bound_none : (u : ℕ) → m.vertices ≤ u → bound u ≡ 0
  unfolding bound
  bound_none u hu = rw (le-ltb u m.vertices hu)

  row_size : {i : ℕ} → i < rows_in mem p → i < size_of m p
  row_size h = omega (arith, rows_read g p hp)

  pub still_honest : ((v : ℕ) → v < m.vertices → dist m v x ≤ word dx v) → (v : ℕ) → v < m.vertices → dist m v x ≤ word dx' v
  still_honest honest v hv = omega (arith, bound_is v hv, closer.honest bound most old (λ i j row. ways i j (of_part i row)) v)
    where
      most : (u : ℕ) → bound u ≤ FAR
      most u = elim (dec_lt u m.vertices) [ yes hu ↦ omega (arith, bound_is u hu, dist_most m net u hu x) | no out ↦ omega (arith, bound_none u (omega (arith, out))) ]

      old : (u : ℕ) → bound u ≤ word dx u
      old u = elim (dec_lt u m.vertices) [ yes hu ↦ omega (arith, bound_is u hu, honest u hu) | no out ↦ omega (arith, bound_none u (omega (arith, out))) ]

      ways : (i j : ℕ) → i < rows_in mem p → j < rows_in mem p → bound (owner_at mem (part_word mem p rows_in_part) i) ≤ word mem (part_word mem p table_in_part + rows_in mem p * i + j) + near_at mem (part_word mem p rows_in_part) dx j
      ways i j hi hj =
          let hi' : i < size_of m p = row_size hi in
          let hj' : j < size_of m p = row_size hj in
          omega (
            arith,
            ap bound (owner_read g p hp i hi'),
            bound_is (row_vertex m p i) (row_below_lem g p hp i hi'),
            entry_read g p hp i j hi' hj',
            ap (word dx) (owner_read g p hp j hj'),
            honest (row_vertex m p j) (row_below_lem g p hp j hj'),
            dist_triangle m net (row_vertex m p i) (row_below_lem g p hp i hi') (row_vertex m p j) x (row_below_lem g p hp j hj'),
          )

  -- a row's vertex by way of which the distance from r splits
  pub record Split (r : ℕ) : Type 0 where
    pub by : ℕ
    pub is_row : Memᴰ by (row_vertices m p)
    pub known : word dx by ≤ dist m by x
    pub splits : dist m r x ≡ dist m r by + dist m by x

  -- r is asked for where it has no distance
  abbrev pub AskedFor : ℕ → Type 0
  AskedFor r = (i : ℕ) → i < size_of m p → row_vertex m p i ≡ r → FAR ≤ near_at mem (part_word mem p rows_in_part) dx i → Asked i

  -- a row that is asked for is its vertex's only row
  asked_one : (i : ℕ) → Asked i → AskedFor (row_vertex m p i)
  asked_one i row j hj same none =
      subst⁻¹ Asked
      (one_row m p j i hj (row_size (of_part i row)) same)
      row

  module _ (known : (v : ℕ) → v < m.vertices → word dx v < FAR → word dx v ≤ dist m v x) where
    exact : (r : ℕ) → Memᴰ r (row_vertices m p) → AskedFor r → (dist m r x ≢ FAR → Split r) → word dx' r ≤ dist m r x
    exact r hr wanted split = by (dec_lt (word dx r) FAR)
      where
        place : (i : ℕ) × (i < size_of m p) × (row_vertex m p i ≡ r)
        place = place_read g p hp r hr

        owner : owner_at mem (part_word mem p rows_in_part) place.0 ≡ r
        owner = owner_read g p hp place.0 place.1 ∙ place.2

        at : word dx' (owner_at mem (part_word mem p rows_in_part) place.0) ≡ word dx' r
        at = ap (word dx') owner

        decided : Asked place.0 → Dec (dist m r x ≡ FAR) → word dx' r ≤ dist m r x
        decided asked (yes far) = omega (arith, at, closer.far place.0 asked)
        decided asked (no real) =
            let t = split real in
            let (j, hj, same) = place_read g p hp t.by t.is_row in
            let between : dist m (row_vertex m p place.0) (row_vertex m p j) ≡ dist m r t.by = (λ k. dist m (place.2 k) (same k)) in
            omega (
              arith,
              at,
              closer.ways place.0 j asked (omega (arith, hj, rows_read g p hp)),
              entry_read g p hp place.0 j place.1 hj,
              ap (word dx) (owner_read g p hp j hj ∙ same),
              t.known,
              t.splits,
            )

        by : Dec (word dx r < FAR) → word dx' r ≤ dist m r x
        by (yes some) = omega (arith, closer.no_more r, known r (row_vertex_lem m p r hr) some)
        by (no none) =
            decided (wanted place.0 place.1 place.2 (omega (arith, none, ap (word dx) owner))) (ℕ_discrete (dist m r x) FAR)

    -- no distance is too great, where each row that is asked for has its own
    still_known : ((i : ℕ) → Asked i → word dx' (row_vertex m p i) ≤ dist m (row_vertex m p i) x) → (v : ℕ) → v < m.vertices → word dx' v < FAR → word dx' v ≤ dist m v x
    still_known each v hv some =
        ⊎_elim
        (λ same. omega (arith, same, known v hv (omega (arith, same, some))))
        (λ (i, row, owner).
        let is : row_vertex m p i ≡ v = sym (owner_read g p hp i (row_size (of_part i row))) ∙ owner in
        subst (λ (k : ℕ). word dx' k ≤ dist m k x) is (each i row))
        (closer.changed v)

    -- x stands outside
    module _ (outside : holds m p x ≡ false) (gates : (b : ℕ) → boundary m p b ≡ true → (row_of m (active m s) p b).distance < FAR → word dx b ≤ dist m b x) where
      pub exact_out : (r : ℕ) → Memᴰ r (row_vertices m p) → AskedFor r → (u : ℕ) × Arrives m (active m s) p r u → word dx' r ≤ dist m r x
      exact_out r hr wanted (u, comes) = exact r hr wanted (λ real.
          let hr' : r < m.vertices = row_vertex_lem m p r hr in
          let t = leaves_through m p net r x hr' real (row_held m net tree p r hr) outside in
          let further = arrives_further g p r u comes hr' t.at (λ far. real (omega (arith, far, t.splits, dist_most m net r hr' x))) in
          record {
            by = t.at;
            is_row = boundary_row m net tree p t.at t.is_boundary;
            known = gates t.at t.is_boundary (omega (arith, row_bound m (active m s) p t.at u further, further.reaches));
            splits = t.splits;
          })

      pub known_out : ((i : ℕ) → Asked i → (u : ℕ) × Arrives m (active m s) p (row_vertex m p i) u) → (v : ℕ) → v < m.vertices → word dx' v < FAR → word dx' v ≤ dist m v x
      known_out arrives = still_known (λ i row. exact_out (row_vertex m p i) (row_in_lem g p hp i (row_size (of_part i row))) (asked_one i row) (arrives i row))

    module _ (every : (i : ℕ) → i < size_of m p → FAR ≤ near_at mem (part_word mem p rows_in_part) dx i → Asked i) where
      wanted : (r : ℕ) → AskedFor r
      wanted r i hi same none = every i hi none

      -- x stands in the child c
      module _ (inner : is_leaf m p ≡ false) (c : ℕ) (hc : Memᴰ c (children m p)) (inside : holds m c x ≡ true) (gates : (b : ℕ) → boundary m c b ≡ true → word dx b ≤ dist m b x) where
        pub exact_in : (r : ℕ) → Memᴰ r (row_vertices m p) → word dx' r ≤ dist m r x
        exact_in r hr = exact r hr (wanted r) (λ real. ⊎_elim
            (λ together.
            let b = (borders_says m net tree p r (subst (Memᴰ r) (rows_inner m p inner) hr)).1 c hc together in
            record { by = r; is_row = hr; known = gates r b; splits = omega (arith, dist_self m net r (row_vertex_lem m p r hr)) })
            (λ elsewhere.
            let t = enters_through m c net r x (row_vertex_lem m p r hr) real elsewhere inside in
            record {
              by = t.at;
              is_row = subst⁻¹ (Memᴰ t.at) (rows_inner m p inner) (boundary_border m net tree p c t.at hc t.is_boundary);
              known = gates t.at t.is_boundary;
              splits = t.splits;
            })
            (true_or_false (holds m c r)))

        pub known_in : (v : ℕ) → v < m.vertices → word dx' v < FAR → word dx' v ≤ dist m v x
        known_in = still_known (λ i row. exact_in (row_vertex m p i) (row_in_lem g p hp i (row_size (of_part i row))))

      -- the leaf of x
      module _ (leaf : is_leaf m p ≡ true) (own : leaf_of m x ≡ p) (start : word dx x ≤ 0) where
        pub exact_own : (r : ℕ) → Memᴰ r (row_vertices m p) → word dx' r ≤ dist m r x
        exact_own r hr = exact r hr (wanted r) (λ real.
            record {
              by = x;
              is_row = subst⁻¹ (Memᴰ x) (rows_leaf m p leaf) (vertices_has m p x hx own);
              known = omega arith;
              splits = omega (arith, dist_self m net x hx);
            })

        pub known_own : (v : ℕ) → v < m.vertices → word dx' v < FAR → word dx' v ≤ dist m v x
        known_own = still_known (λ i row. exact_own (row_vertex m p i) (row_in_lem g p hp i (row_size (of_part i row))))
