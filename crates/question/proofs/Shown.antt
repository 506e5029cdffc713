-- What the words of a map and a fleet say of parts, rows, vertices and vans.
-- Assumes nothing.
use mathlib.Core.Path.{◌≡◌, refl, sym, ap, subst, subst⁻¹, ◌∙◌}
use mathlib.Core.Logic.{◌≢◌}
use mathlib.Core.Bool.{Bool, true, false, cond}
use mathlib.Core.List.{List, Memᴰ}
use Prim.Native.Nat.{ℕ, ◌+◌, ◌*◌, ◌/◌, ◌%◌, ◌<◌}
use native.Mathlib.Nat.{mod-eq_of_lt, add-mul-mod_self_left, add-mul-div_left, div-eq_of_lt, zero-add}
use native.Mathlib.Decide.{ℕ_discrete}
use native.Mathlib.Omega.{arith}
use lib.ListN.{length}
use borrow.Author.Tests.{eqb-true}
use Rattle.words.specs.Limits.{FAR}
use Rattle.words.specs.Lists.{word, place_in, first_or}
use Rattle.words.proofs.Lists.{place_in_lem}
use Rattle.words.proofs.Sums.{sum_below}
use Rattle.words.proofs.Places.{entry_in, place_of_entry}
use Rattle.roads.specs.Map.{Map, part_count}
use Rattle.roads.specs.Dist.{dist}
use Rattle.roads.proofs.Trail.{join}
use Rattle.roads.proofs.Laws.{dist_most, dist_self}
use Rattle.parts.specs.Tree.{parent_of, leaf_of, vertices_of, holds, children, child_of, is_leaf}
use Rattle.parts.specs.Border.{borders}
use Rattle.parts.specs.Size.{row_vertices, size_of, rows_below, row_count, table_words_below, table_words, need}
use Rattle.parts.proofs.Rows.{row_vertex_lem, rows_unique}
use Rattle.parts.proofs.Down.{Tree, child_held, boundary_inside, children_says, border_row, border_child, vertices_has}
use Rattle.parts.proofs.Gates.{rows_leaf, rows_inner, row_held}
use Rattle.maps.proofs.Distances.{sound_net, sound_tree, sound_dist, few_rows}
use Rattle.rows.specs.declared.Row.{Row}
use Rattle.rows.specs.Row.{row_of, Arrives, IsRow, empty, shows}
use Rattle.rows.proofs.Least.{row_is}
use Rattle.rows.proofs.Bounds.{row_bound}
use Rattle.fleet.specs.State.{State, active}
use Rattle.image.specs.Places.{itself_at, table_of, first_row_of, row_at}
use Rattle.image.specs.Image.{part_record, vertex_record, row_record, part_below, row_below}
use Rattle.image.specs.Records.{row_vertex}
use Rattle.image.proofs.Length.{image_length}
use Rattle.image.proofs.Words.{row_word_lem}
use Rattle.image.proofs.Records.{part_word_lem, table_word, shown_word, rows_start, rows_end}
use Rattle.places.specs.Place.{counts_in, vertex_address}
use Rattle.layout.specs.Layout.{words_in_part, parent_in_part, size_in_part, rows_in_part, table_in_part, child_in_part, words_in_row, distance_in_row, below_in_row, part_word}
use Rattle.part_words.specs.Part.{rows_in}
use Rattle.row_lists.specs.Rows.{owner_at, child_at, below_at, shows_own, Fits}
use Rattle.van_offers.specs.Genuine.{Genuine}
use Rattle.van_offers.proofs.Shown.{at_word, slots, vertex_read}

-- a row that shows a distance shows an active vertex
row_arrives : (m : Map) (isActive : ℕ → Bool) (q b : ℕ) → (row_of m isActive q b).distance < FAR → (u : ℕ) × Arrives m isActive q b u
row_arrives m isActive q b near = by (row_is m isActive q b) near
  where
    by : {row : Row} → IsRow m isActive q b row → row.distance < FAR → (u : ℕ) × Arrives m isActive q b u
    by (empty nobody) near = absurd (omega (arith, near))
    by (shows u comes least) near = (u, comes)

-- each vertex has one row
pub one_row : (m : Map) (p a b : ℕ) → a < size_of m p → b < size_of m p → row_vertex m p a ≡ row_vertex m p b → a ≡ b
unfolding size_of
one_row m p a b ha hb same =
    omega (arith, place_of_entry (rows_unique m p) a ha, place_of_entry (rows_unique m p) b hb, ap (λ (v : ℕ). place_in v (row_vertices m p)) same)

module _ {m : Map} {s : State} {mem : List ℕ} (g : Genuine m s mem) where
  -- The vertices.

  pub leaf_read : (v : ℕ) → v < m.vertices → word mem (vertex_address (counts_in mem) v + 0) ≡ leaf_of m v
  unfolding vertex_record
  leaf_read v hv = vertex_read g v 0 hv (omega arith)

  -- The parts.

  module _ (p : ℕ) (hp : p < part_count m) where
    part_read : (w : ℕ) → w < words_in_part → part_word mem p w ≡ word (part_record m p) w
    part_read w hw = at_word g (64 + 8 * p + w) ∙ part_word_lem m s (slots g) p w hp hw

    pub parent_read : part_word mem p parent_in_part ≡ parent_of m p
    unfolding part_record
    parent_read = part_read 0 (omega arith)

    size_read : part_word mem p size_in_part ≡ size_of m p
    unfolding part_record
    size_read = part_read 1 (omega arith)

    pub first_read : part_word mem p rows_in_part ≡ first_row_of m p
    unfolding part_record
    first_read = part_read 2 (omega arith)

    pub table_read : part_word mem p table_in_part ≡ table_of m p
    unfolding part_record
    table_read = part_read 3 (omega arith)

    pub child_read : part_word mem p child_in_part ≡ first_or 0 (children m p)
    unfolding part_record
    child_read = part_read 4 (omega arith)

    pub rows_read : rows_in mem p ≡ size_of m p
    rows_read = omega (arith, size_read, few_rows m g.sound p hp)

    -- The rows.

    pub row_in_lem : (i : ℕ) → i < size_of m p → Memᴰ (row_vertex m p i) (row_vertices m p)
    unfolding size_of
    row_in_lem i hi = entry_in (row_vertices m p) i 0 hi

    pub row_below_lem : (i : ℕ) → i < size_of m p → row_vertex m p i < m.vertices
    row_below_lem i hi = row_vertex_lem m p (row_vertex m p i) (row_in_lem i hi)

    shown : (i w : ℕ) → i < size_of m p → w < words_in_row
        → word mem (part_word mem p rows_in_part + words_in_row * i + w)
        ≡ word (row_record (row_of m (active m s) p (row_vertex m p i)) (row_vertex m p i) (part_below m p (row_vertex m p i)) (row_below m p (row_vertex m p i))) w
    shown i w hi hw =
        ap (λ (k : ℕ). word mem (k + words_in_row * i + w)) first_read ∙ at_word g (first_row_of m p + words_in_row * i + w) ∙ shown_word m s (slots g) p i w hp hi hw

    small : (i : ℕ) → i < size_of m p → row_vertex m p i < 65536
    small i hi = omega (arith, row_below_lem i hi, g.sound.vertices)

    pub owner_read : (i : ℕ) → i < size_of m p → owner_at mem (part_word mem p rows_in_part) i ≡ row_vertex m p i
    owner_read i hi =
        ap (λ (k : ℕ). k % 65536) (shown i 2 hi (omega arith))
        ∙ add-mul-mod_self_left (row_vertex m p i) 65536 (part_below m p (row_vertex m p i))
        ∙ mod-eq_of_lt (small i hi)

    pub entry_read : (i j : ℕ) → i < size_of m p → j < size_of m p → word mem (part_word mem p table_in_part + rows_in mem p * i + j) ≡ dist m (row_vertex m p i) (row_vertex m p j)
    entry_read i j hi hj =
        ap (word mem) at ∙ at_word g (table_of m p + (size_of m p * i + j)) ∙ table_word m s (slots g) p i j hp hi hj
      where
        at : part_word mem p table_in_part + rows_in mem p * i + j ≡ table_of m p + (size_of m p * i + j)
        at = omega (arith, table_read, ap (λ (k : ℕ). k * i) rows_read)

    -- a place for each row's vertex
    pub place_read : (r : ℕ) → Memᴰ r (row_vertices m p) → (i : ℕ) × (i < size_of m p) × (row_vertex m p i ≡ r)
    unfolding size_of
    place_read r h = let here = place_in_lem r (row_vertices m p) h in (place_in r (row_vertices m p), here.0, here.1)

    -- The rows of a part with children.

    module _ (inner : is_leaf m p ≡ false) where
      border_in : (i : ℕ) → i < size_of m p → Memᴰ (row_vertex m p i) (borders m p)
      border_in i hi = subst (Memᴰ (row_vertex m p i)) (rows_inner m p inner) (row_in_lem i hi)

      pub child_at_read : (i : ℕ) → i < size_of m p → child_at mem (part_word mem p rows_in_part) i ≡ child_of m p (row_vertex m p i)
      unfolding part_below
      child_at_read i hi =
          ap (λ (k : ℕ). k / 65536) (shown i 2 hi (omega arith))
          ∙ add-mul-div_left (row_vertex m p i) (part_below m p (row_vertex m p i)) (omega arith)
          ∙ ap (λ (k : ℕ). k + part_below m p (row_vertex m p i)) (div-eq_of_lt (small i hi))
          ∙ zero-add (part_below m p (row_vertex m p i))
          ∙ ap (λ (b : Bool). cond b 0 (child_of m p (row_vertex m p i))) inner

      -- the child that holds a border
      pub child_of_border : (b : ℕ) → Memᴰ b (borders m p) → Memᴰ (child_of m p b) (children m p) × (holds m (child_of m p b) b ≡ true)
      child_of_border b h =
          let found = border_child m (sound_net m g.sound) (sound_tree m g.sound) p b h in (found.0, boundary_inside m (child_of m p b) b found.1)

      pub below_read : (i : ℕ) → i < size_of m p → below_at mem (part_word mem p rows_in_part) i ≡ (row_of m (active m s) (child_of m p (row_vertex m p i)) (row_vertex m p i)).distance
      unfolding row_below
      below_read i hi =
          let c : ℕ = child_of m p (row_vertex m p i) in
          let child = child_of_border (row_vertex m p i) (border_in i hi) in
          let below : word mem (part_word mem p rows_in_part + words_in_row * i + below_in_row) ≡ row_at m c (row_vertex m p i) =
          shown i 3 hi (omega arith) ∙ ap (λ (b : Bool). cond b (itself_at m (row_vertex m p i)) (row_at m c (row_vertex m p i))) inner in
          ap (λ (k : ℕ). word mem (k + 1)) below
          ∙ at_word g (row_at m c (row_vertex m p i) + 1)
          ∙ (row_word_lem m s (slots g) c (children_says m p c child.0).0 (row_vertex m p i)
          (border_row m (sound_net m g.sound) (sound_tree m g.sound) p (row_vertex m p i) c (border_in i hi) child.0 child.1) 1 (omega arith)).1

  -- The rows and the table of a part lie within the memory.
  pub part_fits : (p : ℕ) → p < part_count m → Fits mem p
  unfolding first_row_of rows_below row_count table_of table_words_below table_words
  part_fits p hp =
      record {
        rows = omega (arith, first_read p hp, rows_read p hp, sum_below (size_of m) p (part_count m) hp, rows_end m, long);
        table = omega (
          arith,
          table_read p hp,
          ap (λ (k : ℕ). k * k) (rows_read p hp),
          sum_below (λ q. size_of m q * size_of m q) p (part_count m) hp,
          rows_start m,
          rows_end m,
          long,
        );
        apart = λ a b ha hb same.
            let ha' : a < size_of m p = omega (arith, ha, rows_read p hp) in
            let hb' : b < size_of m p = omega (arith, hb, rows_read p hp) in
            one_row m p a b ha' hb' (sym (owner_read p hp a ha') ∙ same ∙ owner_read p hp b hb');
      }
    where
      long : length mem ≡ need m
      long = ap length g.is ∙ image_length m s (slots g)

  -- What a row shows.

  -- below a row of a part with children: an active vertex of the part arrives at the row's vertex
  pub shown_arrives : (p : ℕ) (hp : p < part_count m) → is_leaf m p ≡ false → (i : ℕ) → i < size_of m p → below_at mem (part_word mem p rows_in_part) i < FAR
      → (u : ℕ) × Arrives m (active m s) p (row_vertex m p i) u
  shown_arrives p hp inner i hi near =
      let r : ℕ = row_vertex m p i in
      let child = child_of_border p hp inner r (border_in p hp inner i hi) in
      let (u, comes) = row_arrives m (active m s) (child_of m p r) r (omega (arith, near, below_read p hp inner i hi)) in (
        u,
        record {
          vertex = comes.vertex;
          inside = child_held m (sound_net m g.sound) (sound_tree m g.sound) p (child_of m p r) u child.0 comes.inside;
          active = comes.active;
          reaches = comes.reaches;
        },
      )

  -- a row that shows its own vertex shows an active one, and the row of an active vertex shows that
  module _ (p : ℕ) (hp : p < part_count m) (i : ℕ) (hi : i < size_of m p) where
    distance_read : word mem (part_word mem p rows_in_part + words_in_row * i + distance_in_row) ≡ (row_of m (active m s) p (row_vertex m p i)).distance
    distance_read = shown p hp i 1 hi (omega arith)

    pub own_arrives : shows_own mem (part_word mem p rows_in_part) i ≡ true → (u : ℕ) × Arrives m (active m s) p (row_vertex m p i) u
    unfolding shows_own
    own_arrives own = row_arrives m (active m s) p (row_vertex m p i) (omega (arith, distance_read, eqb-true (word mem (part_word mem p rows_in_part + words_in_row * i + distance_in_row)) 0 own))

    pub own_shown : active m s (row_vertex m p i) ≡ true → word mem (part_word mem p rows_in_part + words_in_row * i + distance_in_row) ≡ 0
    own_shown act =
        let hv = row_below_lem p hp i hi in
        let self = dist_self m (sound_net m g.sound) (row_vertex m p i) hv in
        omega (
          arith,
          distance_read,
          self,
          row_bound m (active m s) p (row_vertex m p i) (row_vertex m p i)
              (record { vertex = hv; inside = row_held m (sound_net m g.sound) (sound_tree m g.sound) p (row_vertex m p i) (row_in_lem p hp i hi); active = act; reaches = omega (arith, self) }),
        )

  -- the row of a vertex in its leaf
  pub place_of_own : (x : ℕ) → x < m.vertices
      → (word mem (vertex_address (counts_in mem) x + 1) < size_of m (leaf_of m x)) × (row_vertex m (leaf_of m x) (word mem (vertex_address (counts_in mem) x + 1)) ≡ x)
  unfolding vertex_record size_of
  place_of_own x hx =
      let tree : Tree m = sound_tree m g.sound in
      let rows : row_vertices m (leaf_of m x) ≡ vertices_of m (leaf_of m x) = rows_leaf m (leaf_of m x) (tree.leaf_leaf x hx) in
      let place : word mem (vertex_address (counts_in mem) x + 1) ≡ place_in x (row_vertices m (leaf_of m x)) = vertex_read g x 1 hx (omega arith) ∙ ap (place_in x) (sym rows) in
      let here = place_in_lem x (row_vertices m (leaf_of m x)) (subst⁻¹ (Memᴰ x) rows (vertices_has m (leaf_of m x) x hx refl)) in
      (omega (arith, place, here.0), ap (row_vertex m (leaf_of m x)) place ∙ here.1)

  -- and so at what the row's vertex reaches
  pub arrives_further : (p r u : ℕ) → Arrives m (active m s) p r u → r < m.vertices → (t : ℕ) → dist m r t ≢ FAR → Arrives m (active m s) p t u
  arrives_further p r u comes hr t real =
      record { vertex = comes.vertex; inside = comes.inside; active = comes.active; reaches = near (ℕ_discrete (dist m u t) FAR) }
    where
      near : Dec (dist m u t ≡ FAR) → dist m u t < FAR
      near (no some) = omega (arith, some, dist_most m (sound_net m g.sound) u comes.vertex t)
      near (yes none) =
          absurd ((sound_dist m g.sound u t comes.vertex).far.0 none _
          (join ((sound_dist m g.sound u r comes.vertex).reached (λ far. omega (arith, far, comes.reaches))) ((sound_dist m g.sound r t hr).reached real)))
