-- What each section's function asks of a sound map that is shown.
-- Assumes nothing.
use mathlib.Core.Path.{◌≡◌, refl, subst, ◌∙◌}
use mathlib.Core.Logic.{⊎_elim}
use mathlib.Core.Bool.{Bool, true, false, cond}
use mathlib.Core.List.{List}
use Prim.Native.Nat.{ℕ, ◌+◌, ◌<◌}
use native.Mathlib.Omega.{arith}
use lib.ListN.{length}
use Rattle.words.specs.Limits.{most_parts, most_vertices}
use Rattle.words.specs.Lists.{word, link}
use Rattle.words.proofs.Places.{entry_in}
use Rattle.layout.specs.Layout.{rows_in_part, vertices_from, roads_from, part_at}
use Rattle.roads.specs.Map.{Map, part_count, road_at, no_road}
use Rattle.parts.specs.Tree.{is_leaf, vertices_of}
use Rattle.parts.specs.Border.{borders}
use Rattle.parts.specs.Size.{row_vertices, size_of}
use Rattle.maps.specs.Sound.{Sound}
use Rattle.image.specs.Places.{vertices_at, rows_at, first_row_of}
use Rattle.image.specs.Image.{ends_at}
use Rattle.image.proofs.Records.{vertices_start, roads_start, vans_start, tables_start, rows_start, rows_end}
use Rattle.records.specs.Written.{Written}
use Rattle.opening_fresh.specs.Fresh.{fresh_vertex}
use Rattle.opening_parts.specs.Parts as parts-specs
use Rattle.opening_roads.specs.Roads as roads-specs
use Rattle.opening_vertices.specs.Vertices as vertices-specs
use Rattle.opening_rows.specs.Rows as rows-specs
use Rattle.opening_sections.specs.Sections.{MapShown, NetStands, RowsDone}

-- a leaf has at most 32 vertices, a part with children at most 128 borders
pub size_small : (m : Map) → Sound m → (p : ℕ) → p < part_count m → size_of m p < 65536
unfolding size_of row_vertices
size_small m sound p h = by (is_leaf m p) refl
  where
    by : (leaf : Bool) → is_leaf m p ≡ leaf → length (cond leaf (vertices_of m p) (borders m p)) < 65536
    by true e = omega (arith, ((sound.part p h).leaf e).1)
    by false e = omega (arith, (sound.part p h).borders e)

module _ (m : Map) (parents leaves body lifts sizes : List ℕ) (vertices roads parts used : ℕ) (shown : MapShown m parents leaves body lifts sizes vertices roads parts used) (mem : List ℕ) (long : length mem ≡ used) where
  pub parts_sized : parts-specs.Sized m sizes parts used
  parts_sized = record { count = shown.counted.part_count_lem; rows = shown.counted.need_is; shown = shown.sizes_shown; small = size_small m shown.sound }

  pub parts_ready : (tablesEnd : ℕ) (children : List ℕ) → tablesEnd ≡ rows_at m → length children ≡ most_parts → ((q : ℕ) → q < length children → word children q ≡ 0)
      → parts-specs.PartsReady m parents sizes parts tablesEnd used children mem
  parts_ready tablesEnd children e wide none =
      record {
        count = shown.counted.part_count_lem;
        tables = e;
        rows = shown.counted.need_is;
        parents_shown = shown.parents_shown;
        sizes_shown = shown.sizes_shown;
        root = shown.sound.root;
        falls = λ p real h. (shown.sound.part p h).parent real;
        small = size_small m shown.sound;
        wide = wide;
        few = shown.sound.parts.1;
        none = none;
        room = omega (arith, long, shown.counted.need_is, rows_end m, rows_start m, tables_start m, vans_start m, roads_start m);
      }

  pub roads_ready : (base : ℕ) (ins : List ℕ) → base ≡ roads_from parts vertices → length ins ≡ most_vertices → ((v : ℕ) → v < length ins → word ins v ≡ 0)
      → roads-specs.RoadsReady m body roads base ins mem
  roads_ready base ins e wide none =
      record {
        count = shown.counted.road_count_lem;
        start = omega (arith, e, roads_start m, shown.counted.part_count_lem, shown.counted.vertex_count_lem);
        shown = shown.roads_shown;
        ends = λ i h. omega (arith, wide, (shown.sound.road (road_at m i) (entry_in m.roads i no_road h)).to_exists, shown.sound.vertices.1);
        none = none;
        room = omega (arith, long, shown.counted.need_is, rows_end m, rows_start m, tables_start m, vans_start m);
      }

  pub vertices_ready : (base : ℕ) (ins places mem' : List ℕ) → base ≡ vertices_from parts → length mem' ≡ length mem → ((v : ℕ) → v < m.vertices → word ins v ≡ link (ends_at v) 0 m.roads)
      → length places ≡ most_parts → ((q : ℕ) → q < length places → word places q ≡ 0) → vertices-specs.VerticesReady m leaves body roads vertices base ins places mem'
  vertices_ready base ins places mem' e same linked wide none =
      record {
        road_count_lem = shown.counted.road_count_lem;
        count = shown.counted.vertex_count_lem;
        few = shown.sound.vertices.1;
        start = omega (arith, e, vertices_start m, shown.counted.part_count_lem);
        leaves_shown = shown.leaves_shown;
        roads_shown = shown.roads_shown;
        rising = λ i h. ⊎_elim (λ less. omega arith) (λ tie. omega (arith, tie.0)) (shown.sound.rising i h);
        leaf_room = λ v h. omega (arith, wide, (shown.sound.vertex v h).0, shown.sound.parts.1);
        linked = linked;
        none = none;
        room = omega (arith, same, long, shown.counted.need_is, rows_end m, rows_start m, tables_start m, vans_start m, roads_start m, vertices_start m);
      }

  pub rows_ready : (base : ℕ) (cursors : List ℕ) → used < 4294967296 → base ≡ vertices_from parts → length cursors ≡ most_parts → ((p : ℕ) → p < part_count m → word cursors p ≡ first_row_of m p)
      → rows-specs.RowsReady m parents leaves lifts vertices base cursors mem
  rows_ready base cursors fits e wide first =
      record {
        sound = shown.sound;
        small = omega (arith, shown.counted.need_is);
        count = shown.counted.vertex_count_lem;
        begins = omega (arith, e, vertices_start m, shown.counted.part_count_lem);
        parents_shown = shown.parents_shown;
        leaves_shown = shown.leaves_shown;
        lifts_shown = shown.lifts_shown;
        wide = wide;
        first = first;
        room = omega (arith, long, shown.counted.need_is);
      }

  -- the roads, and then the vertices with the links that the roads left
  pub net_stands : (base : ℕ) (ins between places after : List ℕ) → base ≡ vertices_from parts → length ins ≡ most_vertices → length places ≡ most_parts → ((q : ℕ) → q < length places → word places q ≡ 0)
      → roads-specs.RoadsStand m 0 mem ins between → (vertices-specs.VerticesReady m leaves body roads vertices base ins places between → vertices-specs.VerticesStand m vertices between after)
      → NetStands m mem after
  net_stands base ins between places after e long-ins wide none stand then-vertices =
      record {
        between = between;
        roads = stand.records;
        vertices =
            subst (λ (k : ℕ). Written (vertices_at m) 8 0 k (fresh_vertex m) between after) shown.counted.vertex_count_lem
            (then-vertices (vertices_ready base ins places between e stand.records.long (λ v h. stand.links v (omega (arith, long-ins, shown.sound.vertices.1))) wide none));
      }

  -- the rows, from the first row of each part on
  pub rows_done : (base : ℕ) (cursors₀ cursors cursors' after : List ℕ) → used < 4294967296 → base ≡ vertices_from parts → length cursors₀ ≡ most_parts
      → ((p : ℕ) → p < part_count m → word mem (part_at p + rows_in_part) ≡ first_row_of m p) → rows-specs.FirstRows mem parts cursors₀ cursors
      → (rows-specs.RowsReady m parents leaves lifts vertices base cursors mem → rows-specs.RowsStand m vertices (λ q. true) mem cursors' after)
      → RowsDone m mem after
  rows_done base cursors₀ cursors cursors' after fits e wide first read then-rows =
      record {
        cursors = cursors';
        rows =
            subst (λ (k : ℕ). rows-specs.RowsStand m k (λ q. true) mem cursors' after) shown.counted.vertex_count_lem
            (then-rows
            (rows_ready base cursors fits e (read.long ∙ wide) (λ p h. read.first p (omega (arith, shown.counted.part_count_lem)) (omega (arith, wide, shown.sound.parts.1, h)) ∙ first p h)));
      }
