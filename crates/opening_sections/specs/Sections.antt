-- The memory of an accepted map but for its distance tables.
use Rattle.std.specs.Prelude.{◌≡◌, true, List, ℕ, ◌+◌, ◌*◌, ◌<◌, length}
use Rattle.words.specs.Lists.{word}
use Rattle.layout.specs.Layout.{words_in_vertex, words_in_road, words_in_row}
use Rattle.roads.specs.Map.{Map, part_count, road_count}
use Rattle.parts.specs.Size.{size_of, need}
use Rattle.maps.specs.Sound.{Sound}
use Rattle.fleet.specs.State.{fresh_state}
use Rattle.image.specs.Places.{vertices_at, roads_at, tables_at, first_row_of}
use Rattle.image.specs.Image.{image}
use Rattle.image.specs.Records.{road_record}
use Rattle.map_shown.specs.Shown.{ShowsParents, ShowsLeaves, ShowsRoads, ShowsSizes, ShowsLifts}
use Rattle.records.specs.Written.{Written}
use Rattle.records.specs.Agrees.{Agrees}
use Rattle.opening_fresh.specs.Fresh.{fresh_vertex}
use Rattle.opening_rows.specs.Rows.{RowsStand}
use Rattle.opening_sections.specs.Counted.{Counted}

-- m is sound, has these counts and this need, and what is lent shows it
pub record MapShown (m : Map) (parents leaves body lifts sizes : List ℕ) (vertices roads parts used : ℕ) : Type 0 where
  pub sound : Sound m
  pub counted : Counted m vertices roads parts used
  pub parents_shown : ShowsParents m parents
  pub leaves_shown : ShowsLeaves m leaves
  pub roads_shown : ShowsRoads m body
  pub lifts_shown : ShowsLifts m lifts
  pub sizes_shown : ShowsSizes m sizes

-- the roads are written, and then the vertices
pub record NetStands (m : Map) (before after : List ℕ) : Type 0 where
  pub between : List ℕ
  pub roads : Written (roads_at m) words_in_road 0 (road_count m) (road_record m) before between
  pub vertices : Written (vertices_at m) words_in_vertex 0 m.vertices (fresh_vertex m) between after

-- the rows of all vertices are written
pub record RowsDone (m : Map) (before after : List ℕ) : Type 0 where
  pub cursors : List ℕ
  pub rows : RowsStand m m.vertices (λ q. true) before cursors after

-- every word of the image stands but those of the tables
pub record Sections (m : Map) (start : ℕ) (mem : List ℕ) : Type 0 where
  pub long : length mem ≡ need m
  pub front : Agrees (image m (fresh_state start)) 0 (tables_at m) mem
  pub rows : (p i w : ℕ) → p < part_count m → i < size_of m p → w < words_in_row
      → word mem (first_row_of m p + words_in_row * i + w) ≡ word (image m (fresh_state start)) (first_row_of m p + words_in_row * i + w)
