-- The memory of a map whose other sections stand, and what filling its tables leaves.
use Rattle.std.specs.Prelude.{◌≡◌, ◌⊎◌, List, ℕ, ◌+◌, ◌*◌, ◌≤◌, ◌<◌, length}
use Rattle.words.specs.Lists.{word}
use Rattle.layout.specs.Layout.{vertices_in_head, roads_in_head, parts_in_head, size_in_part, rows_in_part, table_in_part, words_in_vertex, roads_in_vertex, words_in_road, to_in_road, weight_in_road, own_in_row, child_in_row, below_in_row, part_word, row_word}
use Rattle.roads.specs.Map.{Map, part_count, road_count, road_at}
use Rattle.roads.specs.Dist.{dist}
use Rattle.parts.specs.Size.{size_of, need}
use Rattle.maps.specs.Sound.{Sound}
use Rattle.image.specs.Places.{vertices_at, roads_at, tables_at, rows_at, table_of, first_row_of}
use Rattle.image.specs.Image.{first_road_from, part_below, row_below}
use Rattle.image.specs.Records.{row_vertex}

-- rows, address of the first row, address of the table
pub record PartLaid (m : Map) (mem : List ℕ) (p : ℕ) : Type 0 where
  pub size : part_word mem p size_in_part ≡ size_of m p
  pub first_row : part_word mem p rows_in_part ≡ first_row_of m p
  pub table : part_word mem p table_in_part ≡ table_of m p

pub record RoadLaid (m : Map) (mem : List ℕ) (r : ℕ) : Type 0 where
  pub from : word mem (roads_at m + words_in_road * r) ≡ (road_at m r).from
  pub to : word mem (roads_at m + words_in_road * r + to_in_road) ≡ (road_at m r).to
  pub weight : word mem (roads_at m + words_in_road * r + weight_in_road) ≡ (road_at m r).weight

-- the row's own vertex with the part further down, and where its row there stands
pub record RowLaid (m : Map) (mem : List ℕ) (p i : ℕ) : Type 0 where
  pub mark : row_word mem (first_row_of m p) i own_in_row ≡ row_vertex m p i + child_in_row * part_below m p (row_vertex m p i)
  pub below : row_word mem (first_row_of m p) i below_in_row ≡ row_below m p (row_vertex m p i)

-- The words of the image of m that filling the tables reads: all stand, whatever the tables hold.
pub record LaidForTables (m : Map) (mem : List ℕ) : Type 0 where
  pub sound : Sound m
  pub fits : need m ≤ length mem
  pub vertices : word mem vertices_in_head ≡ m.vertices
  pub roads : word mem roads_in_head ≡ road_count m
  pub parts : word mem parts_in_head ≡ part_count m
  pub part : (p : ℕ) → p < part_count m → PartLaid m mem p
  pub first_road : (v : ℕ) → v < m.vertices → word mem (vertices_at m + words_in_vertex * v + roads_in_vertex) ≡ first_road_from m v
  pub road : (r : ℕ) → r < road_count m → RoadLaid m mem r
  pub row : (p i : ℕ) → p < part_count m → i < size_of m p → RowLaid m mem p i

-- the word in row i and column j of the table of part p
abbrev pub table_entry : Map → List ℕ → ℕ → ℕ → ℕ → ℕ
table_entry m mem p i j = word mem (table_of m p + (size_of m p * i + j))

-- an address outside the tables
abbrev pub OutsideTables : Map → ℕ → Type 0
OutsideTables m x = (x < tables_at m) ⊎ (rows_at m ≤ x)

-- Every word of every table is a distance over the whole map, and no other word has changed.
pub record Filled (m : Map) (before after : List ℕ) : Type 0 where
  pub sized : length after ≡ length before
  pub outside : (x : ℕ) → OutsideTables m x → word after x ≡ word before x
  pub distance : (p i j : ℕ) → p < part_count m → i < size_of m p → j < size_of m p → table_entry m after p i j ≡ dist m (row_vertex m p i) (row_vertex m p j)
