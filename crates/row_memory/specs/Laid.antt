-- What stands in the memory of a map beside what its rows show, and what the rows show.
use Rattle.std.specs.Prelude.{◌≡◌, Bool, List, ℕ, ◌+◌, ◌*◌, ◌≤◌, ◌<◌, length}
use Rattle.words.specs.Limits.{most_vertices, most_borders}
use Rattle.words.specs.Lists.{word}
use Rattle.layout.specs.Layout.{size_in_part, rows_in_part, table_in_part, words_in_row, below_in_row, part_at}
use Rattle.roads.specs.Map.{Map, part_count}
use Rattle.roads.specs.Dist.{dist}
use Rattle.parts.specs.Tree.{parent_of}
use Rattle.parts.specs.Size.{size_of, row_count}
use Rattle.rows.specs.Row.{itself, row_of}
use Rattle.image.specs.Places.{rows_at, itself_at, table_of, first_row_of}
use Rattle.image.specs.Image.{row_below}
use Rattle.image.specs.Records.{row_vertex}
use Rattle.row_words.specs.Words.{row_in}

-- no part has more rows, and the map no more vertices, than a sound map allows
pub record Few (m : Map) : Type 0 where
  pub vertices : m.vertices ≤ most_vertices
  pub rows : (p : ℕ) → p < part_count m → size_of m p ≤ most_borders

-- The words that the refresh of a part's rows reads and never changes; `isActive` says which vertices are active.
pub record LaidForRows (m : Map) (isActive : ℕ → Bool) (mem : List ℕ) : Type 0 where
  pub parent : (p : ℕ) → p < part_count m → word mem (part_at p) ≡ parent_of m p
  pub size : (p : ℕ) → p < part_count m → word mem (part_at p + size_in_part) ≡ size_of m p
  pub rows : (p : ℕ) → p < part_count m → word mem (part_at p + rows_in_part) ≡ first_row_of m p
  pub table : (p : ℕ) → p < part_count m → word mem (part_at p + table_in_part) ≡ table_of m p
  pub own : (u : ℕ) → u < m.vertices → row_in mem (itself_at m u) ≡ itself isActive u
  pub entry : (p i j : ℕ) → p < part_count m → i < size_of m p → j < size_of m p → word mem (table_of m p + (size_of m p * i + j)) ≡ dist m (row_vertex m p i) (row_vertex m p j)
  pub below : (p i : ℕ) → p < part_count m → i < size_of m p → word mem (first_row_of m p + words_in_row * i + below_in_row) ≡ row_below m p (row_vertex m p i)
  pub long : rows_at m + words_in_row * row_count m ≤ length mem

-- the rows of part p show what they must, where `isActive` says which vertices are active
abbrev pub RowsShow : Map → (ℕ → Bool) → List ℕ → ℕ → Type 0
RowsShow m isActive mem p = (j : ℕ) → j < size_of m p → row_in mem (first_row_of m p + words_in_row * j) ≡ row_of m isActive p (row_vertex m p j)
