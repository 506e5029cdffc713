-- The rows of a part, and the row in a child at which a vertex of a part stands.
use Rattle.std.specs.Prelude.{◌≡◌, List, ℕ}
use Rattle.layout.specs.Layout.{size_in_part, rows_in_part, table_in_part, part_word}
use Rattle.roads.specs.Map.{Map}
use Rattle.parts.specs.Size.{size_of}
use Rattle.image.specs.Places.{table_of, first_row_of}
use Rattle.assembly.specs.Steps.{RowIn, place_below}
use Rattle.table_words.specs.declared.LaidRows.{LaidRows}
use Rattle.table_words.specs.declared.Below.{Below}

-- the rows are those of which the record of part p tells
pub record RowsRead (mem : List ℕ) (p : ℕ) (rows : LaidRows) : Type 0 where
  pub first : rows.first ≡ part_word mem p rows_in_part
  pub table : rows.table.at ≡ part_word mem p table_in_part
  pub nodes : rows.table.nodes ≡ part_word mem p size_in_part

-- the rows are those of part p
pub record RowsOf (m : Map) (p : ℕ) (rows : LaidRows) : Type 0 where
  pub nodes : rows.table.nodes ≡ size_of m p
  pub first : rows.first ≡ first_row_of m p
  pub table : rows.table.at ≡ table_of m p

-- the vertex of row i of part p stands in this child, in this row
pub record StandsBelow (m : Map) (p i : ℕ) (below : Below) : Type 0 where
  pub row_in : RowIn m p i below.part
  pub rows : RowsOf m below.part below.rows
  pub row : below.row ≡ place_below m p i below.part
