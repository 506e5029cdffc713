-- A row in the memory is named by the address of its first word. It is also one number: of two rows the one that comes before has the lesser.
use Rattle.std.specs.Prelude.{ℕ, ◌+◌, ◌*◌, ◌/◌, ◌%◌, List, set}
use Rattle.words.specs.Lists.{word}
use Rattle.layout.specs.Layout.{distance_in_row, below_in_row}
use Rattle.rows.specs.declared.Row.{Row}

-- what the two words at an address show
abbrev pub row_in : List ℕ → ℕ → Row
row_in mem at = record { vertex = word mem at; distance = word mem (at + distance_in_row) }

-- the two words at an address, made to show a row
abbrev pub shown : List ℕ → ℕ → Row → List ℕ
shown mem at row = set (set mem at row.vertex) (at + distance_in_row) row.distance

-- what stands one step further down from a row: the two words that its word 3 points at
abbrev pub source_in : List ℕ → ℕ → Row
source_in mem row = row_in mem (word mem (row + below_in_row))

-- A row as one number: its vertex stands in the lower 32 bits, its distance above.
abbrev pub placed : ℕ → ℕ → ℕ
placed vertex distance = distance * 4294967296 + vertex

abbrev pub unplaced : ℕ → Row
unplaced place = record { vertex = place % 4294967296; distance = place / 4294967296 }
