-- A part's rows and the row below, as the words of the memory show them. Assumes nothing.
use mathlib.Core.Path.{◌≡◌, ◌∙◌}
use mathlib.Core.Logic.{◌≢◌}
use mathlib.Core.List.{List}
use Prim.Native.Nat.{ℕ, ◌+◌, ◌*◌, ◌<◌}
use Rattle.layout.specs.Layout.{rows_in_part, words_in_row, own_in_row, child_in_row, below_in_row, part_word, row_word}
use Rattle.roads.specs.Map.{Map, part_count}
use Rattle.parts.specs.Size.{size_of}
use Rattle.parts.proofs.Down.{children_says}
use Rattle.assembly.specs.Laid.{LaidForTables}
use Rattle.assembly.proofs.Shown.{shown_in, shown_place}
use Rattle.table_words.specs.declared.LaidRows.{LaidRows}
use Rattle.table_words.specs.declared.Below.{Below}
use Rattle.table_words.specs.Rows.{RowsRead, RowsOf, StandsBelow}

pub rows_shown : {mem : List ℕ} {p : ℕ} {rows : LaidRows} → RowsRead mem p rows → (m : Map) → LaidForTables m mem → p < part_count m → RowsOf m p rows
rows_shown {p = p} read m L hp =
    let laid = L.part p hp in
    record { nodes = read.nodes ∙ laid.size; first = read.first ∙ laid.first_row; table = read.table ∙ laid.table }

-- the word that tells the child of row i, and the one that points to the row there
pub below_shown : (mem : List ℕ) {i first mark pointer : ℕ} {below : Below} → mark ≡ row_word mem first i own_in_row →
    ((v d : ℕ) → v < child_in_row → mark ≡ v + child_in_row * d → below.part ≡ d) → below.part ≢ 0 → RowsRead mem below.part below.rows →
    pointer ≡ row_word mem first i below_in_row → ((n : ℕ) → pointer ≡ below.rows.first + words_in_row * n → below.row ≡ n) →
    (m : Map) (p : ℕ) → LaidForTables m mem → p < part_count m → i < size_of m p → first ≡ part_word mem p rows_in_part → StandsBelow m p i below
below_shown mem {i} {below = below} shown reads some read points finds m p L hp hi first_is =
    let row_in = shown_in m mem L p i hp hi first_is shown reads some in
    record {
      row_in = row_in;
      rows = rows_shown read m L (children_says m p below.part row_in.is_child).0;
      row = shown_place m mem L p i hp hi first_is shown reads some read.first points finds;
    }
