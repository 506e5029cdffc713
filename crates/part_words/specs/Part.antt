-- The record of a part, in any list of words: how many rows it has, where they and its table stand, and whether these lie within the memory.
use Rattle.std.specs.Prelude.{◌≡◌, Bool, ◌&&◌, List, ℕ, ◌+◌, ◌*◌, ◌≤◌, min, length, leb}
use Rattle.words.specs.Limits.{most_borders}
use Rattle.layout.specs.Layout.{size_in_part, rows_in_part, table_in_part, words_in_row, part_word}
use Rattle.part_words.specs.declared.part.PartRows.{PartRows}

-- its rows are at most `most_borders`, whatever stands there
abbrev pub rows_in : List ℕ → ℕ → ℕ
rows_in mem p = min (part_word mem p size_in_part) most_borders

-- `size` rows and a table for them lie within the memory
abbrev pub fits : List ℕ → ℕ → ℕ → ℕ → Bool
fits mem rows table size = leb (rows + words_in_row * size) (length mem) && leb (table + size * size) (length mem)

-- so do those of part p
abbrev pub lies_within : List ℕ → ℕ → Bool
lies_within mem p = fits mem (part_word mem p rows_in_part) (part_word mem p table_in_part) (rows_in mem p)

-- a part's rows and its table lie within the memory
abbrev pub Within : List ℕ → PartRows → Type 0
Within mem part = record {
  rows : part.first + words_in_row * part.size ≤ length mem;
  table : part.table + part.size * part.size ≤ length mem;
}

-- what was read of part p: how many rows it has, where they and its table stand, within the memory
pub record PartRead (mem : List ℕ) (p : ℕ) (part : PartRows) : Type 0 where
  pub size_is : part.size ≡ rows_in mem p
  pub first_is : part.first ≡ part_word mem p rows_in_part
  pub table_is : part.table ≡ part_word mem p table_in_part
  pub within : Within mem part
