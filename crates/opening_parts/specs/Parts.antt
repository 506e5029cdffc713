-- The parts from number p on, written into their section.
use Rattle.std.specs.Prelude.{◌≡◌, List, [], ◌∷◌, ℕ, ◌≤◌, ◌<◌, length}
use Rattle.words.specs.Limits.{most_parts, NONE}
use Rattle.words.specs.Lists.{word}
use Rattle.layout.specs.Layout.{words_in_part, parts_at, vertices_from}
use Rattle.roads.specs.Map.{Map, part_count}
use Rattle.parts.specs.Tree.{parent_of}
use Rattle.parts.specs.Size.{size_of, need}
use Rattle.image.specs.Places.{rows_at}
use Rattle.image.specs.Image.{part_record}
use Rattle.map_shown.specs.Shown.{ShowsParents, ShowsSizes}
use Rattle.records.specs.Written.{Written}

-- parent, rows, first row, table, first child, next sibling
abbrev pub part_words : ℕ → ℕ → ℕ → ℕ → ℕ → ℕ → List ℕ
part_words parent size row table child sibling = parent ∷ size ∷ row ∷ table ∷ child ∷ sibling ∷ 0 ∷ 0 ∷ []

-- what is lent shows the sizes of the parts of m, and where its rows end
pub record Sized (m : Map) (sizes : List ℕ) (parts rowsEnd : ℕ) : Type 0 where
  pub count : parts ≡ part_count m
  pub rows : rowsEnd ≡ need m
  pub shown : ShowsSizes m sizes
  pub small : (p : ℕ) → p < part_count m → size_of m p < 65536

-- what is lent shows the parts of m and has room for them, and no part has a child yet
pub record PartsReady (m : Map) (parents sizes : List ℕ) (parts tablesEnd rowsEnd : ℕ) (children mem : List ℕ) : Type 0 where
  pub count : parts ≡ part_count m
  pub tables : tablesEnd ≡ rows_at m
  pub rows : rowsEnd ≡ need m
  pub parents_shown : ShowsParents m parents
  pub sizes_shown : ShowsSizes m sizes
  pub root : parent_of m 0 ≡ NONE
  pub falls : (p : ℕ) → 0 < p → p < part_count m → parent_of m p < p
  pub small : (p : ℕ) → p < part_count m → size_of m p < 65536
  pub wide : length children ≡ most_parts
  pub few : part_count m ≤ most_parts
  pub none : (q : ℕ) → q < length children → word children q ≡ 0
  pub room : vertices_from (part_count m) ≤ length mem

-- the records of the parts from p on
abbrev pub PartsStand : Map → ℕ → List ℕ → List ℕ → Type 0
PartsStand m p mem₀ mem = Written parts_at words_in_part p (part_count m) (part_record m) mem₀ mem
