-- The rows of a part from any words: what they say, which of them have a distance, which are asked for, and the lists of both.
use Rattle.std.specs.Prelude.{◌≡◌, Bool, true, ◌&&◌, ◌||◌, List, ℕ, ◌+◌, ◌*◌, ◌%◌, ◌/◌, ◌≤◌, ◌<◌, length, leb, ltb, eqb}
use Rattle.layout.specs.Layout.{rows_in_part, table_in_part, words_in_row, distance_in_row, own_in_row, child_in_row, below_in_row, part_word, row_word}
use Rattle.words.specs.Limits.{FAR}
use Rattle.words.specs.Lists.{word, up_to, keep}
use Rattle.listing.specs.Lists.{Lists}
use Rattle.part_words.specs.Part.{rows_in}
use Rattle.row_lists.specs.declared.lists.RowLists.{RowLists}

-- the vertex of row i, where the rows start at `first`; the part further down; and the distance that the row further down shows
abbrev pub owner_at : List ℕ → ℕ → ℕ → ℕ
owner_at mem first i = row_word mem first i own_in_row % child_in_row

abbrev pub child_at : List ℕ → ℕ → ℕ → ℕ
child_at mem first i = row_word mem first i own_in_row / child_in_row

abbrev pub below_at : List ℕ → ℕ → ℕ → ℕ
below_at mem first i = word mem (row_word mem first i below_in_row + distance_in_row)

-- the distance of row i's vertex, so far
abbrev pub near_at : List ℕ → ℕ → List ℕ → ℕ → ℕ
near_at mem first dx i = word dx (owner_at mem first i)

-- the rows of two vertices are two rows
abbrev pub Apart : List ℕ → ℕ → ℕ → Type 0
Apart mem first size = (a b : ℕ) → a < size → b < size → owner_at mem first a ≡ owner_at mem first b → a ≡ b

-- the rows and the table of a part lie within the memory, and no two rows are of one vertex
pub record Fits (mem : List ℕ) (p : ℕ) : Type 0 where
  pub rows : part_word mem p rows_in_part + words_in_row * rows_in mem p ≤ length mem
  pub table : part_word mem p table_in_part + rows_in mem p * rows_in mem p ≤ length mem
  pub apart : Apart mem (part_word mem p rows_in_part) (rows_in mem p)

-- row i shows its own vertex: the vertex at distance 0
unfoldable pub shows_own : List ℕ → ℕ → ℕ → Bool
shows_own mem first i = eqb (row_word mem first i distance_in_row) 0

-- the numbers of the rows of a part that show their own vertex
abbrev pub own_rows : List ℕ → ℕ → List ℕ
own_rows mem p = keep (shows_own mem (part_word mem p rows_in_part)) (up_to (rows_in mem p))

-- a row whose vertex has a distance
unfoldable pub is_known : List ℕ → ℕ → List ℕ → ℕ → Bool
is_known mem first dx i = ltb (near_at mem first dx i) FAR

-- a row whose distance is asked for: it has none yet, and all are asked for, or something is shown one part further down
unfoldable pub is_asked : Bool → List ℕ → ℕ → List ℕ → ℕ → Bool
is_asked all mem first dx i = leb FAR (near_at mem first dx i) && (all || ltb (below_at mem first i) FAR)

pub record AskedRow (all : Bool) (mem : List ℕ) (first size : ℕ) (dx : List ℕ) (i : ℕ) : Type 0 where
  pub is_row : i < size
  pub is_asked_lem : is_asked all mem first dx i ≡ true

-- a row that shows its own vertex
pub record OwnRow (mem : List ℕ) (first size i : ℕ) : Type 0 where
  pub is_row : i < size
  pub is_own : shows_own mem first i ≡ true

-- the distances of rows that are listed
abbrev pub Nears : List ℕ → ℕ → List ℕ → List ℕ → List ℕ → ℕ → Type 0
Nears mem first dx places near known = (t : ℕ) → t < known → word near t ≡ near_at mem first dx (word places t)

-- What picks rows by the distance of the vertex, the distance that the row shows and the address of the row further down picks those of the first `size` that
-- pass a test.
abbrev pub Picks : (mem : List ℕ) (first : ℕ) (dx : List ℕ) (size : ℕ) (Picked : ℕ → ℕ → ℕ → Bool → Type 0) (test : ℕ → Bool) → Type 0
Picks mem first dx size Picked test = (i : ℕ) (is : Bool) → i < size → Picked (near_at mem first dx i) (row_word mem first i distance_in_row) (row_word mem first i below_in_row) is → is ≡ test i

-- The first `done` rows are listed: the known ones with their distances, and those that are asked for, which are those that pass a test.
pub record RowsLooked (mem : List ℕ) (first : ℕ) (dx : List ℕ) (test : ℕ → Bool) (done : ℕ) (lists : RowLists) : Type 0 where
  pub knows : Lists (is_known mem first dx) done lists.places lists.known
  pub nears : Nears mem first dx lists.places lists.near lists.known
  pub asks : Lists test done lists.asked lists.count
