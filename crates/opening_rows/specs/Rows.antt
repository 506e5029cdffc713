-- The rows, written vertex by vertex into their section.
use Rattle.std.specs.Prelude.{◌≡◌, ℕ, suc, ◌+◌, ◌*◌, ◌%◌, ◌^◌, ◌<◌, ◌≤◌, Bool, true, cond, ◌&&◌, List, [], ◌∷◌, length, ◌==◌, nat_lt, slice_set}
use Rattle.std.proofs.lemmas.List.Edits.{sets}
use Rattle.words.specs.Limits.{most_parts, NONE, FAR}
use Rattle.words.specs.Lists.{word, any}
use Rattle.words.specs.Ranks.{rank}
use Rattle.layout.specs.Layout.{rows_in_part, words_in_row, child_in_row, part_word}
use Rattle.roads.specs.Map.{Map, part_count}
use Rattle.parts.specs.Tree.{leaf_of, holds, children, is_leaf}
use Rattle.parts.specs.Border.{boundary}
use Rattle.parts.specs.Size.{need}
use Rattle.maps.specs.Sound.{Sound}
use Rattle.image.specs.Places.{vertices_at, rows_at, itself_at, first_row_of}
use Rattle.map_shown.specs.Shown.{ShowsParents, ShowsLeaves, ShowsLifts}
use Rattle.opening_fresh.specs.Fresh.{fresh_row}
use Rattle.opening_rows.specs.declared.Vertex.{Vertex}

-- vertex v has a row in part p: it stands in the leaf, or is a border
unfoldable pub has_row : Map → ℕ → ℕ → Bool
has_row m p v = cond (is_leaf m p) (leaf_of m v == p) (any (λ c. boundary m c v) (children m p))

-- where the row of v stands, if it has one: after the rows of the vertices below it
unfoldable pub row_place : Map → ℕ → ℕ → ℕ
row_place m p v = first_row_of m p + words_in_row * rank (has_row m p) v

-- an empty row of v, with the part and the row further down
abbrev pub row_words : ℕ → ℕ → ℕ → List ℕ
row_words v child below = NONE ∷ FAR ∷ (v + child_in_row * child) ∷ below ∷ []

-- one row is written at the part's next place, r
pub record RowWritten (mem cursors : List ℕ) (part v child below r : ℕ) (mem' cursors' : List ℕ) : Type 0 where
  pub place : r ≡ word cursors part
  pub stored : v < child_in_row → child < child_in_row → mem' ≡ sets mem r (row_words v child below)
  pub next : cursors' ≡ slice_set cursors part ((r + words_in_row) % 2 ^ 32)

-- what is known of a vertex
pub record Standing (m : Map) (parents : List ℕ) (vertex : Vertex) : Type 0 where
  pub sound : Sound m
  pub small : need m < 2 ^ 32
  pub parents_shown : ShowsParents m parents
  pub exists : vertex.number < m.vertices
  pub leaf_is : vertex.leaf ≡ leaf_of m vertex.number
  pub lift_is : (c : ℕ) → c < part_count m → boundary m c vertex.number ≡ (holds m c vertex.number && nat_lt vertex.lift c)
  pub itself_is : vertex.itself ≡ itself_at m vertex.number

-- The rows of the vertices below v are written, and the row of v in each part but those of `rest`; `cursors` has each part's next place.
pub record RowsStand (m : Map) (v : ℕ) (rest : ℕ → Bool) (start cursors mem : List ℕ) : Type 0 where
  pub long : length mem ≡ length start
  pub room : need m ≤ length start
  pub wide : length cursors ≡ most_parts
  pub cursor : (q : ℕ) → q < part_count m → word cursors q ≡ row_place m q (cond (rest q) v (suc v))
  pub right : (q u w : ℕ) → q < part_count m → u < cond (rest q) v (suc v) → has_row m q u ≡ true → w < words_in_row → word mem (row_place m q u + w) ≡ word (fresh_row m q u) w
  pub kept : (i : ℕ) → i < rows_at m → word mem i ≡ word start i

-- where the rows of the parts start
pub record FirstRows (mem : List ℕ) (parts : ℕ) (cursors cursors' : List ℕ) : Type 0 where
  pub long : length cursors' ≡ length cursors
  pub first : (p : ℕ) → p < parts → p < length cursors → word cursors' p ≡ part_word mem p rows_in_part

-- what is lent shows the vertices and parts of m and has room for its rows
pub record RowsReady (m : Map) (parents leaves lifts : List ℕ) (vertices base : ℕ) (cursors mem : List ℕ) : Type 0 where
  pub sound : Sound m
  pub small : need m < 2 ^ 32
  pub count : vertices ≡ m.vertices
  pub begins : base ≡ vertices_at m
  pub parents_shown : ShowsParents m parents
  pub leaves_shown : ShowsLeaves m leaves
  pub lifts_shown : ShowsLifts m lifts
  pub wide : length cursors ≡ most_parts
  pub first : (p : ℕ) → p < part_count m → word cursors p ≡ first_row_of m p
  pub room : need m ≤ length mem
