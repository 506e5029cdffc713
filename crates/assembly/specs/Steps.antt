-- What each step of filling the tables leaves.
use Rattle.std.specs.Prelude.{◌≡◌, ◌⊎◌, true, ℕ, ◌+◌, ◌≤◌, ◌<◌, length}
use mathlib.Core.List.{List, Memᴰ}
use Rattle.words.specs.Lists.{word, place_in}
use Rattle.roads.specs.Map.{Map, part_count, road_count, road_at}
use Rattle.parts.specs.Tree.{parent_of, holds, children}
use Rattle.parts.specs.Size.{row_vertices, size_of}
use Rattle.image.specs.Records.{row_vertex}
use Rattle.table_rows.specs.Flat.{Tried}
use Rattle.assembly.specs.Laid.{table_entry, OutsideTables}
use Rattle.assembly.specs.Lower.{Lower, Inside, Short}

-- ---- a row of a part and the same vertex's row in a child

-- the row of row i's vertex in child c
abbrev pub place_below : Map → ℕ → ℕ → ℕ → ℕ
place_below m p i c = place_in (row_vertex m p i) (row_vertices m c)

-- the vertex of row i of part p stands in child c
pub record RowIn (m : Map) (p i c : ℕ) : Type 0 where
  pub is_child : Memᴰ c (children m p)
  pub is_held : holds m c (row_vertex m p i) ≡ true

-- ---- the words of a part and of its children, for the same two vertices

-- for the rows i and j of part p with `Of i j`: the words of part and child are no more than what the other was
pub record AgreedFor (m : Map) (low p : ℕ) (Of : ℕ → ℕ → Type 0) (before after : List ℕ) : Type 0 where
  pub lower : Lower m low before after
  pub up : (c i j : ℕ) → Of i j → i < size_of m p → j < size_of m p → RowIn m p i c → RowIn m p j c → table_entry m after p i j ≤ table_entry m before c (place_below m p i c) (place_below m p j c)
  pub down : (c i j : ℕ) → Of i j → i < size_of m p → j < size_of m p → RowIn m p i c → RowIn m p j c → table_entry m after c (place_below m p i c) (place_below m p j c) ≤ table_entry m before p i j

-- for the rows i and j
abbrev pub AgreedPair : Map → (low p i j : ℕ) → List ℕ → List ℕ → Type 0
AgreedPair m low p i j = AgreedFor m low p (λ a b. (a ≡ i) × (b ≡ j))

-- for row i, with the first n rows
abbrev pub AgreedRow : Map → (low p i n : ℕ) → List ℕ → List ℕ → Type 0
AgreedRow m low p i n = AgreedFor m low p (λ a b. (a ≡ i) × (b < n))

-- for the first n rows, with all
abbrev pub Agreed : Map → (low p n : ℕ) → List ℕ → List ℕ → Type 0
Agreed m low p n = AgreedFor m low p (λ a b. a < n)

-- ---- the roads of a part

-- for each of the first n rows its place in the part
pub record Noted (m : Map) (p n : ℕ) (place : List ℕ) : Type 0 where
  pub each : (i : ℕ) → i < n → word place (row_vertex m p i) ≡ i

-- the vertices of rows i and j stand in no child together
abbrev pub NotTogether : Map → ℕ → ℕ → ℕ → Type 0
NotTogether m p i j = (c : ℕ) → RowIn m p i c → RowIn m p j c → ⊥

-- rows i and j have been marked, unless d and e are one child
pub record HaltsMarked (marks : List ℕ) (i j d e : ℕ) (marked : List ℕ) : Type 0 where
  pub kept : (k : ℕ) → word marks k ≡ 1 → word marked k ≡ 1
  pub both : i < length marks → j < length marks → (d ≡ e → d ≡ 0) → (word marked i ≡ 1) × (word marked j ≡ 1)

-- The roads r with `Of r i`, from the vertex of row i to another row vertex, have lowered their words; and the ends of those that no child holds
-- are marked as halts.
pub record RoadsFor (m : Map) (p : ℕ) (Of : ℕ → ℕ → Type 0) (before after marks marked : List ℕ) : Type 0 where
  pub lower : Lower m p before after
  pub kept : (k : ℕ) → word marks k ≡ 1 → word marked k ≡ 1
  pub road : (r i j : ℕ) → Of r i → r < road_count m → i < size_of m p → j < size_of m p → (road_at m r).from ≡ row_vertex m p i → (road_at m r).to ≡ row_vertex m p j →
      (table_entry m after p i j ≤ (road_at m r).weight) × (NotTogether m p i j → (word marked i ≡ 1) × (word marked j ≡ 1))

-- the roads with a number of at least `from` and below `to`, from the vertex of row i
abbrev pub RoadsOf : Map → (p i from to : ℕ) → (before after marks marked : List ℕ) → Type 0
RoadsOf m p i from to = RoadsFor m p (λ r k. (k ≡ i) × (from ≤ r) × (r < to))

-- all roads from the vertices of the first n rows
abbrev pub Roads : Map → (p n : ℕ) → (before after marks marked : List ℕ) → Type 0
Roads m p n = RoadsFor m p (λ r i. i < n)

-- ---- nodes tried

-- no way round by row k is lighter
abbrev pub Tight : Map → ℕ → ℕ → List ℕ → Type 0
Tight m q k mem = (i j : ℕ) → i < size_of m q → j < size_of m q → table_entry m mem q i j ≤ table_entry m mem q i k + table_entry m mem q k j

-- a word of the diagonal is 0
abbrev pub AtHome : Map → ℕ → List ℕ → Type 0
AtHome m q mem = (i : ℕ) → i < size_of m q → table_entry m mem q i i ≤ 0

-- of the first n rows of p those marked as halts have been tried in the table of p
pub record Closed (m : Map) (p n : ℕ) (marked before after : List ℕ) : Type 0 where
  pub lower : Lower m p before after
  pub tight : (k : ℕ) → k < n → word marked k ≡ 1 → Tight m p k after

-- row k has been tried, if it is marked
pub record HaltTried (table size k : ℕ) (marked before after : List ℕ) : Type 0 where
  pub sized : length after ≡ length before
  pub tried : word marked k ≡ 1 → Tried table size k before after
  pub passed : (word marked k ≡ 1 → ⊥) → after ≡ before

-- row i of p has been tried in the table of the child that holds it, and what was tried there before still is
pub record EnteredRow (m : Map) (p i : ℕ) (before after : List ℕ) : Type 0 where
  pub lower : Lower m 0 before after
  pub tight : (c : ℕ) → RowIn m p i c → Tight m c (place_below m p i c) after
  pub keeps : (q k : ℕ) → q < part_count m → k < size_of m q → Tight m q k before → Tight m q k after

-- the first n rows of p have been tried in the tables of the children that hold them
pub record Entered (m : Map) (p n : ℕ) (before after : List ℕ) : Type 0 where
  pub lower : Lower m 0 before after
  pub tight : (i c : ℕ) → i < n → RowIn m p i c → Tight m c (place_below m p i c) after

-- ---- a part begun, and descended

-- the tables from that of p on are right inside their parts, and no word outside the tables has changed
pub record Risen (m : Map) (p : ℕ) (before after : List ℕ) : Type 0 where
  pub sized : length after ≡ length before
  pub outside : (x : ℕ) → OutsideTables m x → word after x ≡ word before x
  pub inside : Inside m p after

-- so are all tables, and those of the root and of all parts whose parent is below p have no word above the distance
pub record Descended (m : Map) (p : ℕ) (before after : List ℕ) : Type 0 where
  pub risen : Risen m 0 before after
  pub short : (q : ℕ) → q < part_count m → (q ≡ 0) ⊎ (parent_of m q < p) → Short m q after
