-- Tables that are lowered and never below the distances: what every step of filling them keeps.
use Rattle.std.specs.Prelude.{◌≡◌, List, ℕ, ◌≤◌, ◌<◌, length, get_or}
use Rattle.words.specs.Lists.{word}
use Rattle.cells.specs.Lowered.{lowered}
use Rattle.roads.specs.Map.{Map, part_count}
use Rattle.roads.specs.Walk.{Walk}
use Rattle.roads.specs.Dist.{dist}
use Rattle.parts.specs.Size.{size_of}
use Rattle.image.specs.Records.{row_vertex}
use Rattle.inner_walks.specs.Inner.{Inner}
use Rattle.assembly.specs.Laid.{table_entry, OutsideTables}

-- the words a and b become the lesser of the two
unfoldable pub leveled : List ℕ → ℕ → ℕ → List ℕ
leveled mem a b = lowered (lowered mem a (get_or mem b 0)) b (get_or mem a 0)

-- Parts are taken from the last to the first: `low` is the first whose table has been begun.

-- in these tables no word is below the distance
abbrev pub Honest : Map → ℕ → List ℕ → Type 0
Honest m low mem =
    (q i j : ℕ) → low ≤ q → q < part_count m → i < size_of m q → j < size_of m q → dist m (row_vertex m q i) (row_vertex m q j) ≤ table_entry m mem q i j

-- no word of these tables has risen, none has fallen below the distance, and no word outside the tables has changed
pub record Lower (m : Map) (low : ℕ) (before after : List ℕ) : Type 0 where
  pub sized : length after ≡ length before
  pub outside : (x : ℕ) → OutsideTables m x → word after x ≡ word before x
  pub less : (q i j : ℕ) → low ≤ q → q < part_count m → i < size_of m q → j < size_of m q → table_entry m after q i j ≤ table_entry m before q i j
  pub honest : Honest m low before → Honest m low after

-- these tables lie between the distances and the weights of the walks inside their parts
pub record Inside (m : Map) (low : ℕ) (mem : List ℕ) : Type 0 where
  pub honest : Honest m low mem
  pub inner : (q i j w : ℕ) → low ≤ q → q < part_count m → i < size_of m q → j < size_of m q → Inner m q (row_vertex m q i) (row_vertex m q j) w → table_entry m mem q i j ≤ w

-- no walk of the map is lighter than the words of the table of q
abbrev pub Short : Map → ℕ → List ℕ → Type 0
Short m q mem = (i j w : ℕ) → i < size_of m q → j < size_of m q → Walk m (row_vertex m q i) (row_vertex m q j) w → table_entry m mem q i j ≤ w
