-- A memory between two fleets: what shows which vertices are active is still of the first, all else is of the second.
use Rattle.std.specs.Prelude.{◌≡◌, List, ℕ, ◌+◌, ◌≤◌, ◌<◌, length}
use Rattle.words.specs.Lists.{word}
use Rattle.roads.specs.Map.{Map}
use Rattle.parts.specs.Size.{need}
use Rattle.fleet.specs.State.{State}
use Rattle.image.specs.Places.{rows_at, itself_at}
use Rattle.image.specs.Image.{image}

-- The rows, and the two words by which each vertex shows whether it is active, are those of fleet s; every other word is that of fleet t.
pub record RowsOld (m : Map) (s t : State) (mem : List ℕ) : Type 0 where
  pub long : length mem ≡ need m
  pub rows : (a : ℕ) → rows_at m ≤ a → word mem a ≡ word (image m s) a
  pub itself : (v w : ℕ) → v < m.vertices → w < 2 → word mem (itself_at m v + w) ≡ word (image m s) (itself_at m v + w)
  pub others : (a : ℕ) → a < rows_at m → ((v w : ℕ) → v < m.vertices → w < 2 → a ≡ itself_at m v + w → ⊥) → word mem a ≡ word (image m t) a
