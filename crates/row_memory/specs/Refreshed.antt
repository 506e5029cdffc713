-- What the refresh leaves when v became active or inactive: every row shows what it must, and nothing but what rows show changed.
use Rattle.std.specs.Prelude.{◌≡◌, Bool, List, ℕ, ◌<◌, length}
use Rattle.words.specs.Lists.{word}
use Rattle.roads.specs.Map.{Map, part_count}
use Rattle.parts.specs.Size.{size_of}
use Rattle.image.specs.Places.{first_row_of}
use Rattle.row_memory.specs.Kept.{OutsideRows}
use Rattle.row_memory.specs.Laid.{RowsShow}

pub record Refreshed (m : Map) (isActive : ℕ → Bool) (mem after : List ℕ) : Type 0 where
  pub shows : (p : ℕ) → p < part_count m → RowsShow m isActive after p
  pub others : (a : ℕ) → ((p : ℕ) → p < part_count m → OutsideRows (first_row_of m p) (size_of m p) a) → word after a ≡ word mem a
  pub long : length after ≡ length mem
