-- What opening up a part does.
use Rattle.std.specs.Prelude.{◌≡◌, Bool, true, List, ℕ, ◌≤◌, ◌<◌}
use Rattle.layout.specs.Layout.{rows_in_part, part_word}
use Rattle.words.specs.Limits.{FAR}
use Rattle.part_words.specs.Part.{rows_in}
use Rattle.row_lists.specs.Rows.{near_at}
use Rattle.row_distances.specs.Distances.{Relaxed}
use Rattle.part_keys.specs.Spread.{Spreads}
use Rattle.part_keys.specs.declared.waiting.PartsWaiting.{PartsWaiting}

-- a row that gives its child a key when a part is opened up: where all rows are asked for, one that had no distance before
pub record GivenRow (all : Bool) (mem : List ℕ) (first size : ℕ) (dx : List ℕ) (i : ℕ) : Type 0 where
  pub is_row : i < size
  pub is_given : all ≡ true → FAR ≤ near_at mem first dx i

-- a part was opened up: its rows have their distances, and have given keys
abbrev pub OpenedUp : List ℕ → ℕ → Bool → List ℕ → PartsWaiting → List ℕ → PartsWaiting → Type 0
OpenedUp mem p all dx waiting dx' waiting' = Relaxed mem p all dx dx' × Spreads mem (part_word mem p rows_in_part) dx' (GivenRow all mem (part_word mem p rows_in_part) (rows_in mem p) dx) waiting waiting'
