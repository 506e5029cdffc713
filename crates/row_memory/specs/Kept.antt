-- What a change of the rows of one part leaves as it was.
use Rattle.std.specs.Prelude.{◌≡◌, List, ℕ, ◌+◌, ◌*◌, ◌<◌, length}
use Rattle.words.specs.Lists.{word}
use Rattle.layout.specs.Layout.{words_in_row, distance_in_row}

-- word a shows nothing of the `size` rows from `rows` on: it is neither the vertex nor the distance of one
abbrev pub OutsideRows : ℕ → ℕ → ℕ → Type 0
OutsideRows rows size a = (j : ℕ) → j < size → (a ≡ rows + words_in_row * j → ⊥) × (a ≡ rows + words_in_row * j + distance_in_row → ⊥)

-- no other word changed than those that these rows show
pub record Kept (rows size : ℕ) (mem after : List ℕ) : Type 0 where
  pub long : length after ≡ length mem
  pub outside : (a : ℕ) → OutsideRows rows size a → word after a ≡ word mem a
