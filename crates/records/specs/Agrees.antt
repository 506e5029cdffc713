-- A memory agrees with another, the target, at every address from `low` on below `high`.
use Rattle.std.specs.Prelude.{◌≡◌, List, ℕ, ◌≤◌, ◌<◌}
use Rattle.words.specs.Lists.{word}

pub record Agrees (target : List ℕ) (low high : ℕ) (mem : List ℕ) : Type 0 where
  pub at : (a : ℕ) → low ≤ a → a < high → word mem a ≡ word target a
