-- How often each number comes among the first words of a list.
use Rattle.std.specs.Prelude.{◌≡◌, List, ℕ, ◌+◌, ◌<◌, ◌≤◌, length, set, eqb}
use Rattle.words.specs.Limits.{most_parts}
use Rattle.words.specs.Lists.{count_from, word, keep}

-- how many of the n words from word i on are p
unfoldable pub tallied : List ℕ → ℕ → ℕ → ℕ → ℕ
tallied numbers i n p = length (keep (λ k. eqb (word numbers k) p) (count_from i n))

-- one more at p
unfoldable pub bumped : List ℕ → ℕ → List ℕ
bumped counts p = set counts p (word counts p + 1)

-- the counts of the first n words
pub record Tallied (numbers : List ℕ) (n : ℕ) (counts : List ℕ) : Type 0 where
  pub room : length counts ≡ most_parts
  pub few : (p : ℕ) → word counts p ≤ n
  pub each : (p : ℕ) → p < most_parts → word counts p ≡ tallied numbers 0 n p
