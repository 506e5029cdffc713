-- How many vertices are borders of each part, counted on the way up from their leaves.
use Rattle.std.specs.Prelude.{◌≡◌, Bool, cond, List, map, ℕ, zero, suc, ◌+◌, ◌<◌, ◌≤◌, length, leb, ltb, eqb}
use Rattle.words.specs.Limits.{most_parts, most_borders}
use Rattle.words.specs.Lists.{count_from, word, sum}

-- on the way up from c, in n steps: how often a part above the lift has the parent p
unfoldable pub steps : List ℕ → ℕ → ℕ → ℕ → ℕ → ℕ
steps parents zero lift c p = 0
steps parents (suc n) lift c p = let above = cond (eqb (word parents c) p) 1 0 + steps parents n lift (word parents c) p in cond (ltb lift c) above 0

-- the counts after one vertex more
pub record Marked (parents : List ℕ) (lift leaf : ℕ) (counts after : List ℕ) : Type 0 where
  pub room : length after ≡ most_parts
  pub each : (p : ℕ) → p < most_parts → word after p ≡ word counts p + steps parents most_parts lift leaf p
  pub few : (p : ℕ) → word after p ≤ word counts p + most_parts

-- the counts after the first n vertices more
pub record BordersCounted (parents leaves lifts : List ℕ) (n : ℕ) (counts after : List ℕ) : Type 0 where
  pub room : length after ≡ most_parts
  pub each : (p : ℕ) → p < most_parts → word after p ≡ word counts p + sum (map (λ v. steps parents most_parts (word lifts v) (word leaves v) p) (count_from 0 n))

-- part p has at most 128 rows
unfoldable pub few_at : List ℕ → ℕ → Bool
few_at sizes p = leb (word sizes p) most_borders
