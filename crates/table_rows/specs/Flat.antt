-- Tables as words, row after row.
use Rattle.std.specs.Prelude.{◌≡◌, ◌⊎◌, cond, List, ℕ, ◌+◌, ◌*◌, ◌≤◌, ◌<◌, min, length, get_or, eqb}
use Rattle.words.specs.Limits.{most_borders, FAR}

-- the word in row i and column j of rows of n words
abbrev pub entry : ℕ → List ℕ → ℕ → ℕ → ℕ
entry n words i j = get_or words (n * i + j) 0

-- the lesser of the way straight on and the way by k
unfoldable pub through : ℕ → (ℕ → ℕ → ℕ) → ℕ → ℕ → ℕ
through k T a b = min (T a b) (T a k + T k b)

-- 0 from a node to itself, and no way to another
unfoldable pub blank : ℕ → ℕ → ℕ
blank a b = cond (eqb a b) 0 FAR

-- the words start with those of `T`, in `count` rows of n words
pub record Holds (count n : ℕ) (words : List ℕ) (T : ℕ → ℕ → ℕ) : Type 0 where
  pub sized : n * count ≤ length words
  pub each : (i j : ℕ) → i < count → j < n → entry n words i j ≡ T i j

-- the row has n words, those of `f`
pub record RowIs (n : ℕ) (f : ℕ → ℕ) (row : List ℕ) : Type 0 where
  pub sized : length row ≡ n
  pub each : (j : ℕ) → j < n → get_or row j 0 ≡ f j

-- the first n words have become those of `f`, and the others are as before
pub record Begins (n : ℕ) (f : ℕ → ℕ) (before after : List ℕ) : Type 0 where
  pub sized : length after ≡ length before
  pub each : (j : ℕ) → j < n → get_or after j 0 ≡ f j
  pub rest : (j : ℕ) → n ≤ j → get_or after j 0 ≡ get_or before j 0

-- `row` starts with the words of row k
pub record StartsWith (n k : ℕ) (words row : List ℕ) : Type 0 where
  pub fits : n ≤ length row
  pub each : (j : ℕ) → j < n → get_or row j 0 ≡ entry n words k j

-- the table of n nodes at `at` has become `T` of what it was, and no other word has changed
pub record Becomes (at n : ℕ) (T : (ℕ → ℕ → ℕ) → ℕ → ℕ → ℕ) (before after : List ℕ) : Type 0 where
  pub outside : (x : ℕ) → (x < at) ⊎ (at + n * n ≤ x) → get_or after x 0 ≡ get_or before x 0
  pub each : (i j : ℕ) → i < n → j < n → get_or after (at + (n * i + j)) 0 ≡ T (λ a b. get_or before (at + (n * a + b)) 0) i j

-- Node k of the table at `at` has been tried, where there is such a table in the memory.
pub record Tried (at n k : ℕ) (before after : List ℕ) : Type 0 where
  pub sized : length after ≡ length before
  pub tried : n ≤ most_borders → k < n → at + n * n ≤ length before → Becomes at n (through k) before after

-- The table at `at` has been blanked, where there is such a table in the memory.
pub record Blanked (at n : ℕ) (before after : List ℕ) : Type 0 where
  pub sized : length after ≡ length before
  pub blanked : n ≤ most_borders → at + n * n ≤ length before → Becomes at n (λ T. blank) before after
