-- The memory that a map with so many rows in each part needs, in words.
use Rattle.std.specs.Prelude.{ℕ, ◌+◌, ◌*◌, List, map}
use Rattle.words.specs.Limits.{head_words, vans}
use Rattle.words.specs.Lists.{up_to, word, sum}
use Rattle.maps.specs.Bytes.{Counts}

-- the distance table and the rows of a part of this size
abbrev pub size_words : ℕ → ℕ
size_words size = size * size + 4 * size

-- those of the parts from 0 on, n of them
unfoldable pub tables_and_rows : List ℕ → ℕ → ℕ
tables_and_rows sizes n = sum (map (λ p. size_words (word sizes p)) (up_to n))

unfoldable pub need_of : Counts → List ℕ → ℕ
need_of c sizes = head_words + 8 * (c.parts + c.vertices) + 4 * c.roads + 8 * vans + tables_and_rows sizes c.parts
