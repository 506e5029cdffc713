-- A word lowered to x: it becomes the lesser of itself and x.
use Rattle.std.specs.Prelude.{ℕ, min, List, set}
use Rattle.words.specs.Lists.{word}

abbrev pub lowered : List ℕ → ℕ → ℕ → List ℕ
lowered mem i x = set mem i (min (word mem i) x)
