-- A vertex that waits has a key that is not FAR. Assumes nothing.
use Rattle.std.specs.Prelude.{◌≡◌, List, ℕ, ◌<◌, Option, Some, None}
use Rattle.words.specs.Limits.{FAR}
use Rattle.words.specs.Lists.{word}

-- a vertex that waits, or none where none of the n waits
abbrev pub Picked : List ℕ → ℕ → Option ℕ → Type 0
Picked keys n (Some v) = (v < n) × (word keys v ≡ FAR → ⊥)
Picked keys n None = (v : ℕ) → v < n → word keys v ≡ FAR
