-- A part of a memory: `size` words from `base` on.
use Rattle.std.specs.Prelude.{ℕ, List, take, drop}

abbrev pub part : List ℕ → ℕ → ℕ → List ℕ
part mem base size = take size (drop base mem)
