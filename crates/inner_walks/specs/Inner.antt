-- A walk that stays inside a part: what a part's table knows before the roads outside are looked at.
use Rattle.std.specs.Prelude.{ℕ}
use Rattle.roads.specs.Map.{Map}
use Rattle.roads.specs.Walk.{WalkIn}
use Rattle.parts.specs.Tree.{holds}

-- `Inner m q a b w`: a walk of m from a to b of weight w, all of whose vertices stand in part q
abbrev pub Inner : Map → ℕ → ℕ → ℕ → ℕ → Type 0
Inner m q = WalkIn m (holds m q)
