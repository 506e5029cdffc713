-- `least` keeps the place of the least label that it has passed, and that label.
-- Assumes nothing.
use mathlib.Core.Path.{◌≡◌}
use Prim.Native.Nat.{◌≤◌}
use Rattle.words.specs.Lists.{word}
use Rattle.near_vans.specs.Around.{LeastLabel}
use Rattle.near_vans.proofs.front.Front.least.Given as goal

abbrev pub invariant-loop-i : goal.invariant-loop-i
invariant-loop-i l = (1 ≤ l.i) × (l.i ≤ l.self.n) × (l.low ≡ word l.self.labels l.place) × LeastLabel l.self.labels l.i l.place
