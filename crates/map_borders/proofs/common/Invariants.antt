use mathlib.Core.Path.{◌≡◌}
use Prim.Native.Nat.{◌-◌}
use Rattle.map_borders.specs.Lift.{most_steps, meet}
use Rattle.map_borders.proofs.common.Given as goal

abbrev pub invariant-loop : goal.invariant-loop
invariant-loop l = meet l.parents most_steps l.a l.b ≡ meet l.parents (most_steps - l.counter) l.x l.y
