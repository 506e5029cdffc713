use Prim.Native.Nat.{◌-◌}
use mathlib.Core.Path.{◌≡◌}
use Rattle.map_parts.specs.Part.{near}
use Rattle.map_parts.proofs.shown.ShownMap.near_root.Given as goal

abbrev pub invariant-loop : goal.invariant-loop
invariant-loop l = near l.self.parents 16 l.p ≡ near l.self.parents (16 - l.counter) l.q
