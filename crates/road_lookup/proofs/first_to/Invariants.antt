-- `road_lookup::first_to` halves what is left, and every turn keeps that the ends before it are below `to` and those after it are not.
-- Assumes nothing.
use Prim.Native.Nat.{◌-◌}
use Rattle.road_lookup.specs.Lookup.{end_in}
use Rattle.road_lookup.proofs.Narrowed.{Narrowed}
use Rattle.road_lookup.proofs.first_to.Given as goal

abbrev pub invariant-loop-from : goal.invariant-loop-from
invariant-loop-from l = Narrowed (end_in l.mem l.counts) l.low l.high l.to l.from l.until

abbrev pub decreases-loop-from : goal.decreases-loop-from
decreases-loop-from l = l.until - l.from
