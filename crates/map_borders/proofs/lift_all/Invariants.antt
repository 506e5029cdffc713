use Rattle.map_borders.proofs.Lifting.{Lifting}
use Rattle.map_borders.proofs.lift_all.Given as goal

abbrev pub invariant-loop-i : goal.invariant-loop-i
invariant-loop-i l = Lifting l.parents l.leaves l.body l.roads l.i l.lifts
