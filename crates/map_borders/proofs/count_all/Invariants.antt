use Rattle.map_borders.proofs.Marking.{Totalling}
use Rattle.map_borders.proofs.count_all.Given as goal

abbrev pub invariant-loop-v : goal.invariant-loop-v
invariant-loop-v l = Totalling l.parents l.leaves l.lifts l.vertices l.initial.counts l.v l.counts
