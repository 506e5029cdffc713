use Rattle.far_sums.specs.Least.{Least}
use Rattle.row_distances.specs.Distances.{out_of}
use Rattle.row_distances.proofs.way_out.Given as goal

abbrev pub invariant-loop-i : goal.invariant-loop-i
invariant-loop-i l = Least (out_of l.mem l.first l.dx l.c) l.i l.least
