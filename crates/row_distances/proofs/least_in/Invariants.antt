use lib.ListN.{length}
use Rattle.far_sums.specs.Least.{Least}
use Rattle.row_distances.specs.Distances.{way_over}
use Rattle.row_distances.proofs.least_in.Given as goal

abbrev pub invariant-loop-place : goal.invariant-loop-place
invariant-loop-place l = Least (way_over l.line l.lists.places l.lists.near) (length l.yielded) l.least
