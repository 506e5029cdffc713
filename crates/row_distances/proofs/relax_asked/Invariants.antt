use Rattle.listing.specs.Lists.{Among}
use Rattle.row_distances.specs.Distances.{Closer}
use Rattle.row_distances.proofs.relax_asked.Given as goal

abbrev pub invariant-loop-asked : goal.invariant-loop-asked
invariant-loop-asked l = Closer l.mem l.fn.part.first l.fn.part.table l.fn.part.size l.initial.dx (Among l.lists.asked l.asked-index) l.dx
