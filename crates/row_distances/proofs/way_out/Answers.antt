-- `way_out` is the least of the distances out of the child.
-- Assumes nothing.
use Rattle.row_distances.proofs.Ways.{least_more}
use Rattle.row_distances.proofs.way_out.Goals as goal

pub loop-i-preserved : goal.loop-i-preserved
loop-i-preserved c = least_more _ c.loop-i.invariant c.out_of.ensures c.min-least.ensures
