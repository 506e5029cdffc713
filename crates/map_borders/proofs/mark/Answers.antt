-- `mark` goes up from the leaf.
-- Assumes nothing.
use native.Mathlib.Omega.{arith}
use Rattle.map_borders.proofs.Marking.{marking_step, marking_stop, marking_end}
use Rattle.map_borders.proofs.mark.Goals as goal

pub returns-then-part-lift : goal.returns-then-part-lift
returns-then-part-lift c = marking_stop _ _ c.loop.invariant c.if-part-lift.true

pub loop-preserved : goal.loop-preserved
loop-preserved c = marking_step _ _ _ c.loop.invariant (omega arith) c.if-part-lift.false c.word-part.ensures c.bump.ensures

pub returns : goal.returns
returns c = marking_end _ _ c.loop.invariant (omega arith)
