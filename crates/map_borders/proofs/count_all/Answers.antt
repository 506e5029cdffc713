-- `count_all` counts each vertex.
-- Assumes nothing.
use native.Mathlib.Omega.{arith}
use Rattle.map_borders.proofs.Marking.{totalling_step}
use Rattle.map_borders.proofs.count_all.Goals as goal

pub loop-v-preserved : goal.loop-v-preserved
loop-v-preserved c = totalling_step _ _ c.loop-v.invariant (omega arith) c.word.ensures c.mark.ensures
