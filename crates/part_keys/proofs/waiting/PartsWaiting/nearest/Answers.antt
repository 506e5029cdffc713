-- `nearest` is the least key from a place on, and its place.
-- Assumes nothing.
use native.Mathlib.Omega.{arith}
use Rattle.part_keys.proofs.Nearest.{nearest_lower, nearest_stays}
use Rattle.part_keys.proofs.waiting.PartsWaiting.nearest.Goals as goal
use Rattle.part_keys.proofs.waiting.PartsWaiting.nearest.Goals.{then-key-least, else-key-least}

pub loop-t-preserved : goal.loop-t-preserved
loop-t-preserved c =
    elim c.if-key-least.branch [
      | then-key-least w ↦ rw (w.least-is, w.at-is) (λ h. omega arith, nearest_lower c.loop-t.invariant.1 c.loop-t.auto.t c.word-key.ensures w.if-key-least.true)
      | else-key-least w ↦ rw (w.least-is, w.at-is) (λ h. omega arith, nearest_stays c.loop-t.invariant.1 c.loop-t.auto.t c.word-key.ensures w.if-key-least.false)
    ]
