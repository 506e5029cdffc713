-- `common` is `meet` in enough steps.
-- Assumes nothing.
use mathlib.Core.Path.{sym, ◌∙◌}
use native.Mathlib.Omega.{arith}
use Rattle.map_borders.proofs.Meet.{meet_none, meet_here, meet_above}
use Rattle.map_borders.proofs.common.Goals as goal

pub returns-then-x-y : goal.returns-then-x-y
returns-then-x-y c = sym (c.loop.invariant ∙ meet_here _ _ _ _ _ (omega arith) c.if-x-y.true)

pub loop-preserved : goal.loop-preserved
loop-preserved c = c.loop.invariant ∙ meet_above _ _ _ _ _ (omega arith) c.if-x-y.false c.min-x.ensures c.max-high.ensures c.word-y.ensures

pub returns : goal.returns
returns c = sym (c.loop.invariant ∙ meet_none _ _ _ _ _ (omega arith))
