-- `near_root` goes up, at most 16 parts.
-- Assumes nothing.
use mathlib.Core.Path.{sym, ◌∙◌}
use native.Mathlib.Omega.{arith}
use Rattle.map_parts.proofs.Near.{near_none, near_here, near_above}
use Rattle.map_parts.proofs.shown.ShownMap.near_root.Goals as goal

pub returns-then-q-eq0 : goal.returns-then-q-eq0
returns-then-q-eq0 c = sym (c.loop.invariant ∙ near_here _ _ _ _ (omega arith) c.if-q-eq0.true)

pub loop-preserved : goal.loop-preserved
loop-preserved c = c.loop.invariant ∙ near_above _ _ _ _ _ (omega arith) c.if-q-eq0.false c.parent-q.ensures

pub returns : goal.returns
returns c = sym (c.loop.invariant ∙ near_none _ _ _ _ (omega arith))
