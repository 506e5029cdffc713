-- `bump` is `bumped`.
-- Assumes nothing.
use mathlib.Core.Path.{sym}
use native.Mathlib.Omega.{arith}
use lib.Seq.{set_out}
use Rattle.map_parts.specs.Tally.{bumped}
use Rattle.map_parts.proofs.bump.Goals as goal

pub returns-else-at-lt512 : goal.returns-else-at-lt512
unfolding bumped
returns-else-at-lt512 c = sym (set_out _ _ _ (omega arith))
