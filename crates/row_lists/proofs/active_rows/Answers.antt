-- `active_rows` counts rows.
-- Assumes nothing.
use mathlib.Core.Path.{sym}
use native.Mathlib.Omega.{arith}
use Rattle.words.proofs.Ranks.{rank_none}
use Rattle.row_lists.proofs.Rows.{count_more}
use Rattle.row_lists.proofs.active_rows.Goals as goal

pub loop-i-init : goal.loop-i-init
loop-i-init c = (omega arith, sym (rank_none _))

pub loop-i-preserved : goal.loop-i-preserved
loop-i-preserved c =
    (omega (arith, c.more-n.ensures.1), count_more _ _ _ _ c.row_word-near.ensures c.loop-i.invariant.1 c.more-n.ensures.0)
