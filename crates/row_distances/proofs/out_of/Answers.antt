-- `out_of` is the distance of the row's vertex, if the row lies in the child.
-- Assumes nothing.
use Rattle.row_distances.proofs.Ways.{out_read, out_elsewhere}
use Rattle.row_distances.proofs.out_of.Goals as goal

pub returns-then-owner-c : goal.returns-then-owner-c
returns-then-owner-c c = out_read _ _ _ _ c.row_word-owner.ensures c.if-owner-c.true c.word.ensures

pub returns-else-owner-c : goal.returns-else-owner-c
returns-else-owner-c c = out_elsewhere _ _ _ _ c.row_word-owner.ensures c.if-owner-c.false
