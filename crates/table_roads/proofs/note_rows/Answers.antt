-- `table_roads::note_rows` meets its contract. The loop's invariant: the places of the rows passed are noted.
-- Assumes nothing.
use borrow.Author.Rules.{rules}
use Rattle.assembly.proofs.Roads.{noted_turn}
use Rattle.table_roads.proofs.note_rows.Goals as goal

pub loop-i-preserved : goal.loop-i-preserved
loop-i-preserved c = (search rules, noted_turn _ _ _ _ _ (search rules) c.of-rows.ensures.nodes c.loop-i.invariant.0 c.loop-i.invariant.1 c.of-rows.ensures.first c.row_word.ensures c.vertex_of-v.ensures.1 c.put.ensures)
