-- `table_rows::try_rows` meets its contract. The loop's invariant: the rows above row i are relaxed. Assumes nothing.
use borrow.Author.Rules.{rules}
use Rattle.table_rows.proofs.Rows.{filling_step, relaxed_row}
use Rattle.table_rows.proofs.try_rows.Goals as goal

pub loop-i-preserved : goal.loop-i-preserved
loop-i-preserved c =
    let inv = c.loop-i.invariant in
    filling_step inv (search rules) (relaxed_row inv (search rules) (search rules) c.requires.3 c.relax_row.ensures)
