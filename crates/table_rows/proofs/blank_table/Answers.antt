-- `table_rows::blank_table` meets its contract. The loop's invariant: the rows above row i are blanked, and FAR stands in the others.
-- Assumes nothing.
use borrow.Author.Rules.{rules}
use Rattle.table_rows.proofs.Rows.{blanked_row}
use Rattle.table_rows.proofs.blank_table.Goals as goal

pub loop-i-preserved : goal.loop-i-preserved
loop-i-preserved c = blanked_row c.loop-i.invariant (search rules) _ (c.fill.ensures.after (λ y same. same))
