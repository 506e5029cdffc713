-- `table_rows::Table::try_node` meets its contract.
-- Assumes nothing.
use borrow.Author.Rules.{rules}
use Rattle.table_rows.proofs.Rows.{tried_there}
use Rattle.table_rows.proofs.Table.try_node.Goals as goal

pub returns-then-at-n : goal.returns-then-at-n
returns-then-at-n c = tried_there _ _ _ c.if-at-n.true _ (search rules) c.if-k-n.true c.try_table.ensures
