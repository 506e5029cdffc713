-- `table_pairs::level_row` meets its contract. The loop's invariant: the rows passed are leveled.
-- Assumes nothing.
use borrow.Author.Rules.{rules}
use mathlib.Core.Path.{◌∙◌}
use Rattle.table_pairs.proofs.Row.{row_turn, row_done}
use Rattle.table_pairs.proofs.level_row.Goals as goal

pub loop-j-preserved : goal.loop-j-preserved
loop-j-preserved c = (c.level_pair.ensures.mem_len_unchanged ∙ c.loop-j.invariant.0, row_turn _ _ _ _ _ _ _ (search rules) c.loop-j.invariant.1 c.level_pair.ensures.agreed_pair)

pub returns-clause-agreed_row : goal.returns-clause-agreed_row
returns-clause-agreed_row c = row_done _ _ _ _ _ _ (search rules) c.loop-j.invariant.1
