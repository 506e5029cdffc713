-- `table_pairs::agree` meets its contract. The loop's invariant: the rows passed agree.
-- Assumes nothing.
use borrow.Author.Rules.{rules}
use mathlib.Core.Path.{◌∙◌}
use Rattle.assembly.proofs.Pairs.{rows_turn, rows_done}
use Rattle.table_pairs.proofs.agree.Goals as goal

pub loop-i-preserved : goal.loop-i-preserved
loop-i-preserved c = (c.agree_row.ensures.mem_len_unchanged ∙ c.loop-i.invariant.0, rows_turn _ _ _ _ _ (search rules) c.part_word-i-end.ensures c.loop-i.invariant.1 c.agree_row.ensures.agreed_row)

pub returns-clause-agreed : goal.returns-clause-agreed
returns-clause-agreed c = rows_done _ _ _ _ (search rules) (search rules) c.part_word-i-end.ensures c.loop-i.invariant.1
