-- `tables::enter_rows` meets its contract. The loop's invariant: the rows passed have been tried in the children's tables.
-- Assumes nothing.
use borrow.Author.Rules.{rules}
use mathlib.Core.Path.{◌∙◌}
use Rattle.assembly.proofs.Descent.{entered_turn}
use Rattle.tables.proofs.enter_rows.Goals as goal

pub loop-i-preserved : goal.loop-i-preserved
loop-i-preserved c = (c.enter_row.ensures.mem_len_unchanged ∙ c.loop-i.invariant.0, entered_turn _ _ _ _ _ (search rules) c.part_word-i-end.ensures c.loop-i.invariant.1 c.enter_row.ensures.entered_row)
