-- `tables::close` meets its contract. The loop's invariant: the rows passed have been tried.
-- Assumes nothing.
use borrow.Author.Rules.{rules}
use mathlib.Core.Path.{◌∙◌}
use Rattle.assembly.proofs.Rising.{closed_turn, closed_done}
use Rattle.tables.proofs.close.Goals as goal

pub loop-k-preserved : goal.loop-k-preserved
loop-k-preserved c = (c.try_halt.ensures.sized ∙ c.loop-k.invariant.0, closed_turn _ _ _ _ _ _ (search rules) c.of.ensures.nodes c.of.ensures.table c.loop-k.invariant.1 c.try_halt.ensures)

pub returns : goal.returns
returns c =
    record { closed = closed_done _ _ _ _ _ (search rules) (search rules) c.of.ensures.nodes c.loop-k.invariant.1; mem_len_unchanged = c.loop-k.invariant.0 }
