-- `tables::descend_parts` meets its contract. The loop's invariant: the tables of the children of the parts passed are right over the whole map.
-- Assumes nothing.
use borrow.Author.Rules.{rules}
use Rattle.assembly.proofs.Descent.{descended_done}
use Rattle.tables.proofs.descend_parts.Goals as goal

pub returns : goal.returns
returns c =
    record { descended = descended_done _ _ _ (search rules) (search rules) c.word-count.ensures c.loop-p.invariant.1; mem_len_unchanged = c.loop-p.invariant.0 }
