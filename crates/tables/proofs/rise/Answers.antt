-- `tables::rise` meets its contract.
-- Assumes nothing.
use borrow.Author.Rules.{rules}
use mathlib.Core.Path.{◌∙◌}
use Rattle.assembly.proofs.Rising.{risen_step}
use Rattle.tables.proofs.rise.Goals as goal

pub returns : goal.returns
returns c =
    record { risen = risen_step _ _ _ _ _ _ _ _ (search rules) c.of.ensures.nodes c.of.ensures.table c.blank.ensures c.note_rows.ensures.noted c.take_roads.ensures.roads c.agree.ensures.agreed c.close.ensures.closed; mem_len_unchanged = c.close.ensures.mem_len_unchanged ∙ c.agree.ensures.mem_len_unchanged ∙ c.take_roads.ensures.mem_len_unchanged ∙ c.blank.ensures.sized; place_len_unchanged = c.note_rows.ensures.place_len_unchanged }
