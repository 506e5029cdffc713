-- `table_words::row_below` meets its contract.
-- Assumes nothing.
use Rattle.assembly.proofs.Shown.{shown_nowhere}
use Rattle.table_words.proofs.Shown.{below_shown}
use Rattle.table_words.proofs.row_below.Goals as goal

pub returns-then-part-eq0 : goal.returns-then-part-eq0
returns-then-part-eq0 c = λ m p L hp hi first_is.
    shown_nowhere m _ L p _ hp hi first_is c.row_word.ensures c.part_of-part.ensures c.if-part-eq0.true

pub returns : goal.returns
returns c =
    below_shown _ c.row_word.ensures c.part_of-part.ensures c.if-part-eq0.false c.of-rows.ensures c.row_word-2.ensures c.place_of-row.ensures
