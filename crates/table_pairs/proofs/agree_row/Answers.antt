-- `table_pairs::agree_row` meets its contract.
-- Assumes nothing.
use Rattle.table_words.proofs.Shown.{rows_shown}
use Rattle.table_pairs.proofs.agree_row.Goals as goal

pub returns-in-Some-clause-agreed_row : goal.returns-in-Some-clause-agreed_row
returns-in-Some-clause-agreed_row c = λ m low L hl hp hi.
    c.level_row.ensures.agreed_row m low _ L hl hp hi (rows_shown c.of-rows.ensures m L hp) (c.in-Some.ensures m _ L hp hi c.of-rows.ensures.first)
