-- `tables::enter_row` meets its contract.
-- Assumes nothing.
use Rattle.assembly.proofs.Descent.{row_entered}
use Rattle.table_words.specs.Rows.{StandsBelow}
use Rattle.tables.proofs.enter_row.Goals as goal

pub returns-in-Some-clause-entered_row : goal.returns-in-Some-clause-entered_row
returns-in-Some-clause-entered_row c = λ m L hp hi I.
    let stands : StandsBelow m c.args.p c.args.i c.in-Some.below = c.in-Some.ensures m _ L hp hi c.part_word-first.ensures in
    row_entered stands.row_in (rw (stands.rows.table, stands.rows.nodes, stands.row) at c.try_node.ensures) L hi I
