-- `table_pairs::level_pair` meets its contract.
-- Assumes nothing.
use mathlib.Core.Path.{refl}
use Rattle.assembly.proofs.Pairs.{pair_together, pair_apart}
use Rattle.table_pairs.proofs.Row.{lines_of}
use Rattle.table_pairs.proofs.level_pair.Goals as goal

pub returns-then-part_of-below-clause-agreed_pair : goal.returns-then-part_of-below-clause-agreed_pair
returns-then-part_of-below-clause-agreed_pair c = λ m low p L hl hp hi hj own stands.
    pair_together _ c.row_word.ensures c.part_of.ensures c.if-part_of-below.true c.row_word-then-part_of-below.ensures c.place_of-k.ensures refl refl (rw (c.place-a.ensures, c.place-b.ensures) at c.level.ensures) m low p _ _ L hl hp hi hj (lines_of own stands)

pub returns-else-part_of-below-clause-agreed_pair : goal.returns-else-part_of-below-clause-agreed_pair
returns-else-part_of-below-clause-agreed_pair c = λ m low p L hl hp hi hj own stands.
    pair_apart _ c.row_word.ensures c.part_of.ensures c.if-part_of-below.false m low p _ _ L hl hp hi hj (lines_of own stands)
