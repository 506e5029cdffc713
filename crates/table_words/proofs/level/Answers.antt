-- `table_words::level` meets its contract.
-- Assumes nothing.
use Rattle.assembly.specs.Lower.{leveled}
use Rattle.table_words.proofs.level.Goals as goal

pub returns : goal.returns
unfolding leveled
returns c = rw (c.lower-2.ensures, c.lower.ensures, c.word-x.ensures, c.word-y.ensures)
