-- `need` adds up the words of the sections.
-- Assumes nothing.
use native.Mathlib.Omega.{arith}
use Rattle.map_judge.specs.Need.{need_of}
use Rattle.map_judge.proofs.Needs.{words_sum, words_few}
use Rattle.map_judge.proofs.need.Goals as goal

pub overflow_add-result-5 : goal.overflow_add-result-5
overflow_add-result-5 c = omega (arith, c.table_words-tables.ensures, words_few c.args.sizes.now c.args.counts.parts (omega arith) c.requires.1)

pub returns : goal.returns
unfolding need_of
returns c = omega (arith, c.table_words-tables.ensures, words_sum c.args.sizes.now c.args.counts.parts (omega arith))
