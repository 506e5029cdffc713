-- `line::put_numbers` writes the numbers and the end of the line. The loop's invariant: the first of them are written.
-- Assumes nothing.
use native.Mathlib.Omega.{arith}
use lib.ListN.{get_or}
use Rattle.desk_lines.proofs.Writing.{digits_few}
use Rattle.desk_lines.proofs.Texts.{wrote_number, wrote_numbers}
use Rattle.desk_lines.proofs.line.put_numbers.Goals as goal

pub loop-number-preserved : goal.loop-number-preserved
loop-number-preserved c = (
  omega (arith, c.put_digits-end.ensures.ends, digits_few 10 (get_or c.args.numbers.now c.loop-number.number-index 0)),
  wrote_number c.args.out.now c.args.at c.args.numbers.now c.loop-number.number-index c.loop-number-test.true c.loop-number.invariant.1 c.put_byte.ensures c.put_digits-end.ensures,
)

pub returns : goal.returns
returns c = wrote_numbers c.args.numbers.now c.loop-number.number-index c.loop-number-test.false c.loop-number.invariant.1 c.put_byte-2.ensures
