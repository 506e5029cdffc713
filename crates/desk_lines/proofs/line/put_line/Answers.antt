-- `line::put_line` writes the place, the name and the numbers.
-- Assumes nothing.
use native.Mathlib.Omega.{arith}
use Rattle.desk_lines.proofs.Writing.{wrote_more, digits_few}
use Rattle.desk_lines.proofs.line.put_line.Goals as goal

pub put_text-named-requires : goal.put_text-named-requires
put_text-named-requires c = (omega (arith, c.put_digits-placed.ensures.ends, digits_few 10 c.args.place), c.requires.1)

pub put_numbers-requires : goal.put_numbers-requires
put_numbers-requires c = (omega (arith, c.put_digits-placed.ensures.ends, digits_few 10 c.args.place, c.put_text-named.ensures.ends, c.requires), c.requires.2)

pub returns : goal.returns
returns c = wrote_more (wrote_more c.put_digits-placed.ensures c.put_text-named.ensures) c.put_numbers.ensures
