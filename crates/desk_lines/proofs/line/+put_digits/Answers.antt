-- `line::put_digits` writes the digits.
-- Assumes nothing.
use Rattle.std.proofs.Common.{arith, sym, ◌-◌, ◌/◌}
use Rattle.desk_lines.proofs.Writing.{wrote_as, wrote_none, wrote_byte, wrote_more, digits_few, digits_none, digits_one, digits_more}
use Rattle.desk_lines.proofs.line.+put_digits.Goals as goal

pub returns-then-most-eq0 : goal.returns-then-most-eq0
returns-then-most-eq0 t c = wrote_as _ (sym (digits_none c.args.most c.args.value c.if-most-eq0.true)) (wrote_none c.args.out.now c.args.at)

pub returns-then-value-lt10 : goal.returns-then-value-lt10
returns-then-value-lt10 t c =
    wrote_as _ (sym (digits_one c.args.most c.args.value c.if-most-eq0.false c.if-value-lt10.true)) (wrote_byte c.args.out.now c.args.at _ c.put_byte.ensures)

pub overflow_add-result-2 : goal.overflow_add-result-2
overflow_add-result-2 t c = omega (arith, c.put_digits-next.ensures.ends, digits_few (c.args.most - 1) (c.args.value / 10), c.requires)

pub returns : goal.returns
returns t c =
    wrote_as _ (sym (digits_more c.args.most c.args.value c.if-most-eq0.false c.if-value-lt10.false)) (wrote_more c.put_digits-next.ensures (wrote_byte _ _ _ c.put_byte-2.ensures))
