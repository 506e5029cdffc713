-- `line::put_text` writes the text. The loop's invariant: the first i bytes of it are written.
-- Assumes nothing.
use Rattle.desk_lines.proofs.Writing.{wrote_next}
use Rattle.desk_lines.proofs.line.put_text.Goals as goal

pub loop-i-preserved : goal.loop-i-preserved
loop-i-preserved c = wrote_next c.args.out.now c.args.at c.args.text.now c.loop-i.i c.loop-i.out c.loop-i-test.true c.loop-i.invariant c.put_byte.ensures
