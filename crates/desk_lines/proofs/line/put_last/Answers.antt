-- `line::put_last` writes the last line.
-- Assumes nothing.
use Rattle.desk_lines.proofs.Writing.{wrote_more}
use Rattle.desk_lines.proofs.line.put_last.Goals as goal

pub returns : goal.returns
returns c = wrote_more c.put_text-named.ensures c.put_numbers.ensures
