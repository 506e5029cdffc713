-- `line::write_line` writes the text of the line.
-- Assumes nothing.
use Rattle.desk_lines.proofs.Writing.{wrote_as}
use Rattle.desk_lines.proofs.Texts.{opened_text, ok_text, no_text, length_text, van_text, bad_text, end_text}
use Rattle.desk_lines.proofs.line.write_line.Goals as goal

pub returns-in-Opened : goal.returns-in-Opened
returns-in-Opened c = wrote_as _ (opened_text c.in-Opened.is) c.put_line.ensures

pub returns-in-Ok : goal.returns-in-Ok
returns-in-Ok c = wrote_as _ (ok_text c.in-Ok.is) c.put_line-in-Ok.ensures

pub returns-in-No : goal.returns-in-No
returns-in-No c = wrote_as _ (no_text c.in-No.is) c.put_line-in-No.ensures

pub returns-in-Length : goal.returns-in-Length
returns-in-Length c = wrote_as _ (length_text c.in-Length.is) c.put_line-in-Length.ensures

pub returns-in-Van : goal.returns-in-Van
returns-in-Van c = wrote_as _ (van_text c.in-Van.is) c.put_line-in-Van.ensures

pub returns-in-Bad : goal.returns-in-Bad
returns-in-Bad c = wrote_as _ (bad_text c.in-Bad.is) c.put_line-in-Bad.ensures

pub returns-in-End : goal.returns-in-End
returns-in-End c = wrote_as _ (end_text c.in-End.is) c.put_last.ensures
