-- `serving::serve` makes the change or asks the question, and stores its lines.
-- Assumes nothing.
use Rattle.desk_calls.proofs.Calls.{served_as, served_change}
use Rattle.desk_calls.proofs.serving.serve.Goals as goal

pub returns-in-Changes : goal.returns-in-Changes
returns-in-Changes c = served_as c.in-Changes.is (served_change _ _ c.make_change-reply.ensures c.change_line.ensures c.write_line.ensures)
