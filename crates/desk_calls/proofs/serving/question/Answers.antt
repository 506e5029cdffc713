-- `serving::question` stores the lines of the list, or of the refusal.
-- Assumes nothing.
use Rattle.desk_calls.proofs.Answers.{refused_is}
use Rattle.desk_calls.proofs.Calls.{served_list, served_refused}
use Rattle.desk_calls.proofs.serving.question.Goals as goal

pub returns-in-Ok : goal.returns-in-Ok
returns-in-Ok c = served_list _ _ c.requires.1 _ c.in-Ok.ensures c.list.ensures

pub returns-in-Err : goal.returns-in-Err
returns-in-Err c = served_refused _ _ c.requires.1 _ c.in-Err.ensures (refused_is _) c.refused_line.ensures c.write_line.ensures
