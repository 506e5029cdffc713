-- `begin` goes by the plan of the map and the opening record that the bytes show.
-- Assumes nothing.
use mathlib.Core.Path.{refl}
use Rattle.desk_steps.proofs.Beginning.{begins_long, begins_judged}
use Rattle.desk_steps.proofs.begin.Goals as goal

pub returns-in-None : goal.returns-in-None
returns-in-None c = begins_long c.args.input.now c.requires.0 c.in-None.ensures refl refl c.refuse.ensures

pub returns-in-Some : goal.returns-in-Some
returns-in-Some c = begins_judged c.args.input.now c.requires.0 c.in-Some.ensures _ _ refl c.min.ensures c.judge.ensures
