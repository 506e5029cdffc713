-- `turn` goes by the plan of the record that the bytes show.
-- Assumes nothing.
use mathlib.Core.Path.{refl, ap}
use Rattle.std.specs.Prelude.{Ok}
use native.Mathlib.Omega.{arith}
use Rattle.desk_steps.proofs.Turning.{turns_over, turns_bad, turns_late, turns_call}
use Rattle.desk_steps.proofs.turn.Goals as goal

pub returns-then-place-gt-MOST_CALLS : goal.returns-then-place-gt-MOST_CALLS
returns-then-place-gt-MOST_CALLS c =
    turns_late _ _ c.requires.0 c.in-Ok-Some.ensures c.in-Ok-Some.call c.in-Ok-Some.size (ap Ok c.in-Ok-Some.field-0-is) (omega arith) c.bad.ensures

pub returns-in-Ok-None : goal.returns-in-Ok-None
returns-in-Ok-None c = turns_over _ _ c.requires.0 c.in-Ok-None.ensures (ap Ok c.in-Ok-None.field-0-is) c.finish.ensures

pub returns-in-Err : goal.returns-in-Err
returns-in-Err c = turns_bad _ _ c.requires.0 c.in-Err.ensures refl c.bad-in-Err.ensures

pub returns-else-place-gt-MOST_CALLS : goal.returns-else-place-gt-MOST_CALLS
returns-else-place-gt-MOST_CALLS c =
    turns_call _ _ c.requires.0 c.in-Ok-Some.ensures c.in-Ok-Some.call c.in-Ok-Some.size (ap Ok c.in-Ok-Some.field-0-is) (omega arith) c.serve-end.ensures
