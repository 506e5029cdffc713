-- `record::call_of` is `call_of`: kinds 16 to 21 are calls and every other kind is bad.
-- Assumes nothing.
use native.Mathlib.Omega.{arith}
use Rattle.desk_lines.specs.Read.{call_of}
use Rattle.desk_lines.proofs.Sized.{call_as, below_calls, above_calls}
use Rattle.desk_lines.proofs.record.call_of.Goals as goal

pub returns-in-16 : goal.returns-in-16
unfolding call_of
returns-in-16 c = call_as _ c.in-16.is c.add_of.ensures

pub returns-in-17 : goal.returns-in-17
unfolding call_of
returns-in-17 c = call_as _ c.in-17.is c.move_of.ensures

pub returns-in-18 : goal.returns-in-18
unfolding call_of
returns-in-18 c = call_as _ c.in-18.is c.remove_of.ensures

pub returns-in-19 : goal.returns-in-19
unfolding call_of
returns-in-19 c = call_as _ c.in-19.is c.claim_of.ensures

pub returns-in-20 : goal.returns-in-20
unfolding call_of
returns-in-20 c = call_as _ c.in-20.is c.release_of.ensures

pub returns-in-21 : goal.returns-in-21
unfolding call_of
returns-in-21 c = call_as _ c.in-21.is c.question_of.ensures

pub returns-in-0-to-15 : goal.returns-in-0-to-15
returns-in-0-to-15 c = below_calls c.args.kind _ (omega arith)

pub returns-in-22-to-4294967295 : goal.returns-in-22-to-4294967295
returns-in-22-to-4294967295 c = above_calls c.args.kind _ (omega arith)
