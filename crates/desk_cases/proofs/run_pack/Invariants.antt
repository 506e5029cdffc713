-- `run_pack` goes from input to input, and ends.
-- Assumes nothing.
use Rattle.std.proofs.Common.{◌+◌, ◌≤◌, length}
use Rattle.desk_cases.proofs.run_pack.Given as goal

abbrev pub invariant-loop-input : goal.invariant-loop-input
invariant-loop-input g l = l.index + length l.rest ≤ length l.initial.rest

abbrev pub decreases-loop-input : goal.decreases-loop-input
decreases-loop-input g l = length l.rest
