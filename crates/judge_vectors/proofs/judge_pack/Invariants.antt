-- `judge_pack` goes from map to map, and ends.
use Rattle.std.proofs.Common.{◌+◌, ◌≤◌, length}
use Rattle.judge_vectors.proofs.judge_pack.Given as goal

abbrev pub invariant-loop-map : goal.invariant-loop-map
invariant-loop-map g l = l.index + length l.rest ≤ length l.initial.rest

abbrev pub decreases-loop-map : goal.decreases-loop-map
decreases-loop-map g l = length l.rest
