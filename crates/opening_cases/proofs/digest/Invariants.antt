-- `digest` stays below its modulus.
-- Assumes nothing.
use Rattle.std.proofs.Common.{◌<◌}
use Rattle.opening_cases.proofs.digest.Given as goal

abbrev pub invariant-loop-word : goal.invariant-loop-word
invariant-loop-word l = l.sum < 4294967291
