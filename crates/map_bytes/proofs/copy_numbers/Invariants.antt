-- `copy_numbers` copies number by number.
-- Assumes nothing.
use Rattle.map_bytes.proofs.Copying.{Copying}
use Rattle.map_bytes.proofs.copy_numbers.Given as goal

abbrev pub invariant-loop-i : goal.invariant-loop-i
invariant-loop-i l = Copying l.body l.n l.initial.words l.i l.words
