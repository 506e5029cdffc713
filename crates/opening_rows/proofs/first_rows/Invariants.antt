-- `first_rows` reads the parts' records one after the other.
-- Assumes nothing.
use Rattle.opening_rows.specs.Rows.{FirstRows}
use Rattle.opening_rows.proofs.first_rows.Given as goal

abbrev pub invariant-loop-p : goal.invariant-loop-p
invariant-loop-p l = FirstRows l.mem l.p l.initial.cursors l.cursors
