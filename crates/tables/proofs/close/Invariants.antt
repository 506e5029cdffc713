use mathlib.Core.Path.{◌≡◌}
use lib.ListN.{length}
use Rattle.assembly.proofs.Rising.{ClosedTo}
use Rattle.tables.proofs.close.Given as goal

abbrev pub invariant-loop-k : goal.invariant-loop-k
invariant-loop-k l = (length l.mem ≡ length l.initial.mem) × ClosedTo l.initial.mem l.marks l.p l.k l.mem
