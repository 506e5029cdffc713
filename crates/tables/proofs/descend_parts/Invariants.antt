use mathlib.Core.Path.{◌≡◌}
use lib.ListN.{length}
use Rattle.assembly.proofs.Descent.{DescendedTo}
use Rattle.tables.proofs.descend_parts.Given as goal

abbrev pub invariant-loop-p : goal.invariant-loop-p
invariant-loop-p l = (length l.mem ≡ length l.initial.mem) × DescendedTo l.initial.mem l.p l.mem
