use mathlib.Core.Path.{◌≡◌}
use lib.ListN.{length}
use Rattle.assembly.proofs.Descent.{EnteredTo}
use Rattle.tables.proofs.enter_rows.Given as goal

abbrev pub invariant-loop-i : goal.invariant-loop-i
invariant-loop-i l = (length l.mem ≡ length l.initial.mem) × EnteredTo l.initial.mem l.p l.i l.mem
