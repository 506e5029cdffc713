use mathlib.Core.Path.{◌≡◌}
use lib.ListN.{length}
use Rattle.assembly.proofs.Roads.{RowsTaken}
use Rattle.table_roads.proofs.take_roads.Given as goal

abbrev pub invariant-loop-i : goal.invariant-loop-i
invariant-loop-i l = (length l.mem ≡ length l.initial.mem) × (length l.marks ≡ length l.initial.marks) × RowsTaken l.initial.mem l.place l.initial.marks l.p l.i l.mem l.marks
