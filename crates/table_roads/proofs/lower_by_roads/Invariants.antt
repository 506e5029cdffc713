use mathlib.Core.Path.{◌≡◌}
use lib.ListN.{length}
use Rattle.assembly.proofs.Roads.{RoadsTo}
use Rattle.table_roads.proofs.lower_by_roads.Given as goal

abbrev pub invariant-loop-r : goal.invariant-loop-r
invariant-loop-r l = (length l.mem ≡ length l.initial.mem) × (length l.marks ≡ length l.initial.marks) × RoadsTo l.initial.mem l.place l.initial.marks l.p l.i l.initial.r l.r l.mem l.marks
