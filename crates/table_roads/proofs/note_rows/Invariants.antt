use mathlib.Core.Path.{◌≡◌}
use lib.ListN.{length}
use Rattle.assembly.proofs.Roads.{NotedTo}
use Rattle.table_roads.proofs.note_rows.Given as goal

abbrev pub invariant-loop-i : goal.invariant-loop-i
invariant-loop-i l = (length l.place ≡ length l.initial.place) × NotedTo l.mem l.p (length l.initial.place) l.i l.place
