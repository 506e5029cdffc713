use mathlib.Core.Path.{◌≡◌}
use lib.ListN.{length}
use Rattle.assembly.proofs.Pairs.{RowsTo}
use Rattle.table_pairs.proofs.agree.Given as goal

abbrev pub invariant-loop-i : goal.invariant-loop-i
invariant-loop-i l = (length l.mem ≡ length l.initial.mem) × RowsTo l.initial.mem l.p l.i l.mem
