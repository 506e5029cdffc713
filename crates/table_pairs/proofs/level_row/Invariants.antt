use mathlib.Core.Path.{◌≡◌}
use lib.ListN.{length}
use Rattle.table_pairs.proofs.Row.{RowTo}
use Rattle.table_pairs.proofs.level_row.Given as goal

abbrev pub invariant-loop-j : goal.invariant-loop-j
invariant-loop-j l = (length l.mem ≡ length l.initial.mem) × RowTo l.initial.mem l.rows l.i l.below l.j l.mem
