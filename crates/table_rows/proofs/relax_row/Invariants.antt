-- `table_rows::relax_row` meets its contract. The loop's invariant: the words passed are relaxed, the others as before.
-- Assumes nothing.
use Prim.Native.Nat.{◌+◌, min}
use lib.ListN.{get_or}
use Rattle.table_rows.specs.Flat.{Begins}
use Rattle.table_rows.proofs.relax_row.Given as goal

abbrev pub invariant-loop-j : goal.invariant-loop-j
invariant-loop-j l = Begins l.j (λ j. min (get_or l.initial.best j 0) (l.x + get_or l.row j 0)) l.initial.best l.best
