use Rattle.table_rows.specs.Flat.{entry, through}
use Rattle.table_rows.proofs.Rows.{Filling}
use Rattle.table_rows.proofs.try_rows.Given as goal

abbrev pub invariant-loop-i : goal.invariant-loop-i
invariant-loop-i l = Filling l.n l.n (through l.k (entry l.n l.initial.table)) l.initial.table l.table l.i
