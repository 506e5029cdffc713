use Rattle.table_rows.specs.Flat.{blank}
use Rattle.table_rows.proofs.Rows.{Filling}
use Rattle.table_rows.proofs.blank_table.Given as goal

abbrev pub invariant-loop-i : goal.invariant-loop-i
invariant-loop-i l = Filling l.n l.n blank l.initial.table l.table l.i
