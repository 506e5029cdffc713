use Rattle.std.proofs.Common.{true}
use Rattle.roads.specs.Map.{Map}
use Rattle.opening_rows.specs.Rows.{RowsReady, RowsStand}
use Rattle.opening_rows.proofs.write_rows.Given as goal

abbrev pub invariant-loop-v : goal.invariant-loop-v
invariant-loop-v l = (m : Map) → RowsReady m l.parents l.leaves l.lifts l.vertices l.base l.initial.cursors l.initial.mem → RowsStand m l.v (λ q. true) l.initial.mem l.cursors l.mem
