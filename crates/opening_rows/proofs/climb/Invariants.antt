use Rattle.std.proofs.Common.{ℕ, true, List}
use Rattle.roads.specs.Map.{Map}
use Rattle.opening_rows.specs.Rows.{Standing, RowsStand}
use Rattle.opening_rows.proofs.Step.{Climbing}
use Rattle.opening_rows.proofs.climb.Given as goal

abbrev pub invariant-loop : goal.invariant-loop
invariant-loop l = (m : Map) (start : List ℕ) → Standing m l.parents l.vertex → RowsStand m l.vertex.number (λ q. true) start l.initial.cursors l.initial.mem
    → Climbing m l.vertex.number l.part l.child l.below l.counter start l.cursors l.mem
