use mathlib.Core.Bool.{Bool}
use Prim.Native.Nat.{ℕ, ◌≤◌}
use Rattle.row_lists.specs.Rows.{Picks}
use Rattle.row_lists.proofs.Looking.{Looking}
use Rattle.row_lists.proofs.look.Given as goal

abbrev pub invariant-loop-i : goal.invariant-loop-i
invariant-loop-i g l =
    (l.known ≤ l.i) × (l.count ≤ l.i)
    × ((test : ℕ → Bool) → Picks l.mem l.fn.part.first l.dx l.fn.part.size (goal.F-post g l.is_asked) test → Looking l.mem l.fn.part.first l.dx test l.fn.part.size l.i l.lists.places l.lists.near l.known l.lists.asked l.count)
