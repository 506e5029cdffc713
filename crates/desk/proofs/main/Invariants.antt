-- `main` ends: each step has the next place. The loop's invariant: until it is over the program stands within its window.
-- Assumes nothing.
use Rattle.std.proofs.Common.{◌≡◌, ◌≤◌, length, ◌-◌, false}
use Rattle.desk_run.specs.Desk.{InWindow}
use Rattle.desk.proofs.main.Given as goal

abbrev pub invariant-loop-desk : goal.invariant-loop-desk
invariant-loop-desk l = (l.desk.over ≡ false → InWindow l.desk (length l.window)) × (l.desk.out ≤ length l.out)

abbrev pub decreases-loop-desk : goal.decreases-loop-desk
decreases-loop-desk l = 1000002 - l.desk.place
