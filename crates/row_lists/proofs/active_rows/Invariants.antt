use mathlib.Core.Path.{◌≡◌}
use Prim.Native.Nat.{◌≤◌}
use Rattle.words.specs.Ranks.{rank}
use Rattle.row_lists.specs.Rows.{shows_own}
use Rattle.row_lists.proofs.active_rows.Given as goal

abbrev pub invariant-loop-i : goal.invariant-loop-i
invariant-loop-i l = (l.n ≤ l.i) × (l.n ≡ rank (shows_own l.mem l.first) l.i)
