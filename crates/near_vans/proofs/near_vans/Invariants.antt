use mathlib.Core.Path.{◌≡◌}
use Rattle.near_vans.proofs.Calls.{Keeps}
use Rattle.near_vans.proofs.near_vans.Given as goal

abbrev pub invariant-loop : goal.invariant-loop
invariant-loop l = (l.list.k ≡ l.k) × Keeps l.mem l.x l.k l.front l.list
