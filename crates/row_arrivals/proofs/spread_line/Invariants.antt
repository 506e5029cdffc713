use mathlib.Core.Path.{◌≡◌}
use Prim.Native.Nat.{◌+◌, ◌-◌, ◌*◌}
use Rattle.row_arrivals.specs.Arrival.{spread}
use Rattle.row_arrivals.proofs.spread_line.Given as goal

-- what is left to offer from here stays the whole
abbrev pub invariant-loop-i : goal.invariant-loop-i
invariant-loop-i l =
    spread (l.part.size - l.i) l.mem (l.part.first + 4 * l.i) (l.line + l.i) l.seen.vertex l.seen.distance ≡ spread l.part.size l.initial.mem l.part.first l.line l.seen.vertex l.seen.distance
