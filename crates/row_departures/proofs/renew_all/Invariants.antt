use mathlib.Core.Path.{◌≡◌}
use lib.ListN.{drop}
use Rattle.row_departures.specs.Departure.{renewed}
use Rattle.row_departures.proofs.renew_all.Given as goal

-- what is left to make anew from here stays the whole
abbrev pub invariant-loop-i : goal.invariant-loop-i
invariant-loop-i l =
    renewed (drop l.i-index l.numbers) l.mem l.sources l.part.first l.part.table ≡ renewed l.numbers l.initial.mem l.sources l.part.first l.part.table
