use mathlib.Core.Path.{◌≡◌}
use mathlib.Core.Bool.{false}
use lib.ListN.{drop}
use Rattle.row_arrivals.specs.Arrival.{arrived, any_news}
use Rattle.row_arrivals.proofs.meet_all.Given as goal

-- what is left to meet from here stays the whole
abbrev pub invariant-loop-i : goal.invariant-loop-i
invariant-loop-i l =
    (arrived (drop l.i-index l.numbers) l.mem l.part.first l.part.table l.part.size l.v ≡ arrived l.numbers l.initial.mem l.part.first l.part.table l.part.size l.v)
    × (any_news l.any (drop l.i-index l.numbers) l.mem l.part.first l.part.table l.part.size l.v ≡ any_news false l.numbers l.initial.mem l.part.first l.part.table l.part.size l.v)
