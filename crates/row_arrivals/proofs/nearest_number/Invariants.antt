use mathlib.Core.Path.{◌≡◌}
use lib.ListN.{drop}
use Rattle.words.specs.Limits.{FAR}
use Rattle.row_words.specs.Words.{placed}
use Rattle.row_arrivals.specs.Arrival.{lead_from}
use Rattle.row_arrivals.proofs.nearest_number.Given as goal

-- what is left to look at from here stays the whole
abbrev pub invariant-loop-i : goal.invariant-loop-i
invariant-loop-i l = lead_from (drop l.i-index l.numbers) l.mem l.part.first l.best ≡ lead_from l.numbers l.mem l.part.first (placed 0 FAR)
