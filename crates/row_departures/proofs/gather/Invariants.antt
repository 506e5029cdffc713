use mathlib.Core.Path.{◌≡◌}
use lib.ListN.{drop}
use Rattle.row_departures.specs.Departure.{far_key, gathered}
use Rattle.row_departures.proofs.gather.Given as goal

-- what is left to gather from here stays the whole
abbrev pub invariant-loop-source : goal.invariant-loop-source
invariant-loop-source l = gathered (drop l.source-index l.sources) l.mem l.column l.best ≡ gathered l.sources l.mem l.column far_key
