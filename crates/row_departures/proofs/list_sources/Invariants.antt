use mathlib.Core.Path.{◌≡◌}
use mathlib.Core.List.{◌++◌, map}
use Prim.Native.Nat.{◌+◌, ◌-◌, ◌*◌, ◌≤◌}
use lib.ListN.{length, take}
use lib.Dec.{ltb}
use Rattle.words.specs.Limits.{FAR}
use Rattle.words.specs.Lists.{count_from, keep}
use Rattle.row_words.specs.Words.{source_in}
use Rattle.row_departures.specs.Departure.{filled, source_of}
use Rattle.row_departures.proofs.list_sources.Given as goal

-- what counts so far and what is left to look at stays the whole
abbrev pub invariant-loop-i : goal.invariant-loop-i
invariant-loop-i l =
    (length l.sources ≡ 128)
    × (l.n ≤ l.i)
    × (take l.n l.sources ++ map (source_of l.mem l.part.first l.part.size) (keep (λ j. ltb (source_in l.mem (l.part.first + 4 * j)).distance FAR) (count_from l.i (l.part.size - l.i)))
    ≡ map (source_of l.mem l.part.first l.part.size) (filled l.mem l.part.first l.part.size))
