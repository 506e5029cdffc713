-- Roads of the small map looked up, as cases beside the scope's ten: what the definitions give and what is expected, as words.
use Rattle.std.specs.Prelude.{ℕ, List, [], ◌∷◌, ◌++◌}
use Rattle.fleet.specs.State.{fresh_state}
use Rattle.fleet.specs.declared.Change.{Change}
use Rattle.fleet.specs.declared.Change.TheVariants.{Add, Move}
use Rattle.fleet.specs.Change.{Answer, number_of, value_of, step}
use Rattle.fleet.specs.Look.{FindRoad, look}
use Rattle.small_map.specs.Small.{small}
use Rattle.small_map.specs.Cases.{Case, after, tried}

-- number and value
unfoldable pub numbers_of : Answer → List ℕ
numbers_of a = number_of a ∷ value_of a ∷ []

unfoldable pub looked_up : ℕ → ℕ → List ℕ
looked_up from to = numbers_of (look small (fresh_state 0) (FindRoad from to))

-- what a change gets where van 1 stands on 4→1
unfoldable pub tried_then : Change → List ℕ
tried_then c = numbers_of (step small (after (Add 1 4 1 6 ∷ [])) c).answer

unfoldable pub lookups : List Case
lookups =
    -- 4→1 is a road, and 1→4 is only the other way.
    record { computed = looked_up 4 1 ++ looked_up 1 4; written = 0 ∷ 0 ∷ 20 ∷ 0 ∷ [] }
    -- Both 2→3 and 3→2 are roads.
    ∷ record { computed = looked_up 2 3 ++ looked_up 3 2; written = 0 ∷ 0 ∷ 0 ∷ 0 ∷ [] }
    -- Neither way between 0 and 2; from a vertex to itself; where one end is no vertex, or both.
    ∷ record { computed = looked_up 0 2 ++ looked_up 2 0 ++ looked_up 2 2 ++ looked_up 4 5 ++ looked_up 5 4 ++ looked_up 9 9; written = 10 ∷ 0 ∷ 10 ∷ 0 ∷ 10 ∷ 0 ∷ 10 ∷ 0 ∷ 10 ∷ 0 ∷ 10 ∷ 0 ∷ [] }
    -- Add and move pass it on, in the place of 10: after 9 and 8, before 11.
    ∷ record { computed = tried (Add 1 1 4 9) ++ tried_then (Add 1 1 4 0) ++ tried_then (Move 1 1 4 9) ++ tried_then (Move 2 1 4 0); written = 20 ∷ 0 ∷ 9 ∷ 0 ∷ 20 ∷ 0 ∷ 8 ∷ 0 ∷ [] }
    ∷ []
