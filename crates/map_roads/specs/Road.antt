-- The rules for one road of record 4, by its number.
use Rattle.std.specs.Prelude.{ℕ, ◌-◌, Bool, ◌&&◌, ◌||◌, List, eqb}
use Rattle.roads.specs.Map.{Road}
use Rattle.maps.specs.Bytes.{road_shown}
use Rattle.maps.specs.Rules.{road_fits, road_before}

-- a road with these fields
abbrev pub road : ℕ → ℕ → ℕ → Road
road u v w = record { from = u; to = v; weight = w }

-- road i of the body keeps the rules, and stands after the road before it
unfoldable pub road_test : List ℕ → ℕ → ℕ → Bool
road_test body vertices i = road_fits vertices (road_shown body i) && (eqb i 0 || road_before (road_shown body (i - 1)) (road_shown body i))
