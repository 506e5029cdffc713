-- The calls that give an answer alone and write nothing: looking up a road.
use Rattle.std.specs.Prelude.{◌≡◌, ℕ, zero, suc, ◌<◌}
use Rattle.words.specs.Tests.{◌unless◌then◌}
use Rattle.roads.specs.Map.{Map, road_at, road_count}
use Rattle.fleet.specs.State.{State}
use Rattle.fleet.specs.Change.{Answer, refused, accepted, is_road, missing}

pub data Look : Type 0 where
  FindRoad : (from to : ℕ) → Look

-- looking up a road answers which of the three it is: 10, 20 or 0
unfoldable pub look_refusal : Map → Look → ℕ
look_refusal m (FindRoad from to) = missing m from to unless is_road m from to then 0

-- the number that an accepted one gives
unfoldable pub look_value : Map → State → Look → ℕ
look_value m s (FindRoad from to) = 0

abbrev pub look_by : ℕ → ℕ → Answer
look_by zero value = accepted value
look_by (suc n) value = refused (suc n)

unfoldable pub look : Map → State → Look → Answer
look m s l = look_by (look_refusal m l) (look_value m s l)

-- some road of the map runs from u to v
abbrev pub HasRoad : Map → ℕ → ℕ → Type 0
HasRoad m u v = (i : ℕ) × (i < road_count m) × ((road_at m i).from ≡ u) × ((road_at m i).to ≡ v)

-- the three answers, by the map's roads alone
pub record Tells (m : Map) (u v : ℕ) (answer : Answer) : Type 0 where
  pub there : HasRoad m u v → answer ≡ accepted 0
  pub other_way : ¬ HasRoad m u v → HasRoad m v u → answer ≡ refused 20
  pub neither : ¬ HasRoad m u v → ¬ HasRoad m v u → answer ≡ refused 10
