-- What the lookup of a road finds.
use Rattle.std.specs.Prelude.{◌≡◌, cond, List, ℕ, ◌+◌, ◌≤◌, ◌<◌, ltb, Option, None, Some}
use Rattle.words.specs.Lists.{word}
use Rattle.layout.specs.Layout.{roads_in_vertex, to_in_road}
use Rattle.roads.specs.Map.{Map, road_count, road_at, road_between}
use Rattle.maps.specs.Sound.{Sound}
use Rattle.fleet.specs.Change.{is_road}
use Rattle.counts.specs.declared.Counts.{Counts}
use Rattle.places.specs.Place.{vertex_address, road_address}
use Rattle.image.specs.Image.{first_road_from}

-- the end of a road, in any words
abbrev pub end_in : List ℕ → Counts → ℕ → ℕ
end_in mem counts road = word mem (road_address counts road + to_in_road)

-- the first road of a vertex, in any words
abbrev pub first_road_in : List ℕ → Counts → ℕ → ℕ
first_road_in mem counts vertex = cond (ltb vertex counts.vertices) (word mem (vertex_address counts vertex + roads_in_vertex)) counts.roads

-- r parts the numbers from low on and below high: before it the ends are below `to`, from it on they are not
pub record Parts (ends : ℕ → ℕ) (low high to r : ℕ) : Type 0 where
  pub from : low ≤ r
  pub until : r ≤ high
  pub before : (i : ℕ) → low ≤ i → i < r → ends i < to
  pub after : (i : ℕ) → r ≤ i → i < high → to ≤ ends i

-- where the ends rise
abbrev pub Rising : (ℕ → ℕ) → ℕ → ℕ → Type 0
Rising ends low high = (i j : ℕ) → low ≤ i → i ≤ j → j < high → ends i ≤ ends j

abbrev pub FirstTo : (ℕ → ℕ) → (low high to r : ℕ) → Type 0
FirstTo ends low high to r = low ≤ high → Rising ends low high → Parts ends low high to r

-- the counts are those of the map, and the memory has its roads
pub record RoadsKnown (m : Map) (counts : Counts) (mem : List ℕ) : Type 0 where
  pub vertices : counts.vertices ≡ m.vertices
  pub roads : counts.roads ≡ road_count m
  pub first : (v : ℕ) → v < m.vertices → word mem (vertex_address counts v + roads_in_vertex) ≡ first_road_from m v
  pub end : (i : ℕ) → i < road_count m → end_in mem counts i ≡ (road_at m i).to

-- the road of a map from u to v
abbrev pub road_found : Map → ℕ → ℕ → Option ℕ
road_found m u v = cond (is_road m u v) (Some (road_between m.roads u v)) None

-- in a memory that has the roads of a sound map, the road that the definitions find
abbrev pub Between : List ℕ → Counts → (u v : ℕ) → Option ℕ → Type 0
Between mem counts u v r = (m : Map) → Sound m → RoadsKnown m counts mem → r ≡ road_found m u v
