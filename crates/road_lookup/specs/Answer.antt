-- What looking up a road comes to: its number, that only the other way is a road, or that neither is.
use Rattle.std.specs.Prelude.{◌≡◌, ◌⊎◌, cond, List, ℕ, Result, Ok, Err}
use Rattle.roads.specs.Map.{Map, road_between}
use Rattle.maps.specs.Sound.{Sound}
use Rattle.fleet.specs.Change.{is_road}
use Rattle.answers.specs.declared.Refusal.{Refusal}
use Rattle.answers.specs.declared.Refusal.TheVariants.{NoRoad, WrongWay}
use Rattle.counts.specs.declared.Counts.{Counts}
use Rattle.road_lookup.specs.Lookup.{RoadsKnown}

-- the lookup of (u, v) on a map
abbrev pub lookup_of : Map → ℕ → ℕ → Result ℕ Refusal
lookup_of m u v = cond (is_road m u v) (Ok (road_between m.roads u v)) (Err (cond (is_road m v u) WrongWay NoRoad))

-- in a memory that has the roads of a sound map, the lookup on the map
abbrev pub LookupTells : List ℕ → Counts → (u v : ℕ) → Result ℕ Refusal → Type 0
LookupTells mem counts u v r = (m : Map) → Sound m → RoadsKnown m counts mem → r ≡ lookup_of m u v

-- in any words, the refusals of a lookup
abbrev pub MissingRoad : Refusal → Type 0
MissingRoad refusal = (refusal ≡ NoRoad) ⊎ (refusal ≡ WrongWay)
