-- The roads from number i on, written into their section.
use Rattle.std.specs.Prelude.{◌≡◌, List, [], ◌∷◌, ℕ, ◌+◌, ◌*◌, ◌≤◌, ◌<◌, length, drop}
use Rattle.words.specs.Lists.{word, link}
use Rattle.layout.specs.Layout.{words_in_road}
use Rattle.roads.specs.Map.{Road, Map, road_count, road_at}
use Rattle.image.specs.Places.{roads_at}
use Rattle.image.specs.Image.{ends_at}
use Rattle.image.specs.Records.{road_record}
use Rattle.map_shown.specs.Shown.{ShowsRoads}
use Rattle.records.specs.Written.{Written}

-- from, to, weight, and a link
abbrev pub road_words : Road → ℕ → List ℕ
road_words r next = r.from ∷ r.to ∷ r.weight ∷ next ∷ []

-- what is lent shows the roads of m, has room for them, and no road is linked yet
pub record RoadsReady (m : Map) (body : List ℕ) (roads base : ℕ) (ins mem : List ℕ) : Type 0 where
  pub count : roads ≡ road_count m
  pub start : base ≡ roads_at m
  pub shown : ShowsRoads m body
  pub ends : (i : ℕ) → i < road_count m → (road_at m i).to < length ins
  pub none : (v : ℕ) → v < length ins → word ins v ≡ 0
  pub room : roads_at m + words_in_road * road_count m ≤ length mem

-- the records of the roads from i on, and for each vertex the link to the first of them into it
pub record RoadsStand (m : Map) (i : ℕ) (mem₀ ins mem : List ℕ) : Type 0 where
  pub records : Written (roads_at m) words_in_road i (road_count m) (road_record m) mem₀ mem
  pub links : (v : ℕ) → v < length ins → word ins v ≡ link (ends_at v) i (drop i m.roads)
