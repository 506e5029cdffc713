-- What the lifts of the vertices and the sizes of the parts say of a map.
use Rattle.std.specs.Prelude.{◌≡◌, true, ◌&&◌, List, ℕ, ◌<◌, ◌≤◌, length, ltb}
use Rattle.words.specs.Limits.{most_vertices, most_parts, NONE}
use Rattle.words.specs.Lists.{word}
use Rattle.roads.specs.Map.{Map, part_count}
use Rattle.parts.specs.Tree.{holds}
use Rattle.parts.specs.Border.{boundary}
use Rattle.parts.specs.Size.{size_of}
use Rattle.maps.specs.Bytes.{roads_of}
use Rattle.maps.specs.Rules.{parts_fit, roads_fit}
use Rattle.map_parts.specs.Part.{ShowsPartsOf}

-- m is the map with these parents and leaves and the roads of this body, within the limits, and keeps every rule but the border limit
pub record Given (m : Map) (parents leaves body : List ℕ) (vertices roads parts : ℕ) : Type 0 where
  pub shows : ShowsPartsOf m parents leaves vertices parts
  pub road_list : m.roads ≡ roads_of roads body
  pub few_vertices : vertices ≤ most_vertices
  pub few_parts : parts ≤ most_parts
  pub good_parts : parts_fit m ≡ true
  pub good_roads : roads_fit m ≡ true

-- The lift of each vertex of m: of the parts that hold v, it is boundary of those with a higher number than its lift.
-- So it is a border of their parents.
pub record Lifts (m : Map) (lifts : List ℕ) : Type 0 where
  pub room : length lifts ≡ most_vertices
  pub boundary : (v c : ℕ) → v < m.vertices → c < NONE → boundary m c v ≡ (holds m c v && ltb (word lifts v) c)

-- The number of rows of each part of m.
pub record Sizes (m : Map) (sizes : List ℕ) : Type 0 where
  pub room : length sizes ≡ most_parts
  pub size : (p : ℕ) → p < part_count m → word sizes p ≡ size_of m p
