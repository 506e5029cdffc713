-- The vertices, written into their section.
use Rattle.std.specs.Prelude.{◌≡◌, ℕ, suc, ◌+◌, ◌*◌, ◌<◌, ◌≤◌, List, length}
use Rattle.words.specs.Limits.{most_vertices}
use Rattle.words.specs.Lists.{word, link}
use Rattle.layout.specs.Layout.{words_in_vertex}
use Rattle.roads.specs.Map.{Map, road_count, road_at}
use Rattle.parts.specs.Tree.{leaf_of}
use Rattle.maps.specs.Bytes.{road_shown}
use Rattle.image.specs.Places.{vertices_at}
use Rattle.image.specs.Image.{ends_at}
use Rattle.map_shown.specs.Shown.{ShowsLeaves, ShowsRoads}
use Rattle.records.specs.Written.{Written}
use Rattle.opening_fresh.specs.Fresh.{fresh_vertex}

-- the roads from `first` on and before r start below v
pub record Passed (body : List ℕ) (roads first v r : ℕ) : Type 0 where
  pub from : first ≤ r
  pub most : r ≤ roads
  pub below : (i : ℕ) → first ≤ i → i < r → (road_shown body i).from < v

-- and r is the first that does not
pub record Skipped (body : List ℕ) (roads first v r : ℕ) : Type 0 where
  pub passed : Passed body roads first v r
  pub stops : r < roads → v ≤ (road_shown body r).from

-- what is lent shows the vertices of m and has room for them, and no place is taken yet
pub record VerticesReady (m : Map) (leaves body : List ℕ) (roads vertices base : ℕ) (ins places mem : List ℕ) : Type 0 where
  pub road_count_lem : roads ≡ road_count m
  pub count : vertices ≡ m.vertices
  pub few : m.vertices ≤ most_vertices
  pub start : base ≡ vertices_at m
  pub leaves_shown : ShowsLeaves m leaves
  pub roads_shown : ShowsRoads m body
  pub rising : (i : ℕ) → suc i < road_count m → (road_at m i).from ≤ (road_at m (suc i)).from
  pub leaf_room : (v : ℕ) → v < m.vertices → leaf_of m v < length places
  pub linked : (v : ℕ) → v < m.vertices → word ins v ≡ link (ends_at v) 0 m.roads
  pub none : (q : ℕ) → q < length places → word places q ≡ 0
  pub room : vertices_at m + words_in_vertex * m.vertices ≤ length mem

-- the records of the vertices below v
abbrev pub VerticesStand : Map → ℕ → List ℕ → List ℕ → Type 0
VerticesStand m v mem₀ mem = Written (vertices_at m) words_in_vertex 0 v (fresh_vertex m) mem₀ mem
