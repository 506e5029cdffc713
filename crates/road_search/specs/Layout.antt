-- A map's roads in the memory, in rising order of the vertex that they leave, and for each vertex the number of its first road out. Assumes nothing.
use Rattle.std.specs.Prelude.{◌≡◌, cond, List, ℕ, ◌+◌, ◌*◌, ◌-◌, ◌≤◌, ◌<◌, ltb, length}
use Rattle.words.specs.Limits.{most_vertices, most_weight}
use Rattle.words.specs.Lists.{word, keep}
use Rattle.layout.specs.Layout.{words_in_vertex, roads_in_vertex, words_in_road}
use Rattle.roads.specs.Map.{Road, Map, road_count}
use Rattle.roads.specs.Dist.{dist}
use Rattle.road_relax.specs.Relaxing.{shown_road, shown_roads}

-- the number of the first road out of v, in word 2 of its record
abbrev pub first_out : List ℕ → ℕ → ℕ → ℕ
first_out mem vertices v = word mem (vertices + words_in_vertex * v + roads_in_vertex)

-- the number after that of the last road out of v: the next vertex's first, and past all roads for the last vertex
abbrev pub next_out : List ℕ → ℕ → ℕ → ℕ → ℕ → ℕ
next_out mem vertices n count v = cond (ltb (v + 1) n) (first_out mem vertices (v + 1)) count

-- the roads out of v
unfoldable pub roads_out : List ℕ → ℕ → ℕ → ℕ → ℕ → ℕ → List Road
roads_out mem vertices n roads count v =
    shown_roads mem (roads + words_in_road * first_out mem vertices v) (next_out mem vertices n count v - first_out mem vertices v)

-- vertex v, of a map with n vertices and `count` roads: its first road out is no later than the next vertex's, nor than past all roads
pub record LaidVertex (mem : List ℕ) (vertices n count v : ℕ) : Type 0 where
  pub ends : first_out mem vertices v ≤ count
  pub ordered : v + 1 < n → first_out mem vertices v ≤ first_out mem vertices (v + 1)

-- road j, of a map with n vertices: its ends exist, its weight is within the limit, and it stands among the roads out of the vertex that it leaves
pub record LaidRoad (mem : List ℕ) (vertices n j : ℕ) (r : Road) : Type 0 where
  pub from_below : r.from < n
  pub to_below : r.to < n
  pub light : r.weight ≤ most_weight
  pub first : first_out mem vertices r.from ≤ j
  pub next : r.from + 1 < n → j < first_out mem vertices (r.from + 1)

-- a map with n vertices, of 8 words each from `vertices` on, and `count` roads, of 4 words each from `roads` on
pub record LaidMap (mem : List ℕ) (vertices n roads count : ℕ) : Type 0 where
  pub few : n ≤ most_vertices
  pub vertices_fit : vertices + words_in_vertex * n ≤ length mem
  pub roads_fit_lem : roads + words_in_road * count ≤ length mem
  pub vertex : (v : ℕ) → v < n → LaidVertex mem vertices n count v
  pub road : (j : ℕ) → j < count → LaidRoad mem vertices n j (shown_road mem (roads + words_in_road * j))

-- how many roads leave a lower vertex than v
abbrev pub lower_roads : List Road → ℕ → ℕ
lower_roads rs v = length (keep (λ r. ltb r.from v) rs)

-- the words show the roads of the map m, and of each vertex the number of its first road out
pub record Shown (mem : List ℕ) (vertices roads : ℕ) (m : Map) : Type 0 where
  pub vertices_fit : vertices + words_in_vertex * m.vertices ≤ length mem
  pub roads_fit_lem : roads + words_in_road * road_count m ≤ length mem
  pub all_roads : shown_roads mem roads (road_count m) ≡ m.roads
  pub first_out_lem : (v : ℕ) → v < m.vertices → first_out mem vertices v ≡ lower_roads m.roads v

-- the labels are the distances from a, in every map that has n vertices and the roads that the words show
abbrev pub Measured : List ℕ → ℕ → ℕ → ℕ → ℕ → List ℕ → Type 0
Measured mem n roads count a labels =
    (m : Map) → m.vertices ≡ n → m.roads ≡ shown_roads mem roads count → (v : ℕ) → v < most_vertices → word labels v ≡ dist m a v
