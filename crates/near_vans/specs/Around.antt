-- What a search around x keeps, on the words of a map and a fleet: each taken vertex has its distance, and whoever has a road to it has been taken or waits.
use Rattle.std.specs.Prelude.{◌≡◌, ◌⊎◌, ◌≢◌, Bool, List, ℕ, suc, ◌+◌, ◌-◌, ◌%◌, ◌≤◌, ◌<◌, Option, MatchOption, length, set, replicate, take, eqb}
use Rattle.words.specs.Limits.{FAR}
use Rattle.words.specs.Lists.{word, keep, link}
use Rattle.roads.specs.Map.{Map, road_at, road_count}
use Rattle.roads.specs.Walk.{Walk}
use Rattle.roads.specs.Dist.{dist}
use Rattle.counts.specs.declared.Counts.{Counts}
use Rattle.fleet.specs.State.{Slot, absent, present, State, slot_of, head_of}
use Rattle.fleet.specs.Question.{Listed, coming_from, sorted}
use Rattle.image.specs.Image.{ends_at}
use Rattle.places.specs.Place.{counts_in}
use Rattle.van_offers.specs.Genuine.{Genuine}

-- In `at` stands of each vertex 255 if it was taken, and 1 + its place if it waits; `labels` and `vertices` have the labels and the numbers of the n that wait.
pub record Waits : Type 0 where
  pub at : List ℕ
  pub labels : List ℕ
  pub vertices : List ℕ
  pub n : ℕ

-- u was taken, or waits with a label of at most l
abbrev pub Reached : (w : Waits) (u l : ℕ) → Type 0
Reached w u l = (word w.at u ≡ 255) ⊎ ((i : ℕ) × (i < w.n) × (word w.vertices i ≡ u) × (word w.labels i ≤ l))

-- what holds of those that wait, but that of the roads into v only those below number `low` have been looked at
pub record Around (m : Map) (x v low : ℕ) (w : Waits) : Type 0 where
  pub at_length : length w.at ≡ 4096
  pub labels_length : length w.labels ≡ 128
  pub vertices_length : length w.vertices ≡ 128
  pub few : w.n ≤ 128
  pub placed : (i : ℕ) → i < w.n → word w.at (word w.vertices i) ≡ suc i
  pub is_vertex : (i : ℕ) → i < w.n → word w.vertices i < m.vertices
  pub walked : (i : ℕ) → i < w.n → Walk m (word w.vertices i) x (word w.labels i)
  pub start : Reached w x 0
  pub reached : (j : ℕ) → j < road_count m → word w.at (road_at m j).to ≡ 255 → ((road_at m j).to ≡ v → j < low)
      → Reached w (road_at m j).from ((road_at m j).weight + dist m (road_at m j).to x)

-- the vertex that a van heads for
abbrev pub van_head : Map → Slot → ℕ
van_head m absent = 0
van_head m (present v) = head_of m v

-- it was taken
unfoldable pub is_offered_near : Map → State → List ℕ → Listed → Bool
is_offered_near m s at l = eqb (word at (van_head m (slot_of s l.van))) 255

-- a search between two turns: the list holds the vans of the vertices taken
pub record SearchingAround (m : Map) (s : State) (x k : ℕ) (w : Waits) (found : List Listed) : Type 0 where
  pub around : Around m x 0 (road_count m) w
  pub list : found ≡ take k (sorted (keep (is_offered_near m s w.at) (coming_from m x 0 s.vans)))

-- The functions of the search.

-- none was taken, and none waits
pub record NothingTaken (w : Waits) : Type 0 where
  pub at_is : w.at ≡ replicate 4096 0
  pub labels_are : w.labels ≡ replicate 128 0
  pub vertices_are : w.vertices ≡ replicate 128 0
  pub n_is : w.n ≡ 0

-- place r has the least of n labels
pub record LeastLabel (labels : List ℕ) (n r : ℕ) : Type 0 where
  pub is_place : r < n
  pub least : (i : ℕ) → i < n → word labels r ≤ word labels i

-- the vertex at place i was taken
pub record Taken (i : ℕ) (w w' : Waits) (v : ℕ) : Type 0 where
  pub vertex_is : v ≡ word w.vertices i
  pub at_is : w'.at ≡ set (set w.at (word w.vertices (w.n - 1) % 4096) (suc i)) (v % 4096) 255
  pub labels_are : w'.labels ≡ set w.labels i (word w.labels (w.n - 1))
  pub vertices_are : w'.vertices ≡ set w.vertices i (word w.vertices (w.n - 1))
  pub n_is : w'.n ≡ w.n - 1

-- the place, if any, at which u waits
abbrev pub HasPlace : (u : ℕ) (w : Waits) (place : Option ℕ) → Type 0
HasPlace u w place = MatchOption place ((i : ℕ) → word w.at u ≡ suc i → i < w.n → word w.vertices i ≢ u) (λ i. (i < w.n) × (word w.vertices i ≡ u))

-- u was met at distance `far`
pub data Met (u far : ℕ) (w w' : Waits) : Type 0 where
  was_taken : word w.at u ≡ 255 → w' ≡ w → Met u far w w'
  no_less : (i : ℕ) → i < w.n → word w.vertices i ≡ u → word w.labels i ≤ far → w' ≡ w → Met u far w w'
  lowered : (i : ℕ) → i < w.n → word w.vertices i ≡ u → far < word w.labels i → w' ≡ record { at = w.at; labels = set w.labels i far; vertices = w.vertices; n = w.n } → Met u far w w'
  new : word w.at u ≢ 255 → ((i : ℕ) → word w.at u ≡ suc i → i < w.n → word w.vertices i ≢ u) → w.n < 128
      → w' ≡ record { at = set w.at u (suc w.n); labels = set w.labels w.n far; vertices = set w.vertices w.n u; n = suc w.n } → Met u far w w'

-- v was taken at its distance, and none of the roads into it has been looked at
pub record RoadsFollowed (m : Map) (s : State) (mem : List ℕ) (counts : Counts) (x v first near : ℕ) (w : Waits) : Type 0 where
  pub genuine : Genuine m s mem
  pub counts_are : counts ≡ counts_in mem
  pub is_vertex : v < m.vertices
  pub caller : x < m.vertices
  pub near_is : near ≡ dist m v x
  pub reaches : near < FAR
  pub first_is : first ≡ link (ends_at v) 0 m.roads
  pub was_taken : word w.at v ≡ 255
  pub around : Around m x v 0 w

-- the same vertices were taken
abbrev pub SameTaken : List ℕ → List ℕ → Type 0
SameTaken at at' = (u : ℕ) → eqb (word at' u) 255 ≡ eqb (word at u) 255

-- the roads into a vertex have been looked at
abbrev pub MetAll : (mem : List ℕ) (counts : Counts) (first near : ℕ) (w w' : Waits) → Type 0
MetAll mem counts first near w w' = (m : Map) (s : State) (x v : ℕ) → RoadsFollowed m s mem counts x v first near w → Around m x v (road_count m) w' × SameTaken w.at w'.at
