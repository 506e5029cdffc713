-- Roads as words of the memory, four words a road; and the keys of vertices that wait, as roads are relaxed. Assumes nothing.
use Rattle.std.specs.Prelude.{◌≡◌, cond, List, [], ◌∷◌, ℕ, zero, suc, ◌+◌, ◌≤◌, ◌<◌, ltb, length, get_or, set}
use Rattle.words.specs.Limits.{FAR, most_vertices}
use Rattle.words.specs.Lists.{word}
use Rattle.layout.specs.Layout.{words_in_road, to_in_road, weight_in_road}
use Rattle.roads.specs.Map.{Road}
use Rattle.roads.specs.Dist.{relax}

-- the road whose words start at `at`
abbrev pub shown_road : List ℕ → ℕ → Road
shown_road mem at = record { from = word mem at; to = word mem (at + to_in_road); weight = word mem (at + weight_in_road) }

-- the k roads whose words start at `at`
unfoldable pub shown_roads : List ℕ → ℕ → ℕ → List Road
shown_roads mem at zero = []
shown_roads mem at (suc k) = shown_road mem at ∷ shown_roads mem (at + words_in_road) k

-- the label that a road offers to the vertex that it leads to
abbrev pub offer : Road → List ℕ → ℕ
offer r labels = get_or labels r.from FAR + r.weight

-- a vertex whose label a road lowers waits, with that label as its key
unfoldable pub wake : Road → List ℕ → List ℕ → List ℕ
wake r labels keys = cond (ltb (offer r labels) (get_or labels r.to FAR)) (set keys r.to (offer r labels)) keys

-- the keys after each road is relaxed once, in order
unfoldable pub wake_all : List Road → List ℕ → List ℕ → List ℕ
wake_all [] labels keys = keys
wake_all (r ∷ rs) labels keys = wake_all rs (relax r labels) (wake r labels keys)

-- the road at `at` leaves u, and both its ends have labels
pub record Leaves (mem : List ℕ) (at u : ℕ) : Type 0 where
  pub fits : at + words_in_road ≤ length mem
  pub from_u : word mem at ≡ u
  pub from_below : u < most_vertices
  pub to_below : word mem (at + to_in_road) < most_vertices

-- so does each of the k roads from `at` on
unfoldable pub Fan : List ℕ → ℕ → ℕ → ℕ → Type 0
Fan mem at zero u = Unit {0}
Fan mem at (suc k) u = Leaves mem at u × Fan mem (at + words_in_road) k u
