-- The entries that a memory offers, in their order, whatever its words are.
use Rattle.std.specs.Prelude.{cond, List, [], ◌∷◌, ◌++◌, ℕ, zero, suc, ◌+◌, ◌*◌, ◌%◌, min, ltb}
use Rattle.words.specs.Limits.{FAR, vans}
use Rattle.words.specs.Lists.{word}
use Rattle.layout.specs.Layout.{vans_in_vertex, offset_in_van, stamp_in_van, next_in_van, words_in_row, own_in_row, child_in_row}
use Rattle.counts.specs.declared.Counts.{Counts}
use Rattle.places.specs.Place.{vertex_address, van_address}
use Rattle.fleet.specs.Question.{Listed}
use Rattle.best_list.specs.Best.{listed}

-- the stamp that a memory shows for a van
abbrev pub stamp_in : List ℕ → Counts → ℕ → ℕ
stamp_in mem counts van = word mem (van_address counts van + stamp_in_van)

-- the vans of a list of at most n, which starts at a link: each at its offset beyond `near`
unfoldable pub van_offers : List ℕ → Counts → ℕ → ℕ → ℕ → List Listed
van_offers mem counts near zero link = []
van_offers mem counts near (suc n) zero = []
van_offers mem counts near (suc n) (suc van) =
    listed (stamp_in mem counts) (min (near + word mem (van_address counts van + offset_in_van)) FAR) van ∷ van_offers mem counts near n (word mem (van_address counts van + next_in_van))

-- the vertex of row i, where the rows start at `first`
abbrev pub row_owner : List ℕ → ℕ → ℕ → ℕ
row_owner mem first i = word mem (first + words_in_row * i + own_in_row) % child_in_row

-- the vans that head for a vertex at distance `near`, where it can reach
unfoldable pub vertex_offers : List ℕ → Counts → ℕ → ℕ → List Listed
vertex_offers mem counts v near = cond (ltb near FAR) (van_offers mem counts near vans (word mem (vertex_address counts v + vans_in_vertex))) []

-- those of the vertices of some rows, by their numbers
unfoldable pub row_offers : List ℕ → Counts → ℕ → List ℕ → List ℕ → List Listed
row_offers mem counts first dx [] = []
row_offers mem counts first dx (i ∷ rows) = vertex_offers mem counts (row_owner mem first i) (word dx (row_owner mem first i)) ++ row_offers mem counts first dx rows
