-- The records that show a fleet, where it is empty: no van heads for a vertex, and each row is empty.
use Rattle.std.specs.Prelude.{ℕ, List, [], ◌∷◌}
use Rattle.words.specs.Limits.{NONE, FAR}
use Rattle.words.specs.Lists.{link, place_in}
use Rattle.roads.specs.Map.{Map}
use Rattle.parts.specs.Tree.{leaf_of, vertices_of}
use Rattle.rows.specs.Row.{empty_row}
use Rattle.image.specs.Image.{first_road_from, ends_at, row_record, part_below, row_below}

-- leaf, place, first road out, link to the first road in; no van, and an empty row of its own
abbrev pub vertex_words : ℕ → ℕ → ℕ → ℕ → List ℕ
vertex_words leaf place road in-link = leaf ∷ place ∷ road ∷ in-link ∷ 0 ∷ NONE ∷ FAR ∷ 0 ∷ []

unfoldable pub fresh_vertex : Map → ℕ → List ℕ
fresh_vertex m v = vertex_words (leaf_of m v) (place_in v (vertices_of m (leaf_of m v))) (first_road_from m v) (link (ends_at v) 0 m.roads)

-- the row of v in part p
unfoldable pub fresh_row : Map → ℕ → ℕ → List ℕ
fresh_row m p v = row_record empty_row v (part_below m p v) (row_below m p v)
