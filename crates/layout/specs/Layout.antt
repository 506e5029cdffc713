-- Where the words of a memory stand: how many words a record has, which of them says what, and where each section starts. The code names the same
-- numbers (`src/lib.rt`); what stands there is the image's (`image/specs/Image.antt`).
use Rattle.std.specs.Prelude.{ℕ, ◌+◌, ◌*◌, List}
use Rattle.words.specs.Limits.{head_words, vans}
use Rattle.words.specs.Lists.{word}

-- The head.

abbrev pub mark_in_head : ℕ
mark_in_head = 0

abbrev pub used_in_head : ℕ
used_in_head = 1

abbrev pub vertices_in_head : ℕ
vertices_in_head = 2

abbrev pub roads_in_head : ℕ
roads_in_head = 3

abbrev pub parts_in_head : ℕ
parts_in_head = 4

abbrev pub count_in_head : ℕ
count_in_head = 5

-- A part.

abbrev pub words_in_part : ℕ
words_in_part = 8

abbrev pub parent_in_part : ℕ
parent_in_part = 0

-- how many rows
abbrev pub size_in_part : ℕ
size_in_part = 1

-- where its first row stands
abbrev pub rows_in_part : ℕ
rows_in_part = 2

abbrev pub table_in_part : ℕ
table_in_part = 3

-- its first child, 0 for a leaf
abbrev pub child_in_part : ℕ
child_in_part = 4

-- the next part with the same parent, 0 for the last
abbrev pub sibling_in_part : ℕ
sibling_in_part = 5

-- A vertex.

abbrev pub words_in_vertex : ℕ
words_in_vertex = 8

abbrev pub leaf_in_vertex : ℕ
leaf_in_vertex = 0

-- its place among the vertices of its leaf
abbrev pub place_in_vertex : ℕ
place_in_vertex = 1

-- its first road out
abbrev pub roads_in_vertex : ℕ
roads_in_vertex = 2

-- link to the first road that ends there
abbrev pub into_in_vertex : ℕ
into_in_vertex = 3

-- link to the first free van that heads for it
abbrev pub vans_in_vertex : ℕ
vans_in_vertex = 4

-- what it shows of itself: two words, as the first two of a row
abbrev pub itself_in_vertex : ℕ
itself_in_vertex = 5

-- A road.

abbrev pub words_in_road : ℕ
words_in_road = 4

abbrev pub from_in_road : ℕ
from_in_road = 0

abbrev pub to_in_road : ℕ
to_in_road = 1

abbrev pub weight_in_road : ℕ
weight_in_road = 2

-- link to the next road that ends at the same vertex
abbrev pub next_in_road : ℕ
next_in_road = 3

-- A van.

abbrev pub words_in_van : ℕ
words_in_van = 8

abbrev pub state_in_van : ℕ
state_in_van = 0

abbrev pub road_in_van : ℕ
road_in_van = 1

abbrev pub offset_in_van : ℕ
offset_in_van = 2

abbrev pub stamp_in_van : ℕ
stamp_in_van = 3

-- link to the next free van that heads for the same vertex
abbrev pub next_in_van : ℕ
next_in_van = 4

-- A row.

abbrev pub words_in_row : ℕ
words_in_row = 4

-- the nearest active vertex
abbrev pub vertex_in_row : ℕ
vertex_in_row = 0

abbrev pub distance_in_row : ℕ
distance_in_row = 1

-- its own vertex + child_in_row × the child that holds it
abbrev pub own_in_row : ℕ
own_in_row = 2

abbrev pub child_in_row : ℕ
child_in_row = 65536

-- where the same is shown one part further down
abbrev pub below_in_row : ℕ
below_in_row = 3

-- The sections up to the tables, by how many parts, vertices and roads there are: head, parts, vertices, roads, vans.

abbrev pub parts_at : ℕ
parts_at = head_words

abbrev pub vertices_from : ℕ → ℕ
vertices_from parts = parts_at + words_in_part * parts

abbrev pub roads_from : ℕ → ℕ → ℕ
roads_from parts vertices = vertices_from parts + words_in_vertex * vertices

abbrev pub vans_from : ℕ → ℕ → ℕ → ℕ
vans_from parts vertices roads = roads_from parts vertices + words_in_road * roads

abbrev pub tables_from : ℕ → ℕ → ℕ → ℕ
tables_from parts vertices roads = vans_from parts vertices roads + words_in_van * vans

-- Records whose place is the same in every memory, or follows from where their section starts.

abbrev pub part_at : ℕ → ℕ
part_at p = parts_at + words_in_part * p

-- word w of part p
abbrev pub part_word : List ℕ → ℕ → ℕ → ℕ
part_word mem p w = word mem (part_at p + w)

-- word w of row i of the rows that start at `first`
abbrev pub row_word : List ℕ → ℕ → ℕ → ℕ → ℕ
row_word mem first i w = word mem (first + words_in_row * i + w)
