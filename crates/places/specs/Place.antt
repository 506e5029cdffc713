-- Where the records of vertices, roads and vans stand in a memory with these counts. What the image says of a sound map is the same (`proofs/`).
use Rattle.std.specs.Prelude.{ℕ, ◌+◌, ◌*◌, List}
use Rattle.words.specs.Lists.{word}
use Rattle.layout.specs.Layout.{vertices_in_head, roads_in_head, parts_in_head, words_in_vertex, words_in_road, words_in_van, vertices_from, roads_from, vans_from}
use Rattle.counts.specs.declared.Counts.{Counts}

abbrev pub counts_in : List ℕ → Counts
counts_in mem = record { vertices = word mem vertices_in_head; roads = word mem roads_in_head; parts = word mem parts_in_head }

abbrev pub vertex_address : Counts → ℕ → ℕ
vertex_address counts vertex = vertices_from counts.parts + words_in_vertex * vertex

abbrev pub road_address : Counts → ℕ → ℕ
road_address counts road = roads_from counts.parts counts.vertices + words_in_road * road

abbrev pub van_address : Counts → ℕ → ℕ
van_address counts van = vans_from counts.parts counts.vertices counts.roads + words_in_van * van
