-- The record of one road and of one van, by its number: what stands in the sections of roads and vans, record by record.
use Rattle.std.specs.Prelude.{ℕ, suc, List, [], ◌∷◌, get_or, drop}
use Rattle.words.specs.Lists.{link}
use Rattle.roads.specs.Map.{Map, road_at}
use Rattle.parts.specs.Size.{row_vertices}
use Rattle.fleet.specs.State.{State, slot_of}
use Rattle.image.specs.Image.{ends_at, van_record, next_van}

-- the vertex of row i of part p
abbrev pub row_vertex : Map → ℕ → ℕ → ℕ
row_vertex m p i = get_or (row_vertices m p) i 0

-- from, to, weight, link to the next road into the same vertex
unfoldable pub road_record : Map → ℕ → List ℕ
road_record m i = (road_at m i).from ∷ (road_at m i).to ∷ (road_at m i).weight ∷ link (ends_at (road_at m i).to) (suc i) (drop (suc i) m.roads) ∷ []

-- the record of van i, with the link to the next free van for the same vertex
unfoldable pub van_words : Map → State → ℕ → List ℕ
van_words m s i = van_record (slot_of s i) (next_van m (slot_of s i) (suc i) (drop (suc i) s.vans))
