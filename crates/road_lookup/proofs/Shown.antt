-- The words of a map and a fleet have the counts and the roads of the map.
-- Assumes nothing.
use mathlib.Core.Path.{◌≡◌, refl, ap, ◌∙◌}
use Prim.Native.Nat.{ℕ, ◌+◌, ◌*◌}
use native.Mathlib.Omega.{arith}
use lib.ListN.{length}
use Rattle.words.specs.Limits.{vans}
use Rattle.words.specs.Lists.{word}
use Rattle.layout.specs.Layout.{words_in_vertex, roads_in_vertex, words_in_road, to_in_road}
use Rattle.roads.specs.Map.{Map, part_count, road_count}
use Rattle.counts.specs.declared.Counts.{Counts}
use Rattle.places.specs.Place.{counts_in, vertex_address, road_address}
use Rattle.fleet.specs.State.{State}
use Rattle.image.specs.Places.{vertices_at, roads_at}
use Rattle.image.specs.Image.{head_part, vertex_record, image}
use Rattle.image.specs.Records.{road_record}
use Rattle.image.proofs.Records.{vertices_start, roads_start, head_word, vertex_word, road_word}
use Rattle.road_lookup.specs.Lookup.{RoadsKnown}

abbrev pub counts_of : Map → Counts
counts_of m = record { vertices = m.vertices; roads = road_count m; parts = part_count m }

-- where records stand, by the counts and by the map
module _ (m : Map) where
  pub vertex_place : (v w : ℕ) → vertex_address (counts_of m) v + w ≡ vertices_at m + words_in_vertex * v + w
  vertex_place v w = omega (arith, vertices_start m)

  pub road_place : (i w : ℕ) → road_address (counts_of m) i + w ≡ roads_at m + words_in_road * i + w
  road_place i w = omega (arith, roads_start m)

module _ (m : Map) (s : State) (slots : length s.vans ≡ vans) where
  pub counts_read : counts_in (image m s) ≡ counts_of m
  unfolding head_part
  counts_read = same (head_word m s slots 2 (omega arith)) (head_word m s slots 3 (omega arith)) (head_word m s slots 4 (omega arith))
    where
      same : {a b c d e f : ℕ} → a ≡ b → c ≡ d → e ≡ f → ◌≡◌ {A = Counts} (record { vertices = a; roads = c; parts = e }) (record { vertices = b; roads = d; parts = f })
      same p q r i = record { vertices = p i; roads = q i; parts = r i }

  pub image_roads : RoadsKnown m (counts_of m) (image m s)
  unfolding vertex_record road_record
  image_roads =
      record {
        vertices = refl;
        roads = refl;
        first = λ v h. ap (word (image m s)) (vertex_place m v roads_in_vertex) ∙ vertex_word m s slots v roads_in_vertex h (omega arith);
        end = λ i h. ap (word (image m s)) (road_place m i to_in_road) ∙ road_word m s slots i to_in_road h (omega arith);
      }
