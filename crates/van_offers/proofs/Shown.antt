-- What the words of a map and a fleet say of vertices, roads and vans.
-- Assumes nothing.
use mathlib.Core.Path.{◌≡◌, ap, ◌∙◌}
use mathlib.Core.List.{List}
use Prim.Native.Nat.{ℕ, ◌+◌, ◌*◌, ◌<◌}
use native.Mathlib.Omega.{arith}
use lib.ListN.{length}
use Rattle.words.specs.Limits.{vans}
use Rattle.words.specs.Lists.{word}
use Rattle.roads.specs.Map.{Map, part_count, road_count}
use Rattle.fleet.specs.State.{State}
use Rattle.image.specs.Places.{vertices_at, roads_at, vans_at}
use Rattle.image.specs.Image.{head_part, vertex_record, image}
use Rattle.image.specs.Records.{road_record, van_words}
use Rattle.image.proofs.Records.{head_word, vertex_word, road_word, van_word, vertices_start, roads_start, vans_start}
use Rattle.places.specs.Place.{counts_in, vertex_address, road_address, van_address}
use Rattle.van_offers.specs.Genuine.{Genuine}

module _ {m : Map} {s : State} {mem : List ℕ} (g : Genuine m s mem) where
  pub at_word : (i : ℕ) → word mem i ≡ word (image m s) i
  at_word i = ap (λ (l : List ℕ). word l i) g.is

  pub slots : length s.vans ≡ vans
  slots = g.good.slots

  pub vertices_read : word mem 2 ≡ m.vertices
  unfolding head_part
  vertices_read = at_word 2 ∙ head_word m s slots 2 (omega arith)

  pub roads_read : word mem 3 ≡ road_count m
  unfolding head_part
  roads_read = at_word 3 ∙ head_word m s slots 3 (omega arith)

  pub parts_read : word mem 4 ≡ part_count m
  unfolding head_part
  parts_read = at_word 4 ∙ head_word m s slots 4 (omega arith)

  pub vertex_place : (v : ℕ) → vertex_address (counts_in mem) v ≡ vertices_at m + 8 * v
  vertex_place v = omega (arith, parts_read, vertices_start m)

  pub road_place : (r : ℕ) → road_address (counts_in mem) r ≡ roads_at m + 4 * r
  road_place r = omega (arith, parts_read, vertices_read, roads_start m)

  pub van_place : (v : ℕ) → van_address (counts_in mem) v ≡ vans_at m + 8 * v
  van_place v = omega (arith, parts_read, vertices_read, roads_read, roads_start m, vans_start m)

  pub vertex_read : (v w : ℕ) → v < m.vertices → w < 8 → word mem (vertex_address (counts_in mem) v + w) ≡ word (vertex_record m s v) w
  vertex_read v w hv hw = ap (λ (k : ℕ). word mem (k + w)) (vertex_place v) ∙ at_word (vertices_at m + 8 * v + w) ∙ vertex_word m s slots v w hv hw

  pub road_read : (r w : ℕ) → r < road_count m → w < 4 → word mem (road_address (counts_in mem) r + w) ≡ word (road_record m r) w
  road_read r w hr hw = ap (λ (k : ℕ). word mem (k + w)) (road_place r) ∙ at_word (roads_at m + 4 * r + w) ∙ road_word m s slots r w hr hw

  pub van_read : (i w : ℕ) → i < vans → w < 8 → word mem (van_address (counts_in mem) i + w) ≡ word (van_words m s i) w
  van_read i w hi hw = ap (λ (k : ℕ). word mem (k + w)) (van_place i) ∙ at_word (vans_at m + 8 * i + w) ∙ van_word m s slots i w hi hw
