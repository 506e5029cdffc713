-- The counts of a map and the words of memory that it needs, as judging it gives them.
use Rattle.std.specs.Prelude.{◌≡◌, ℕ}
use Rattle.roads.specs.Map.{Map, part_count, road_count}
use Rattle.parts.specs.Size.{need}

pub record Counted (m : Map) (vertices roads parts used : ℕ) : Type 0 where
  pub vertex_count_lem : vertices ≡ m.vertices
  pub road_count_lem : roads ≡ road_count m
  pub part_count_lem : parts ≡ part_count m
  pub need_is : used ≡ need m
