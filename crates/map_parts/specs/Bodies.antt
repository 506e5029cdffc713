-- The counts of record 1, and where the bodies of the records stand.
use Rattle.std.specs.Prelude.{ℕ, ◌+◌, ◌≤◌}
use Rattle.words.specs.Limits.{most_vertices, most_roads, most_parts}
use Rattle.maps.specs.Bytes.{Counts, start2, start3, start4}

abbrev pub the_counts : ℕ → ℕ → ℕ → Counts
the_counts v r p = record { vertices = v; roads = r; parts = p }

abbrev pub parents_body : ℕ
parents_body = start2 + 6

abbrev pub leaves_body : Counts → ℕ
leaves_body c = start3 c + 6

abbrev pub roads_body : Counts → ℕ
roads_body c = start4 c + 6

-- the counts are within their limits
pub record Limited (c : Counts) : Type 0 where
  pub vertices : c.vertices ≤ most_vertices
  pub roads : c.roads ≤ most_roads
  pub some : 1 ≤ c.parts
  pub parts : c.parts ≤ most_parts
