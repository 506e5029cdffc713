-- A van's distance to a vertex that it can reach is at most 4,096,000,000.
-- Assumes nothing.
use mathlib.Core.List.{Memᴰ}
use mathlib.Core.Logic.{◌≢◌}
use Prim.Native.Nat.{ℕ, ◌≤◌, ◌<◌}
use native.Mathlib.Omega.{arith}
use Rattle.words.specs.Limits.{FAR, most_van_distance}
use Rattle.words.proofs.Places.{entry_in}
use Rattle.roads.specs.Map.{Map, no_road, road_at}
use Rattle.roads.specs.Dist.{dist, IsDistance}
use Rattle.roads.proofs.Trail.{Net}
use Rattle.roads.proofs.Exact.{dist_exact}
use Rattle.fleet.specs.State.{Van, head_of, distance_of}
use Rattle.fleet.specs.Good.{GoodVan}

module _ (m : Map) (net : Net m) (count : ℕ) (v : Van) (good : GoodVan m count v) where
  on_road : Memᴰ (road_at m v.road) m.roads
  on_road = entry_in m.roads v.road no_road good.road

  -- it heads for a vertex of the map, and so its way on is over all paths of the map
  pub heads_for_vertex : head_of m v < m.vertices
  heads_for_vertex = net.to (road_at m v.road) on_road

  pub way_on : (x : ℕ) → IsDistance m (head_of m v) x (dist m (head_of m v) x)
  way_on x = dist_exact m net (head_of m v) x heads_for_vertex

  pub van_distance : (x : ℕ) → dist m (head_of m v) x ≢ FAR → distance_of m v x ≤ most_van_distance
  unfolding distance_of
  van_distance x reached = omega (arith, good.offset, net.light (road_at m v.road) on_road, (way_on x).most reached)
