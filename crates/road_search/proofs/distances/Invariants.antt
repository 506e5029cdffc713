use Rattle.road_search.proofs.Fans.{shown_map}
use Rattle.road_search.proofs.Turns.{Going, potential}
use Rattle.road_search.proofs.distances.Given as goal

abbrev pub invariant-loop-u : goal.invariant-loop-u
invariant-loop-u l = Going (shown_map l.mem l.n l.roads_at l.count) l.a l.labels l.waiting

abbrev pub decreases-loop-u : goal.decreases-loop-u
decreases-loop-u l = potential l.labels l.waiting
