-- A lookup after a run tells of the road by the roads of the map.
-- Assumes nothing.
use mathlib.Core.Path.{subst⁻¹}
use Rattle.fleet.specs.Look.{Tells}
use Rattle.fleet.proofs.Look.{look_tells}
use Rattle.calls.specs.Promise.{RoadOfRun}
use Rattle.calls.proofs.Head.{lent_shown}
use Rattle.calls.proofs.Run.{memory_of_run}

pub road_of_run : RoadOfRun
road_of_run m start es mem run lent u v answer head out =
    subst⁻¹ (Tells m u v) (out.genuine m _ (lent_shown (memory_of_run m start es mem run) lent head)) (look_tells m _ u v)
