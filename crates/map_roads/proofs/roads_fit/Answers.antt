-- `roads_fit` tests each road.
-- Assumes nothing.
use mathlib.Core.Path.{refl}
use Rattle.std.proofs.Common.{rules, tests}
use Rattle.map_bytes.proofs.Each.{all_is}
use Rattle.map_roads.specs.Road.{road_test}
use Rattle.map_roads.proofs.roads_fit.Goals as goal

pub returns : goal.returns
returns c = all_is (road_test c.args.body.now c.args.vertices) c.args.roads c.all.ensures.ran refl (λ x b q k. search (rules, tests))
