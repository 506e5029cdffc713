-- `lift_road` is `lifted`.
-- Assumes nothing.
use Rattle.map_borders.proofs.Lifting.{lifted_by}
use Rattle.map_borders.proofs.lift_road.Goals as goal

pub returns : goal.returns
returns c =
    let a = c.args in
    lifted_by a.parents.now a.leaves.now a.body.now a.i a.lifts.now c.read-road.ensures c.word.ensures c.word-2.ensures c.common-x.ensures c.lower.ensures c.lower-2.ensures
