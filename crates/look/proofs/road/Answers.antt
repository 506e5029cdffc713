-- `look::road` has the outcome of a lookup: unopened, or what the words used say.
-- Assumes nothing.
use Rattle.std.proofs.lemmas.Result.{err_from_is_err_and}
use Rattle.look.proofs.Gate.{looked_unopened, looked_inside}
use Rattle.look.proofs.road.Goals as goal

pub returns-in_err-used : goal.returns-in_err-used
returns-in_err-used c =
    let p = err_from_is_err_and c.from_residual.result c.from_residual.ensures.1 in
    rw (p.1, p.2) (looked_unopened _ _ _ _ c.in_err-used.ensures.used)

pub returns : goal.returns
returns c = looked_inside _ _ _ _ c.road_in.result c.in_ok-used.ensures.used c.road_in.ensures
