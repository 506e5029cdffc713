-- `skip` finds the first road that does not start below v.
-- Assumes nothing.
use Rattle.std.proofs.Common.{◌<◌, ◌≤◌, arith, rules, tests}
use Rattle.std.proofs.lemmas.Iterator.{first_from_Range}
use Rattle.maps.specs.Bytes.{road_shown}
use Rattle.opening_vertices.proofs.Step.{skipped_by}
use Rattle.opening_vertices.proofs.skip.Goals as goal

pub returns : goal.returns
returns c =
    let args = c.args in
    skipped_by args.body.now args.roads args.first args.v _ _ c.requires
    (first_from_Range _ _ _ _ (λ r. args.v ≤ (road_shown args.body.now r).from) (λ r. (road_shown args.body.now r).from < args.v) c.find.ensures.ran (λ x q k. grind (arith, tests)) (λ x q k. (search rules, grind (arith, tests))))
    c.unwrap_or.ensures
