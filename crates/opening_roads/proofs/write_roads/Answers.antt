-- `write_roads` writes each road in front of those after it.
-- Assumes nothing.
use Rattle.std.proofs.Common.{◌-◌, arith}
use Rattle.opening_roads.proofs.Step.{roads_more}
use Rattle.opening_roads.proofs.write_roads.Goals as goal

pub loop-i-preserved : goal.loop-i-preserved
loop-i-preserved c =
    let args = c.args in
    let loop = c.loop-i in
    λ m ready.
    roads_more m args.body.now args.roads args.base args.ins.now args.mem.now ready (loop.i - 1) loop.i loop.ins _ loop.mem _ (omega arith) (omega arith) loop.auto.ins (loop.invariant m ready)
    c.write_road.ensures.0 c.write_road.ensures.1
