-- `write_rows` writes the rows of each vertex after those of the vertices below it.
-- Assumes nothing.
use Rattle.std.proofs.Common.{refl}
use Rattle.opening_rows.proofs.Step.{rows_none, standing, next_vertex}
use Rattle.opening_rows.proofs.write_rows.Goals as goal

pub loop-v-init : goal.loop-v-init
loop-v-init c =
    let args = c.args in
    λ m ready. rows_none m args.parents.now args.leaves.now args.lifts.now args.vertices args.base args.cursors.now args.mem.now ready

pub loop-v-preserved : goal.loop-v-preserved
loop-v-preserved c =
    let args = c.args in
    let loop = c.loop-v in
    λ m ready.
    next_vertex m loop.v args.mem.now _ _
    (c.climb.ensures m args.mem.now (standing m args.parents.now args.leaves.now args.lifts.now args.vertices args.base args.cursors.now args.mem.now ready _ c.loop-v-test.true c.word.ensures c.word-in-loop-v.ensures
    refl) (loop.invariant m ready))
