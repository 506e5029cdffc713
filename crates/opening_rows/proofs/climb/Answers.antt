-- `climb` writes the rows of one vertex, from its leaf upward.
-- Assumes nothing.
use Rattle.opening_rows.proofs.Step.{climbing_start, climbing_more, climbing_end}
use Rattle.opening_rows.proofs.climb.Goals as goal

pub loop-init : goal.loop-init
loop-init c =
    let args = c.args in
    λ m start st s. climbing_start m args.parents.now args.vertex st start args.cursors.now args.mem.now s

pub returns-then-part-vertex : goal.returns-then-part-vertex
returns-then-part-vertex c =
    let args = c.args in
    let loop = c.loop in
    λ m start st s. climbing_end m args.parents.now args.vertex st loop.part loop.child loop.below loop.counter _ start loop.cursors _ loop.mem _ (loop.invariant m start st s) c.write_row-at.ensures c.if-part-vertex.true

pub loop-preserved : goal.loop-preserved
loop-preserved c =
    let args = c.args in
    let loop = c.loop in
    λ m start st s. climbing_more m args.parents.now args.vertex st loop.part loop.child loop.below loop.counter _ start loop.cursors _ loop.mem _ (loop.invariant m start st s) c.write_row-at.ensures _ c.if-part-vertex.false c.word-part.ensures
