-- `look` lists the rows.
-- Assumes nothing.
use mathlib.Core.Path.{refl}
use Prim.Native.Nat.{◌<◌}
use native.Mathlib.Omega.{arith}
use Rattle.row_lists.proofs.Rows.{near_read, row_read}
use Rattle.row_lists.proofs.Looking.{picks_row, looking_more, looking_all}
use borrow.Author.Rules.{rules}
use Rattle.row_lists.proofs.look.Goals as goal

pub loop-i-preserved : goal.loop-i-preserved
loop-i-preserved g c =
    let mem = c.args.mem.now in
    let first = c.args.part.first in
    let i = c.loop-i.i in
    let here = c.loop-i-test.true in
    let read = λ (w : _) (h : w < 4). row_read mem first c.args.part.size c.rows_of-rows.ensures i w here h in
    let near_is = near_read mem first c.args.dx.now i (read 2 (omega arith)) c.word-d.ensures in (
      omega (arith, c.more-known.ensures.1),
      omega (arith, c.more-count.ensures.1),
      λ test picks.
          let is = picks_row mem first c.args.dx.now (goal.F-post g c.args.is_asked) picks here near_is (read 1 (omega arith)) (read 3 (omega arith)) c.is_asked-is.ensures in
          looking_more (c.loop-i.invariant.2 test picks) here (omega arith) (search rules) (search rules) (search rules) near_is is refl refl refl c.more-known.ensures c.more-count.ensures,
    )

pub returns : goal.returns
returns g c = λ test picks. looking_all (c.loop-i.invariant.2 test picks) c.loop-i.auto.i-end c.loop-i-test.false
