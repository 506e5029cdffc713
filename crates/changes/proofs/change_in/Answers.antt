-- `changes::change_in` does what the verdict says: it refuses, or the van stands anew.
-- Assumes nothing.
use Rattle.std.proofs.lemmas.Result.{err_from_is_err_and}
use Rattle.changes.proofs.Finish.{refused_done, stands_done}
use Rattle.changes.proofs.change_in.Goals as goal

pub returns-in_err-new : goal.returns-in_err-new
returns-in_err-new c =
    let p = err_from_is_err_and c.from_residual.result c.from_residual.ensures.1 in
    rw (p.1, p.2) (refused_done c.args.mem.now c.args.change _ _ _ (record { counts_is = c.counts_in-counts.ensures; van_is = c.van-van.ensures; old_is = c.van_in-old.ensures }) _ c.in_err-new.ensures)

pub returns : goal.returns
returns c =
    stands_done c.args.mem.now c.args.change _ _ _ (record { counts_is = c.counts_in-counts.ensures; van_is = c.van-van.ensures; old_is = c.van_in-old.ensures }) _ c.in_ok-new.ensures _ _ c.settle.ensures.answer c.settle.ensures.words
