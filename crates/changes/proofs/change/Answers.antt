-- `changes::change` has the outcome of a change: unopened, out of range, or done within the words used.
-- Assumes nothing.
use mathlib.Core.Path.{sym, ◌∙◌}
use Rattle.std.proofs.lemmas.Result.{err_from_is_err_and}
use Rattle.changes.proofs.Gate.{changed_unopened, changed_range, changed_inside}
use Rattle.changes.proofs.change.Goals as goal

pub returns-in_err-used : goal.returns-in_err-used
returns-in_err-used c =
    let p = err_from_is_err_and c.from_residual.result c.from_residual.ensures.1 in
    rw (p.1, p.2) (changed_unopened _ _ _ c.in_err-used.ensures.used)

pub returns-then-not-in_range : goal.returns-then-not-in_range
returns-then-not-in_range c = changed_range _ _ _ c.in_ok-used.ensures.used (sym c.in_range.ensures ∙ c.if-not-in_range.true)

pub returns : goal.returns
returns c = changed_inside _ _ _ _ _ c.in_ok-used.ensures.used (sym c.in_range.ensures ∙ c.if-not-in_range.false) c.change_in.auto.mem c.change_in.ensures
