-- `row_refresh::refresh` is `refreshed`, and says `touched`.
use mathlib.Core.Bool.{true, false}
use Rattle.row_refresh.proofs.Chain.{refreshed_within, refreshed_out}
use Rattle.row_refresh.proofs.refresh.Goals as goal

pub returns-in_default : goal.returns-in_default
returns-in_default c = refreshed_out c.args.mem.now c.args.p c.args.v c.args.arrives c.in_default.ensures

pub returns-then-arrives : goal.returns-then-arrives
returns-then-arrives c = refreshed_within c.args.mem.now c.args.p c.args.v c.args.arrives c.in-Some.ensures true c.if-arrives.true _ _ c.arrive.ensures

pub returns-else-arrives : goal.returns-else-arrives
returns-else-arrives c = refreshed_within c.args.mem.now c.args.p c.args.v c.args.arrives c.in-Some.ensures false c.if-arrives.false _ _ c.depart.ensures
