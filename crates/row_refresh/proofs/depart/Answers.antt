-- `row_refresh::depart` is `changed`, and says `touches`.
use mathlib.Core.Path.{◌≡◌}
use mathlib.Core.Bool.{false}
use lib.ListN.{take}
use borrow.Author.Rules.{rules}
use native.Mathlib.Omega.{arith}
use Rattle.listing.proofs.Turns.{listed_count}
use Rattle.row_refresh.specs.Model.{showing, shows_in}
use Rattle.row_refresh.proofs.Chain.{showing_below, changed_none, changed_departed}
use Rattle.row_refresh.proofs.depart.Goals as goal

pub returns-then-n-eq0 : goal.returns-then-n-eq0
unfolding showing shows_in
returns-then-n-eq0 c =
    let e : take c.list_passing-n.result c.list_passing-n.new.numbers ≡ showing c.args.mem.now c.args.part.first c.args.part.size c.args.v false = c.list_passing-n.ensures.listed _ (λ i is lt post. search rules) in
    changed_none c.args.mem.now c.args.part.first c.args.part.table c.args.part.size c.args.v (take c.list_passing-n.result c.list_passing-n.new.numbers) false e (omega (arith, listed_count c.list_passing-n.result c.list_passing-n.new.numbers (omega arith), c.if-n-eq0.true))

pub renew_part-requires-clause-are_rows : goal.renew_part-requires-clause-are_rows
unfolding showing shows_in
renew_part-requires-clause-are_rows c =
    let e : take c.list_passing-n.result c.list_passing-n.new.numbers ≡ showing c.args.mem.now c.args.part.first c.args.part.size c.args.v false = c.list_passing-n.ensures.listed _ (λ i is lt post. search rules) in
    showing_below c.args.mem.now c.args.part.first c.args.part.size c.args.v false (take c.list_passing-n.result c.list_passing-n.new.numbers) e

pub returns : goal.returns
unfolding showing shows_in
returns c =
    let e : take c.list_passing-n.result c.list_passing-n.new.numbers ≡ showing c.args.mem.now c.args.part.first c.args.part.size c.args.v false = c.list_passing-n.ensures.listed _ (λ i is lt post. search rules) in
    changed_departed c.args.mem.now c.args.part.first c.args.part.table c.args.part.size c.args.v (take c.list_passing-n.result c.list_passing-n.new.numbers) e (omega (arith, listed_count c.list_passing-n.result c.list_passing-n.new.numbers (omega arith), c.if-n-eq0.false)) _ c.renew_part.ensures
