-- `least_in` is the least of the ways over the line's own words.
-- Assumes nothing.
use mathlib.Core.Path.{◌≡◌, sym, ap, ◌∙◌}
use Prim.Native.Nat.{◌+◌}
use lib.ListN.{length, length-append}
use Rattle.words.specs.Lists.{word}
use Rattle.far_sums.proofs.Least.{least_all}
use Rattle.row_lists.proofs.Pairs.{pair_turn, pair_end}
use Rattle.row_distances.specs.Distances.{way_over}
use Rattle.row_distances.proofs.Ways.{over_next, least_more}
use Rattle.row_distances.proofs.least_in.Goals as goal

pub loop-place-preserved : goal.loop-place-preserved
loop-place-preserved c =
    let line = c.args.line.now in
    let places = c.args.lists.now.places in
    let near = c.args.lists.now.near in
    let t = length c.loop-place.yielded in
    let turn = pair_turn places near c.args.lists.now.known c.loop-place.yielded c.into_iter-place-iterator.result c.loop-place.place-iterator c.next.new.self _ (cc) (cc) c.loop-place.yielded_by _ c.in-Some.is c.next.ensures.steps in
    let way_is : word line c.in-Some.field-0-0.now + c.in-Some.field-0-1.now ≡ way_over line places near t = (λ j. word line (turn.1 j) + turn.2 j) ∙ over_next line places near t in
    least_all _ (least_more _ c.loop-place.invariant way_is c.min-least.ensures) (sym (length-append c.loop-place.yielded _))

pub returns : goal.returns
returns c =
    let all = pair_end c.args.lists.now.places c.args.lists.now.near c.args.lists.now.known c.loop-place.yielded c.into_iter-place-iterator.result c.loop-place.place-iterator c.next.new.self _ (cc) (cc) c.loop-place.yielded_by (sym (ap length c.places.ensures.0) ∙ c.places.ensures.1) (sym (ap length c.near.ensures.0) ∙ c.near.ensures.1) c.in-None.is c.next.ensures.steps in
    least_all _ c.loop-place.invariant all
