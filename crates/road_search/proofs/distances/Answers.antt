-- `road_search::distances` meets its contract. The loop's invariant: the labels and keys are those of a search under way.
-- The measure is what is left of the search. Assumes nothing.
use mathlib.Core.Path.{◌∙◌}
use borrow.Author.Rules.{rules}
use Rattle.roads.proofs.Exact.{dist_of_roads}
use Rattle.road_search.proofs.Fans.{laid_net, out_part, out_whole}
use Rattle.road_search.proofs.Turns.{begun, going_start, going_turn, going_less, going_end}
use Rattle.road_search.proofs.distances.Goals as goal

pub loop-u-init : goal.loop-u-init
unfolding begun
loop-u-init c =
    let given = c.requires in
    rw (c.wait_with.ensures, c.none-waiting.ensures)
    (going_start _ (laid_net given.laid_map) _ given.a_lt_n)

pub loop-u-smaller : goal.loop-u-smaller
loop-u-smaller c =
    let given = c.requires in
    rw (c.turn.ensures.labels_after, c.turn.ensures.keys_after)
    (going_less _ (laid_net given.laid_map) _ given.a_lt_n c.in-Some.u _ (out_part given.laid_map c.in-Some.u (search rules)) (search rules)
    c.in-Some.ensures.1 c.loop-u.invariant)

pub loop-u-preserved : goal.loop-u-preserved
loop-u-preserved c =
    let given = c.requires in
    rw (c.turn.ensures.labels_after, c.turn.ensures.keys_after)
    (going_turn _ (laid_net given.laid_map) _ given.a_lt_n c.in-Some.u _ (out_part given.laid_map c.in-Some.u (search rules))
    (out_whole given.laid_map c.in-Some.u (search rules)) c.loop-u.invariant)

pub returns : goal.returns
returns c m same-vertices same-roads v below =
    let given = c.requires in
    going_end _ (laid_net given.laid_map) _ given.a_lt_n c.in_default.ensures c.loop-u.invariant v below
    ∙ dist_of_roads _ m same-vertices same-roads _ v
