-- `near_vans` turns until its list is the answer, or gives up.
-- Assumes nothing.
use mathlib.Core.Path.{refl, ◌∙◌}
use Rattle.best_list.specs.Best.{Best, nothing_listed}
use Rattle.near_vans.proofs.Calls.{begun, none_waits, all_farther, goes_on_lem, none_offered, some_offered}
use Rattle.near_vans.proofs.near_vans.Goals as goal
use Rattle.near_vans.proofs.near_vans.Goals.{then-link-ne0, else-link-ne0}

pub loop-init : goal.loop-init
loop-init c = rw c.new-list.ensures (refl, begun _ _ _ c.requires.0 (nothing_listed c.args.k).rest c.new-front.ensures c.in_ok-meet.ensures)

pub returns-in_default : goal.returns-in_default
returns-in_default c = (c.loop.invariant.0, none_waits _ _ _ c.requires.0 c.loop.list c.loop.invariant.1 c.in_default.ensures)

pub returns-then-limit-near : goal.returns-then-limit-near
returns-then-limit-near c =
    let l = c.loop.invariant in
    let (least, near) = c.in-Some.ensures in
    (l.0, all_farther _ _ _ c.requires.0 c.loop.list l.1 least near (rw (← l.0) (c.limit.ensures _)) c.if-limit-near.true)

pub loop-preserved : goal.loop-preserved
loop-preserved c =
    let l = c.loop.invariant in
    let (least, near) = c.in-Some.ensures in
    let goes_on = λ (list' : Best). goes_on_lem _ _ _ c.requires.0 c.loop.list l.1 least near list' c.take-v.ensures c.counts_in-counts.ensures c.vertex_word-link.ensures c.vertex_word-first.ensures in
    elim c.if-link-ne0.branch [
      | then-link-ne0 w ↦ rw w.list-is (
        w.offer_vans.ensures.k ∙ l.0,
        goes_on w.offer_vans.new.list (some_offered c.args.mem.now c.in-Some.near c.args.k c.vertex_word-link.result c.loop.list w.offer_vans.new.list c.counts_in-counts.ensures (rw (← l.0) w.offer_vans.ensures.list)) c.in_ok-meet_all.ensures,
      )
      | else-link-ne0 w ↦ rw w.list-is (l.0, goes_on c.loop.list (none_offered _ _ _ _ _ _ w.if-link-ne0.false) c.in_ok-meet_all.ensures)
    ]
