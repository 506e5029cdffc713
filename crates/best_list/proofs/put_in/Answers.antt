-- Each turn of the loop moves an offer on, and at the place of the new one it is put in.
-- Assumes nothing.
use mathlib.Core.Path.{◌≡◌, sym, subst, ◌∙◌}
use Prim.Native.Nat.{◌+◌, ◌-◌, ◌≤◌, ◌<◌}
use native.Mathlib.Omega.{arith}
use lib.ListN.{length, take, length-take, length-set}
use Rattle.best_list.proofs.Pass.{Moving, move_none, move_more, stop, put_order, put_list}
use Rattle.best_list.proofs.put_in.Goals as goal

pub loop-i-init : goal.loop-i-init
loop-i-init c = (c.told-offers, move_none c.args.offers.now c.args.end (omega (arith, c.told-offers, c.requires.room)) c.args.offer)

pub loop-i-preserved : goal.loop-i-preserved
loop-i-preserved c =
    let l = c.loop-i.invariant in
    let short : length (take c.args.end c.args.offers.now) ≤ c.args.end = omega (arith, length-take c.args.end c.args.offers.now) in
    (length-set _ _ _ ∙ l.0, move_more _ _ c.requires.order short l.1 (omega (arith, c.loop-i-test.true)) (λ stampOf. sym (c.comes_before.ensures stampOf) ∙ c.if-not-comes_before.false))

pub returns-then-not-comes_before-clause-order : goal.returns-then-not-comes_before-clause-order
returns-then-not-comes_before-clause-order c =
    let l = c.loop-i.invariant in
    let short : length (take c.args.end c.args.offers.now) ≤ c.args.end = omega (arith, length-take c.args.end c.args.offers.now) in
    let within : 0 < c.loop-i.i = omega (arith, c.loop-i-test.true) in
    let at : c.loop-i.i ≡ c.loop-i.i - 1 + 1 = omega (arith, within) in
    put_order _ _ c.requires.order short (subst (Moving c.args.offer (take c.args.end c.args.offers.now) (take (c.args.end + 1) c.loop-i.offers)) at l.1)
    (stop _ _ c.requires.order short l.1 within (λ stampOf. sym (c.comes_before.ensures stampOf) ∙ c.if-not-comes_before.true))

pub returns-then-not-comes_before-clause-list : goal.returns-then-not-comes_before-clause-list
returns-then-not-comes_before-clause-list c =
    let l = c.loop-i.invariant in
    let short : length (take c.args.end c.args.offers.now) ≤ c.args.end = omega (arith, length-take c.args.end c.args.offers.now) in
    let within : 0 < c.loop-i.i = omega (arith, c.loop-i-test.true) in
    let at : c.loop-i.i ≡ c.loop-i.i - 1 + 1 = omega (arith, within) in
    put_list _ _ c.requires.order short (subst (Moving c.args.offer (take c.args.end c.args.offers.now) (take (c.args.end + 1) c.loop-i.offers)) at l.1)
    (stop _ _ c.requires.order short l.1 within (λ stampOf. sym (c.comes_before.ensures stampOf) ∙ c.if-not-comes_before.true))

pub returns-clause-order : goal.returns-clause-order
returns-clause-order c =
    let l = c.loop-i.invariant in
    let short : length (take c.args.end c.args.offers.now) ≤ c.args.end = omega (arith, length-take c.args.end c.args.offers.now) in
    let at : c.loop-i.i ≡ 0 = omega (arith, c.loop-i-test.false) in
    put_order _ _ c.requires.order short (subst (Moving c.args.offer (take c.args.end c.args.offers.now) (take (c.args.end + 1) c.loop-i.offers)) at l.1)
    (record { earlier = λ j below. absurd (omega (arith, below)) })

pub returns-clause-list : goal.returns-clause-list
returns-clause-list c =
    let l = c.loop-i.invariant in
    let short : length (take c.args.end c.args.offers.now) ≤ c.args.end = omega (arith, length-take c.args.end c.args.offers.now) in
    let at : c.loop-i.i ≡ 0 = omega (arith, c.loop-i-test.false) in
    put_list _ _ c.requires.order short (subst (Moving c.args.offer (take c.args.end c.args.offers.now) (take (c.args.end + 1) c.loop-i.offers)) at l.1)
    (record { earlier = λ j below. absurd (omega (arith, below)) })
