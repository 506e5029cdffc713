-- `offer_vans` offers the vans of the list, one after the other: what is left from here gives what was left at the start.
-- Assumes nothing.
use mathlib.Core.Path.{sym, subst, ◌∙◌}
use Prim.Native.Nat.{ℕ, ◌-◌, ◌<◌}
use native.Mathlib.Omega.{arith}
use Rattle.van_offers.proofs.Steps.{vans_beyond, vans_end, vans_out, vans_again}
use Rattle.van_offers.proofs.offer_vans.Goals as goal

pub returns-then-limit-near-clause-list : goal.returns-then-limit-near-clause-list
returns-then-limit-near-clause-list c =
    sym (vans_beyond _ _ _ _ _ 1024 _ (omega (arith, c.ranges.near.fits)) (subst (λ (n : ℕ). n < c.args.near) (c.limit.ensures _) c.if-limit-near.true))

pub returns-in_default-clause-list : goal.returns-in_default-clause-list
returns-in_default-clause-list c = vans_end _ _ _ _ _ (1024 - c.loop.counter) _ (omega (arith, c.in_default.ensures)) c.loop.invariant.1

pub loop-preserved : goal.loop-preserved
loop-preserved c =
    let l = c.loop.invariant in (
      c.offer.ensures.k ∙ l.0,
      vans_again _ _ _ _ _ (1024 - c.loop.counter) _ _ _ _ _ _ (omega (arith, c.loop-test.true)) c.in-Some.ensures.0 c.in-Some.ensures.1 c.van_word.ensures c.far_sum-far.ensures c.van_word-next.ensures
          (rw (← l.0) (c.offer.ensures.list _)) l.1,
    )

pub returns-clause-list : goal.returns-clause-list
returns-clause-list c = vans_out _ _ _ _ _ (1024 - c.loop.counter) _ (omega (arith, c.loop-test.false)) c.loop.invariant.1
