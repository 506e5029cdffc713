-- A turn keeps the place of the least label so far.
-- Assumes nothing.
use mathlib.Core.Path.{sym, ap, ◌∙◌}
use native.Mathlib.Omega.{arith}
use Rattle.words.specs.Lists.{word}
use Rattle.near_vans.specs.Around.{Waits}
use Rattle.near_vans.proofs.Places.{label_at, least_less, least_same}
use Rattle.near_vans.proofs.front.Front.least.Goals as goal
use Rattle.near_vans.proofs.front.Front.least.Goals.{then-label-low, else-label-low}

pub loop-i-preserved : goal.loop-i-preserved
loop-i-preserved c =
    let l = c.loop-i.invariant in
    let label = ap (λ (w : Waits). word w.labels c.loop-i.i) (sym c.self.view_is) ∙ label_at c.self.inside.waiting c.loop-i.i in
    let n = ap (λ (w : Waits). w.n) c.self.view_is in
    elim c.if-label-low.branch [
      | then-label-low w ↦ rw (w.place-is, w.low-is) (omega arith, omega (arith, n, c.loop-i-test.true), sym label, least_less _ _ _ _ l.3 l.2 (omega (arith, label, w.if-label-low.true)))
      | else-label-low w ↦ rw (w.place-is, w.low-is) (omega arith, omega (arith, n, c.loop-i-test.true), l.2, least_same _ _ _ _ l.3 l.2 (omega (arith, label, w.if-label-low.false)))
    ]
