-- The limit of the entries.
-- Assumes nothing.
use mathlib.Core.Path.{sym, ap, ◌∙◌}
use Prim.Native.Nat.{◌-◌}
use native.Mathlib.Omega.{arith}
use lib.ListN.{length-take}
use Rattle.std.proofs.lemmas.List.{get_or-take}
use Rattle.best_list.specs.declared.Offer.{Offer}
use Rattle.best_list.proofs.Pass.{limit_room, limit_full}
use Rattle.best_list.proofs.BestList.limit.Goals as goal

pub returns-then-self : goal.returns-then-self
returns-then-self c = λ stampOf. rw (← c.self.view_is) (sym (limit_room stampOf _ _ (omega (arith, c.if-self.true, length-take c.self.inside.len c.self.inside.offers))))

pub returns-else-self : goal.returns-else-self
returns-else-self c =
    let h = c.self.invariant in
    λ stampOf.
    rw (← c.self.view_is)
    (ap (λ (o : Offer). o.far) (sym (get_or-take c.self.inside.len c.self.inside.offers (c.self.inside.k - 1) _ (omega (arith, c.if-self.false, h.some))))
    ∙ sym (limit_full stampOf _ _ (omega (arith, c.if-self.false, h.room, h.most, h.all, length-take c.self.inside.len c.self.inside.offers)) h.some))
