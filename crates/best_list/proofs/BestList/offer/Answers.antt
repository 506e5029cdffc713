-- The list is as it was where the van is beyond the limit, or comes before none of a full list; else the offer is put in, and of a full list the last one makes room.
-- Assumes nothing.
use Prim.Native.Nat.{ℕ, suc, ◌+◌, ◌-◌, ◌≤◌, ◌<◌}
use mathlib.Core.List.{List}
use mathlib.Core.Path.{◌≡◌, sym, ap, ◌∙◌, subst}
use native.Mathlib.Omega.{arith}
use lib.ListN.{length, take, length-take}
use lib.Seq.{take-take, take_all}
use Rattle.std.specs.Prelude.{map}
use Rattle.std.proofs.lemmas.List.{get_or-take, length-map}
use Rattle.best_list.specs.declared.Offer.{Offer}
use Rattle.best_list.specs.Best.{Best, listing, entries, pass, InOrder, BeforeNone}
use Rattle.best_list.proofs.Pass.{in_back, from_last, order_take, last_leaves, full_stays, offer_beyond, offer_within}
use Rattle.best_list.proofs.BestList.offer.Goals as goal
use Rattle.best_list.proofs.BestList.offer.Goals.{then-self-end+else-not-comes_before, else-self-end}

pub returns-then-limit-offer-clause-list : goal.returns-then-limit-offer-clause-list
returns-then-limit-offer-clause-list c =
    λ stampOf. sym (offer_beyond _ _ _ (subst (λ (n : ℕ). n < c.args.offer.far) (c.limit.ensures stampOf) c.if-limit-offer.true))

pub returns-then-not-comes_before-clause-list : goal.returns-then-not-comes_before-clause-list
returns-then-not-comes_before-clause-list c =
    let h = c.self.inside in
    let s = c.self.invariant in
    let long : length (take h.len h.offers) ≡ h.len = omega (arith, s.room, s.most, s.all, length-take h.len h.offers) in
    let all : h.len - 1 + 1 ≡ h.k = omega (arith, s.some, s.room, c.if-self-end.true) in
    λ stampOf.
    ap (entries stampOf) (sym c.self.view_is)
    ∙ full_stays stampOf h.k (omega (arith, long, s.room, c.if-self-end.true))
    (subst (λ (n : ℕ). BeforeNone (take h.len h.offers) n c.args.offer) all
    (from_last (h.len - 1) s.order (omega (arith, long, all, s.some))
    (rw (get_or-take h.len h.offers (h.len - 1) _ (omega (arith, all, s.some)))
    (in_back _ _ (λ u. sym (c.comes_before.ensures u) ∙ c.if-not-comes_before.true)))))
    ∙ ap (λ (b : Best). take b.k (pass (listing stampOf c.args.offer) (entries stampOf b))) c.self.view_is
    ∙ sym (offer_within _ _ _ (subst (λ (n : ℕ). c.args.offer.far ≤ n) (c.limit.ensures stampOf) c.if-limit-offer.false))

pub put_in-requires-clause-order : goal.put_in-requires-clause-order
put_in-requires-clause-order c =
    let h = c.self.inside in
    let s = c.self.invariant in
    elim c.if-self-end.branch [
      | then-self-end+else-not-comes_before w ↦ rw w.end-is (subst InOrder (take-take (h.len - 1) h.len h.offers (omega arith)) (order_take (h.len - 1) s.order))
      | else-self-end w ↦ rw w.end-is s.order
    ]

pub invariant_of-self : goal.invariant_of-self
invariant_of-self c =
    let s = c.self.invariant in
    elim c.if-self-end.branch [
      | then-self-end+else-not-comes_before w ↦ record { room = omega (arith, w.end-is, w.if-self-end.true, s.some, s.room); some = s.some; most = s.most; all = c.put_in.ensures.all; order = c.put_in.ensures.order }
      | else-self-end w ↦ record { room = omega (arith, w.end-is, w.if-self-end.false, s.room); some = s.some; most = s.most; all = c.put_in.ensures.all; order = c.put_in.ensures.order }
    ]

pub returns-clause-list : goal.returns-clause-list
returns-clause-list c =
    let h = c.self.inside in
    let s = c.self.invariant in
    let long : length (take h.len h.offers) ≡ h.len = omega (arith, s.room, s.most, s.all, length-take h.len h.offers) in
    λ stampOf.
    c.put_in.ensures.list stampOf
    ∙ elim c.if-self-end.branch [
      | then-self-end+else-not-comes_before w ↦
          let all : suc (h.len - 1) ≡ h.k = omega (arith, w.if-self-end.true, s.some, s.room) in
          rw w.end-is
          (ap (λ (l : List Offer). pass (listing stampOf c.args.offer) (map (listing stampOf) l)) (sym (take-take (h.len - 1) h.len h.offers (omega arith)))
          ∙ last_leaves stampOf (h.len - 1) c.args.offer (take h.len h.offers) s.order (omega (arith, long, w.if-self-end.true, s.some))
          (rw (get_or-take h.len h.offers (h.len - 1) _ (omega (arith, w.if-self-end.true, s.some))) (sym (w.comes_before.ensures stampOf) ∙ w.if-not-comes_before.false))
          ∙ ap (λ (n : ℕ). take n (pass (listing stampOf c.args.offer) (map (listing stampOf) (take h.len h.offers)))) all)
      | else-self-end w ↦
          sym (take_all h.k (pass (listing stampOf c.args.offer) (map (listing stampOf) (take c.if-self-end.end h.offers)))
          (omega (arith, sym (ap length (c.put_in.ensures.list stampOf)), length-map (take (c.if-self-end.end + 1) c.put_in.new.offers) (listing stampOf), length-take (c.if-self-end.end + 1) c.put_in.new.offers, w.end-is, w.if-self-end.false, s.room)))
          ∙ ap (λ (n : ℕ). take h.k (pass (listing stampOf c.args.offer) (map (listing stampOf) (take n h.offers)))) w.end-is
    ]
    ∙ ap (λ (b : Best). take b.k (pass (listing stampOf c.args.offer) (entries stampOf b))) c.self.view_is
    ∙ sym (offer_within _ _ _ (subst (λ (n : ℕ). c.args.offer.far ≤ n) (c.limit.ensures stampOf) c.if-limit-offer.false))
