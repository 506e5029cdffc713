-- `meet` leaves those that wait, lowers a label, or adds a vertex.
-- Assumes nothing.
use mathlib.Core.Path.{◌≡◌, refl, sym, subst}
use mathlib.Core.Logic.{◌≢◌}
use Prim.Native.Nat.{ℕ, suc, ◌%◌, ◌<◌}
use native.Mathlib.Numerals.{add-one}
use native.Mathlib.Omega.{arith}
use lib.ListN.{get_or, set}
use lib.Seq.{map-set_same}
use Rattle.std.proofs.lemmas.List.{map-set}
use Rattle.words.specs.Lists.{word}
use Rattle.near_vans.specs.Around.{Waits, no_less, lowered, new}
use Rattle.near_vans.specs.declared.front.WaitingVertex.{WaitingVertex}
use Rattle.near_vans.proofs.Places.{label_at}
use Rattle.near_vans.proofs.front.Front.meet.Goals as goal

pub returns-then-far-self : goal.returns-then-far-self
returns-then-far-self c =
    let waits = subst (λ (w : Waits). (c.in-Some.i < w.n) × (word w.vertices c.in-Some.i ≡ c.args.vertex % 4096)) (sym c.self.view_is) c.in-Some.ensures in
    rw (← c.self.view_is) (lowered c.in-Some.i waits.0 waits.1 (rw (label_at c.self.inside.waiting c.in-Some.i) c.if-far-self.true)
    (λ j. record { at = c.self.inside.at; labels = map-set (λ (w : WaitingVertex). w.label) c.self.inside.waiting c.in-Some.i (record { label = c.args.far; vertex = (get_or c.self.inside.waiting c.in-Some.i (record { label = 0; vertex = 0 })).vertex }) j; vertices = map-set_same (λ (w : WaitingVertex). w.vertex) c.self.inside.waiting c.in-Some.i (record { label = c.args.far; vertex = (get_or c.self.inside.waiting c.in-Some.i (record { label = 0; vertex = 0 })).vertex }) (record { label = 0; vertex = 0 }) refl j; n = c.self.inside.len }))

pub returns-else-far-self : goal.returns-else-far-self
returns-else-far-self c =
    let waits = subst (λ (w : Waits). (c.in-Some.i < w.n) × (word w.vertices c.in-Some.i ≡ c.args.vertex % 4096)) (sym c.self.view_is) c.in-Some.ensures in
    rw (← c.self.view_is) (no_less c.in-Some.i waits.0 waits.1 (rw (label_at c.self.inside.waiting c.in-Some.i) c.if-far-self.false) refl)

pub returns : goal.returns
returns c =
    let f = c.self.inside in
    let u : ℕ = c.args.vertex % 4096 in
    let entry : WaitingVertex = record { label = c.args.far; vertex = u } in
    let nowhere = subst (λ (w : Waits). (i : ℕ) → word w.at u ≡ suc i → i < w.n → word w.vertices i ≢ u) (sym c.self.view_is) c.in_default.ensures in
    rw (← c.self.view_is)
    (new c.if-self-u.false nowhere (omega (arith, c.self.invariant, c.if-self-eq-ROOM.false))
    (λ j. record { at = set f.at u (add-one f.len j); labels = map-set (λ (w : WaitingVertex). w.label) f.waiting f.len entry j; vertices = map-set (λ (w : WaitingVertex). w.vertex) f.waiting f.len entry j; n = add-one f.len j }))
