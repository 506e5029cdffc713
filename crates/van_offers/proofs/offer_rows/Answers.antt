-- `offer_rows` offers what each row's vertex offers, one row after the other: what is left from here gives what was left at the start.
-- Assumes nothing.
use mathlib.Core.Path.{ap, refl, ◌∙◌}
use Prim.Native.Nat.{ℕ, ◌%◌}
use Rattle.van_offers.proofs.Steps.{rows_skip, rows_offer, rows_done}
use Rattle.van_offers.proofs.offer_rows.Goals as goal
use Rattle.van_offers.proofs.offer_rows.Goals.{then-near-lt-FAR, else-near-lt-FAR}

pub loop-i-preserved : goal.loop-i-preserved
loop-i-preserved c =
    let isOwner = ap (λ (w : ℕ). w % 65536) c.word-v.ensures in
    let l = c.loop-i.invariant in
    elim c.if-near-lt-FAR.branch [
      | then-near-lt-FAR w ↦ rw w.list-is (
        w.offer_vans.ensures.k ∙ l.0,
        rows_offer _ _ _ _ _ _ c.loop-i.i-index c.loop-i-test.true _ _ l.1 refl isOwner c.word-near.ensures w.if-near-lt-FAR.true w.vertex_word-link.ensures (rw (← l.0) w.offer_vans.ensures.list),
      )
      | else-near-lt-FAR w ↦ rw w.list-is (
        l.0,
        rows_skip _ _ _ _ _ _ c.loop-i.i-index c.loop-i-test.true _ _ l.1 refl isOwner c.word-near.ensures w.if-near-lt-FAR.false,
      )
    ]

pub returns-clause-list : goal.returns-clause-list
returns-clause-list c = rows_done _ _ _ _ _ _ _ c.loop-i-test.false _ _ c.loop-i.invariant.1
