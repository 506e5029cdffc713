-- `turn` takes the nearest child of the part that was opened up last; or ends the search, or climbs, or takes the nearest waiting part.
-- Assumes nothing.
use native.Mathlib.Omega.{arith}
use Rattle.places.specs.Place.{counts_in}
use Rattle.van_offers.specs.Offers.{stamp_in}
use Rattle.question.proofs.Calls.{turn_ends, turn_up, key_place, key_some, key_none}
use Rattle.question.proofs.search.Search.turn.Goals as goal
use Rattle.question.proofs.search.Search.turn.Goals.{in_default-next-via-in-Some-next+else-next-self, in_default-next-via-in_default-next}

pub returns-then-limit-min : goal.returns-then-limit-min
returns-then-limit-min c =
    let nearest = key_place c.nearest-next.result c.nearest-next.ensures c.key_of-key.ensures in
    turn_ends c.args.mem.now c.args.dx.now c.args.self.now nearest.1 (c.limit.ensures (stamp_in c.args.mem.now (counts_in c.args.mem.now))) c.min.ensures c.if-limit-min.true

pub returns-in_default-next : goal.returns-in_default-next
returns-in_default-next c =
    let nearest = key_place c.nearest-next.result c.nearest-next.ensures c.key_of-key.ensures in
    turn_up c.args.mem.now c.args.dx.now c.args.self.now nearest.1 (c.limit.ensures (stamp_in c.args.mem.now (counts_in c.args.mem.now))) c.min.ensures c.climb.result c.climb.new.dx c.climb.new.self c.if-limit-min.false
    (λ near. elim c.in_default-next.branch [
      | in_default-next-via-in-Some-next+else-next-self w ↦ omega (arith, key_some c.nearest-next.result c.key_of-key.ensures w.in-Some-next.is, w.if-next-self.false)
      | in_default-next-via-in_default-next w ↦ absurd (omega (arith, near, key_none c.nearest-next.result c.key_of-key.ensures w.in_default-next.is))
    ])
    c.climb.ensures
