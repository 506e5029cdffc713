-- `climb` climbs to the part above, where there is one.
-- Assumes nothing.
use mathlib.Core.Path.{refl}
use Rattle.question.proofs.Calls.{climb_stays, climb_goes}
use Rattle.question.proofs.search.Search.climb.Goals as goal

pub returns-then-self-above : goal.returns-then-self-above
returns-then-self-above c = climb_stays c.args.mem.now c.args.dx.now c.args.self.now c.part_word-above.ensures c.if-self-above.true

pub returns : goal.returns
returns c =
    climb_goes c.args.mem.now c.args.dx.now c.args.self.now c.part_word-above.ensures c.keep_out.new.self c.if-self-above.false c.keep_out.ensures.0 c.keep_out.ensures.1 c.keep_out.ensures.2 c.open_up.ensures.0 c.open_up.ensures.1 refl refl c.bound_outside-self.ensures
