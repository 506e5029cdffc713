-- `keep_out` leaves no more parts without a key.
-- Assumes nothing.
use mathlib.Core.Path.{ap}
use native.Mathlib.Omega.{arith}
use Rattle.part_keys.specs.Keys.{far_count}
use Rattle.part_keys.proofs.Spreading.{far_lowered}
use Rattle.part_keys.proofs.waiting.PartsWaiting.keep_out.Goals as goal

pub invariant_of-self : goal.invariant_of-self
invariant_of-self c =
    record { room = omega (arith, ap far_count c.lower.ensures, far_lowered c.args.self.now.keys c.args.part 0, c.args.self.now.room) }
