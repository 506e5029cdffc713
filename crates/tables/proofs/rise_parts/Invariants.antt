use mathlib.Core.Path.{◌≡◌}
use lib.ListN.{length}
use Rattle.assembly.proofs.Rising.{RisenTo}
use Rattle.tables.proofs.rise_parts.Given as goal

abbrev pub invariant-loop-p : goal.invariant-loop-p
invariant-loop-p l = (length l.mem ≡ length l.initial.mem) × (length l.place ≡ length l.initial.place) × RisenTo l.initial.mem (length l.initial.place) l.p l.mem
