use Rattle.map_parts.proofs.Counting.{Counting}
use Rattle.map_parts.proofs.tally_into.Given as goal

abbrev pub invariant-loop-i : goal.invariant-loop-i
invariant-loop-i l = Counting l.numbers l.n l.i l.counts
