use Prim.Native.Nat.{◌-◌}
use Rattle.words.specs.Limits.{most_parts}
use Rattle.map_borders.proofs.Marking.{Marking}
use Rattle.map_borders.proofs.mark.Given as goal

abbrev pub invariant-loop : goal.invariant-loop
invariant-loop l = Marking l.parents l.lift l.leaf l.initial.counts (most_parts - l.counter) l.part l.counts
