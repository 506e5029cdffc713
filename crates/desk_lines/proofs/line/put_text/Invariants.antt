use Prim.Native.Nat.{◌+◌}
use lib.ListN.{take}
use Rattle.desk_lines.specs.Written.{Wrote}
use Rattle.desk_lines.proofs.line.put_text.Given as goal

abbrev pub invariant-loop-i : goal.invariant-loop-i
invariant-loop-i l = Wrote l.initial.out l.at (take l.i l.text) (l.at + l.i) l.out
