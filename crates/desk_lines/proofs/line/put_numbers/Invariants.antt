use Prim.Native.Nat.{◌+◌, ◌*◌, ◌≤◌}
use lib.ListN.{take}
use Rattle.words.specs.Lists.{gather}
use Rattle.desk_lines.proofs.Texts.{spaced_number}
use Rattle.desk_lines.specs.Written.{Wrote}
use Rattle.desk_lines.proofs.line.put_numbers.Given as goal

abbrev pub invariant-loop-number : goal.invariant-loop-number
invariant-loop-number l = (l.end ≤ l.at + 11 * l.number-index) × Wrote l.initial.out l.at (gather spaced_number (take l.number-index l.numbers)) l.end l.out
