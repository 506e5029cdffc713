use Prim.Native.Nat.{◌+◌, ◌≤◌}
use Rattle.words.specs.Lists.{gather}
use Rattle.desk_lines.specs.Line.{line_bytes, text_of}
use Rattle.desk_lines.specs.Written.{Wrote}
use Rattle.desk_calls.specs.Listed.{van_lines}
use Rattle.desk_calls.specs.Served.{most_buffer}
use Rattle.desk_calls.proofs.serving.list.Given as goal

abbrev pub invariant-loop-i : goal.invariant-loop-i
invariant-loop-i l = (l.initial.end ≤ most_buffer + line_bytes) × Wrote l.initial.out l.initial.end (gather text_of (van_lines l.place l.answer l.i)) l.end l.out
