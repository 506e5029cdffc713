use mathlib.Core.Path.{◌≡◌}
use Prim.Native.Nat.{◌-◌, ◌≤◌}
use Rattle.desk_lines.specs.Read.{take_records}
use Rattle.desk_lines.proofs.record.take_map.Given as goal

abbrev pub invariant-loop : goal.invariant-loop
invariant-loop l = (l.at ≤ 65536) × (take_records (4 - l.counter) l.at l.bytes ≡ take_records 4 0 l.bytes)
