-- A step of the desk program as it follows from the bytes: the lines that it writes, and what is to come after it.
use Rattle.std.specs.Prelude.{cond, List, [], ◌∷◌, ℕ, ◌+◌, ◌-◌, take, drop, leb, ltb, Option, Some, None, Result, Ok, Err}
use Rattle.roads.specs.Map.{Map, road_count, part_count}
use Rattle.parts.specs.Size.{need}
use Rattle.maps.specs.Judge.{Judged, sound, judge}
use Rattle.fleet.specs.State.{State, fresh_state}
use Rattle.desk_lines.specs.declared.record.BadRecord.{BadRecord}
use Rattle.desk_lines.specs.declared.line.Line.{Line}
use Rattle.desk_lines.specs.declared.line.Line.TheVariants.{Opened, End}
use Rattle.desk_lines.specs.Read.{Turn, opening_bytes, take_records, turn_of, opening_of}
use Rattle.desk_lines.specs.Desk.{memory_room, most_calls, bad_at, refused_opening}
use Rattle.desk_calls.specs.Served.{call_lines, call_state}

-- After a step nothing is to come, or the calls after so many bytes, on this map and this fleet.
pub data Sequel : Type 0 where
  stops : Sequel
  goes_on : (m : Map) (s : State) (taken : ℕ) → Sequel

pub record Plan : Type 0 where
  pub lines : List Line
  pub sequel : Sequel

abbrev pub last_lines : List Line → Plan
last_lines lines = record { lines = lines; sequel = stops }

-- The call at `place`. One after the last that is allowed is bad.

abbrev pub call_plan : Map → State → ℕ → Turn → Plan
call_plan m s place (Ok None) = last_lines (End (place - 1) ∷ [])
call_plan m s place (Err e) = last_lines (bad_at place)
call_plan m s place (Ok (Some (call, size))) =
    cond (ltb most_calls place) (last_lines (bad_at place)) (record { lines = call_lines m s place call; sequel = goes_on m (call_state m s call) size })

unfoldable pub turn_plan : Map → State → ℕ → List ℕ → Plan
turn_plan m s place bytes = call_plan m s place (turn_of bytes)

-- The opening, where the map ends at `at` and `rest` comes after it.

abbrev pub open_plan : Map → ℕ → Result ℕ BadRecord → Plan
open_plan m at (Err e) = last_lines (bad_at 0)
open_plan m at (Ok start) = record { lines = Opened m.vertices (road_count m) (part_count m) ∷ []; sequel = goes_on m (fresh_state start) (at + opening_bytes) }

abbrev pub judged_plan : Judged → ℕ → List ℕ → Plan
judged_plan (Judged.refused number) at rest = last_lines (refused_opening number)
judged_plan (sound m) at rest = cond (leb (need m) memory_room) (open_plan m at (opening_of rest)) (last_lines (refused_opening 5))

abbrev pub taken_plan : Option ℕ → List ℕ → Plan
taken_plan None bytes = last_lines (refused_opening 5)
taken_plan (Some at) bytes = judged_plan (judge (take at bytes)) at (drop at bytes)

unfoldable pub begin_plan : List ℕ → Plan
begin_plan bytes = taken_plan (take_records 4 0 bytes) bytes
