-- What the contracts of the steps say: the bytes stored, the bytes taken or that it is over, and the memory.
use Rattle.std.specs.Prelude.{◌≡◌, List, ◌++◌, ℕ, ◌+◌, ◌≤◌, ◌<◌, length, take, drop, Some, None, unwrap_or}
use Rattle.words.specs.Lists.{gather}
use Rattle.roads.specs.Map.{Map, road_count, part_count}
use Rattle.parts.specs.Size.{need}
use Rattle.maps.specs.Judge.{sound, judge}
use Rattle.fleet.specs.State.{State}
use Rattle.image.specs.Image.{image}
use Rattle.calls.specs.Head.{Shows}
use Rattle.counts.specs.declared.Counts.{Counts}
use Rattle.desk_lines.specs.declared.line.Line.{Line}
use Rattle.desk_lines.specs.Line.{text_of}
use Rattle.desk_lines.specs.Written.{Wrote}
use Rattle.desk_lines.specs.Read.{opening_of}
use Rattle.desk_lines.specs.Desk.{most_calls}
use Rattle.desk_calls.specs.Served.{most_buffer}
use Rattle.desk_steps.specs.declared.Step.{Step}
use Rattle.desk_steps.specs.Plan.{Sequel, stops, goes_on, Plan, open_plan, turn_plan, begin_plan}

-- more bytes than the lines of a step take
abbrev pub step_bytes : ℕ
step_bytes = 2048

-- a buffer of so many bytes has room for the lines of a step from `at` on
pub record Room (at size : ℕ) : Type 0 where
  pub free : at + step_bytes ≤ size
  pub small : size ≤ most_buffer

-- the lines are stored from `at` on, and it is over
pub record LastStep (lines : List Line) (r : Step) (out : List ℕ) (at : ℕ) (out' : List ℕ) : Type 0 where
  pub wrote : Wrote out at (gather text_of lines) r.end out'
  pub over : r.taken ≡ None

-- what follows: it is over, with the memory as before; or so many bytes are taken, and the memory shows the map and the fleet, with the words beyond the need as before
abbrev pub Leads : Sequel → Step → List ℕ → List ℕ → Type 0
Leads stops r mem mem' = (r.taken ≡ None) × (mem' ≡ mem)
Leads (goes_on m s taken) r mem mem' = (r.taken ≡ Some taken) × Shows m s mem' × (mem' ≡ image m s ++ drop (need m) mem)

-- the step goes by the plan: its lines are stored from `at` on, and nothing else of the buffer changes
pub record GoesBy (plan : Plan) (r : Step) (mem mem' out : List ℕ) (at : ℕ) (out' : List ℕ) : Type 0 where
  pub wrote : Wrote out at (gather text_of plan.lines) r.end out'
  pub follows : Leads plan.sequel r mem mem'

-- the map that ends at `map` is opened, if it is the sound one with these counts and the memory has room for it
abbrev pub OpenStep : (input : List ℕ) (map : ℕ) (counts : Counts) (r : Step) (mem mem' out out' : List ℕ) → Type 0
OpenStep input map counts r mem mem' out out' =
    (m : Map) → judge (take map input) ≡ sound m → need m ≤ length mem → counts ≡ record { vertices = m.vertices; roads = road_count m; parts = part_count m }
    → GoesBy (open_plan m map (opening_of (drop map input))) r mem mem' out 0 out'

-- The first step.
pub record BeginStep (input : List ℕ) (r : Step) (mem mem' out out' : List ℕ) : Type 0 where
  pub there : unwrap_or r.taken 0 ≤ length input
  pub room : r.end ≤ length out
  pub goes : GoesBy (begin_plan input) r mem mem' out 0 out'

-- The step for `place`, on any memory, and on one that shows a map and a fleet.
pub record TurnStep (input : List ℕ) (place : ℕ) (r : Step) (mem mem' out : List ℕ) (at : ℕ) (out' : List ℕ) : Type 0 where
  pub there : unwrap_or r.taken 0 ≤ length input
  pub room : r.end ≤ length out
  pub ends : most_calls < place → r.taken ≡ None
  pub goes : (m : Map) (s : State) → Shows m s mem → GoesBy (turn_plan m s place input) r mem mem' out at out'
