-- What a call does: the lines that it stores, and the memory after it.
use Rattle.std.specs.Prelude.{◌≡◌, List, [], ◌∷◌, ◌++◌, ℕ, ◌*◌, ◌≤◌, length, drop}
use Rattle.words.specs.Limits.{most_asked}
use Rattle.words.specs.Lists.{gather}
use Rattle.roads.specs.Map.{Map}
use Rattle.parts.specs.Size.{need}
use Rattle.fleet.specs.State.{State}
use Rattle.fleet.specs.Change.{step}
use Rattle.image.specs.Image.{image}
use Rattle.calls.specs.Head.{Shows}
use Rattle.desk_lines.specs.declared.record.Call.{Call}
use Rattle.desk_lines.specs.declared.record.Call.TheVariants.{Changes, Asks}
use Rattle.desk_lines.specs.declared.line.Line.{Line}
use Rattle.desk_lines.specs.Line.{text_of}
use Rattle.desk_lines.specs.Written.{Wrote}
use Rattle.desk_lines.specs.Desk.{change_line, question_lines}

-- words lent for an answer: three for each van that is listed
abbrev pub answer_words : ℕ
answer_words = 3 * most_asked

-- lines that a call gets at most: a list's length, and its vans
abbrev pub most_lines : ℕ
most_lines = 33

-- bytes of a buffer for lines, at most
abbrev pub most_buffer : ℕ
most_buffer = 65536

abbrev pub call_lines : Map → State → ℕ → Call → List Line
call_lines m s place (Changes c) = change_line place (step m s c).answer ∷ []
call_lines m s place (Asks x k) = question_lines m s place x k

abbrev pub call_state : Map → State → Call → State
call_state m s (Changes c) = (step m s c).state
call_state m s (Asks x k) = s

-- Some lines, on any memory; on one that shows a map and a fleet, those of the call, and the memory shows the fleet after it.
pub record Served (call : Call) (place : ℕ) (mem mem' out : List ℕ) (at end : ℕ) (out' : List ℕ) : Type 0 where
  pub lines : List Line
  pub few : length lines ≤ most_lines
  pub wrote : Wrote out at (gather text_of lines) end out'
  pub genuine : (m : Map) (s : State) → Shows m s mem → (lines ≡ call_lines m s place call) × (mem' ≡ image m (call_state m s call) ++ drop (need m) mem)
