-- What each function of the library does to where the program stands.
use Rattle.std.specs.Prelude.{◌≡◌, ◌⊎◌, true, false, cond, List, ℕ, ◌+◌, ◌-◌, ◌≤◌, length, take, drop, ltb, eqb, unwrap_or, is_none}
use Rattle.desk_lines.specs.Read.{map_room, opening_bytes, longest_call}
use Rattle.desk_lines.specs.Desk.{most_calls}
use Rattle.desk_steps.specs.declared.Step.{Step}
use Rattle.desk_steps.specs.Step.{Room, BeginStep, TurnStep}
use Rattle.desk_run.specs.declared.Desk.{Desk}

-- bytes of the longest map and an opening record, which a window must have
abbrev pub window_bytes : ℕ
window_bytes = map_room + opening_bytes

-- bytes that show all that the step at a place looks at
abbrev pub needed_at : ℕ → ℕ
needed_at place = cond (eqb place 0) window_bytes longest_call

-- the window has as many, or the input has ended
abbrev pub Fed : Desk → Type 0
Fed s = (s.ended ≡ true) ⊎ (needed_at s.place ≤ s.to - s.from)

-- what is read and not looked at yet
abbrev pub bytes_left : Desk → List ℕ → List ℕ
bytes_left s window = take (s.to - s.from) (drop s.from window)

abbrev pub fresh_desk : Desk
fresh_desk = record { from = 0; to = 0; out = 0; place = 0; ended = false; over = false }

-- the program stands within a window of so many bytes; before the opening no line waits
pub record InWindow (s : Desk) (size : ℕ) : Type 0 where
  pub forward : s.from ≤ s.to
  pub within : s.to ≤ size
  pub few : s.place ≤ most_calls + 1
  pub first : s.place ≡ 0 → s.out ≡ 0

-- The next step may be done: it is not over, the window shows enough, and there is room for the lines.
pub record MayStep (s : Desk) (size lines : ℕ) : Type 0 where
  pub stands : InWindow s size
  pub going : s.over ≡ false
  pub fed : Fed s
  pub room : Room s.out lines

-- what was left in the window stands at its start
pub record PackedLeft (window : List ℕ) (s : Desk) (window' : List ℕ) : Type 0 where
  pub size : length window' ≡ length window
  pub same : take (s.to - s.from) window' ≡ bytes_left s window

abbrev pub packed_desk : Desk → Desk
packed_desk s = record s { from = 0; to = s.to - s.from }

-- so many bytes more, in a window of `size` bytes
abbrev pub filled_desk : Desk → ℕ → ℕ → Desk
filled_desk s count size = record s { to = s.to + count; ended = ltb count (size - s.to) }

abbrev pub emptied_desk : Desk → Desk
emptied_desk s = record s { out = 0 }

abbrev pub after_step : Desk → Step → Desk
after_step s step = record s { from = s.from + unwrap_or step.taken 0; out = step.end; place = s.place + 1; over = is_none step.taken }

-- a step is the opening, or the next call, on what the window shows
pub record NextStep (window : List ℕ) (s r : Desk) (mem mem' out out' : List ℕ) : Type 0 where
  pub step : Step
  pub is : r ≡ after_step s step
  pub begins : s.place ≡ 0 → BeginStep (bytes_left s window) step mem mem' out out'
  pub turns : 1 ≤ s.place → TurnStep (bytes_left s window) s.place step mem mem' out s.out out'
  pub room : r.out ≤ length out
  pub stands : r.over ≡ false → InWindow r (length window)
