-- How the program goes on: it reads, writes and steps, in any order that the library's functions allow.
use Rattle.std.specs.Prelude.{◌≡◌, true, List, [], ◌++◌, ℕ, ◌-◌, min, length, take, drop}
use Rattle.desk_lines.specs.Desk.{desk_text}
use Rattle.desk_run.specs.declared.Desk.{Desk}
use Rattle.desk_run.specs.Desk.{MayStep, fresh_desk, PackedLeft, packed_desk, filled_desk, emptied_desk, NextStep}

-- Reading puts as many bytes of what is unread into the window from `at` on as there is room for, or all of them, and changes no byte before.
pub record ReadsOn (unread window : List ℕ) (at count : ℕ) (window' : List ℕ) : Type 0 where
  pub size : length window' ≡ length window
  pub most : count ≡ min (length window - at) (length unread)
  pub before : take at window' ≡ take at window
  pub bytes : take count (drop at window') ≡ take count unread

-- Of the input, `unread` is not read yet, and `written` is what was written for it.
pub data Underway (input : List ℕ) : (unread written window memory out : List ℕ) (s : Desk) → Type 0 where
  starts : (window memory out : List ℕ) → Underway input input [] window memory out fresh_desk
  reads : {unread written window memory out : List ℕ} {s : Desk} (window' window'' : List ℕ) (count : ℕ) → Underway input unread written window memory out s
      → PackedLeft window s window' → ReadsOn unread window' (s.to - s.from) count window''
      → Underway input (drop count unread) written window'' memory out (filled_desk (packed_desk s) count (length window''))
  writes : {unread written window memory out : List ℕ} {s : Desk} → Underway input unread written window memory out s
      → Underway input unread (written ++ take s.out out) window memory out (emptied_desk s)
  steps : {unread written window memory out : List ℕ} {s : Desk} (memory' out' : List ℕ) (s' : Desk) → Underway input unread written window memory out s
      → MayStep s (length window) (length out) → NextStep window s s' memory memory' out out' → Underway input unread written window memory' out' s'

-- Where the last line is among those that wait: what was written, and those, are what the whole input gets.
abbrev pub WritesTranscript : Type 0
WritesTranscript =
    (input unread written window memory out : List ℕ) (s : Desk) → Underway input unread written window memory out s → s.over ≡ true
    → written ++ take s.out out ≡ desk_text input
