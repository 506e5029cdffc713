-- What calls leave as it was: all of it where they refuse, and in a run the words beyond the need.
-- Assumes nothing.
use mathlib.Core.Path.{◌≡◌, refl, ap, sym, ◌∙◌}
use mathlib.Core.Logic.{⊎_elim}
use mathlib.Core.Bool.{true, true≢false}
use mathlib.Core.List.{List, ◌++◌, append_assoc}
use Prim.Native.Nat.{ℕ}
use lib.ListN.{length, take, drop, take-append-drop}
use lib.Seq.{drop_at, drop-append-le}
use Rattle.words.specs.Limits.{vans}
use Rattle.words.proofs.Tests.{true_or_false}
use Rattle.roads.specs.Map.{Map}
use Rattle.parts.specs.Size.{need}
use Rattle.maps.specs.Judge.{judge}
use Rattle.fleet.specs.State.{State, fresh_state}
use Rattle.fleet.specs.declared.Change.{Change}
use Rattle.fleet.specs.Change.{Answer, refused, accepted, step}
use Rattle.fleet.proofs.Good.{fresh_good, step_good}
use Rattle.image.specs.Image.{image}
use Rattle.image.proofs.Length.{image_length}
use Rattle.calls.specs.Head.{opened, Shows}
use Rattle.calls.specs.Outcome.{opening, Changed}
use Rattle.calls.specs.Run.{Event, changed, asked, looked, not_opened, Outcome, Run, opens, calls, found_by, done_by, state_told}
use Rattle.calls.specs.Promise.{BeyondOfRun, RefusedKeeps}
use Rattle.calls.proofs.Head.{room, lent_shown}
use Rattle.calls.proofs.Run.{opened_memory, refused_memory, memory_of_run}

pub refused_keeps : RefusedKeeps
unfolding opening
refused_keeps (changed c (refused n)) mem mem' out e = (out.refusal n refl, tt)
refused_keeps (changed c (accepted value)) mem mem' out e = absurd (true≢false (sym e))
refused_keeps (asked x k words (refused n) words') mem mem' out e = (out.1, out.0.refusal n refl)
refused_keeps (asked x k words (accepted value) words') mem mem' out e = absurd (true≢false (sym e))
refused_keeps (looked l (refused n)) mem mem' out e = (out.1, tt)
refused_keeps (looked l (accepted value)) mem mem' out e = absurd (true≢false (sym e))
refused_keeps (not_opened bytes start n) mem mem' out e = (out.leaves ∙ refused_memory (judge bytes) mem start n out.gives, tt)

-- after an image stands what stood there
past_image : (m : Map) (s : State) (rest : List ℕ) → length s.vans ≡ vans → drop (need m) (image m s ++ rest) ≡ rest
past_image m s rest slots = drop_at (image m s) rest (need m) (image_length m s slots)

module _ (m : Map) (s : State) (lent : ℕ) (mem mem' : List ℕ) (shows : Shows m s mem) where
  -- a call that left the words lent to it
  left : mem' ≡ take lent mem → drop (need m) (mem' ++ drop lent mem) ≡ drop (need m) mem
  left same = ap (drop (need m)) (ap (λ (l : List ℕ). l ++ drop lent mem) same ∙ take-append-drop lent mem)

  -- a change that was lent a memory with an opened head
  stepped : (c : Change) (answer : Answer) → opened (take lent mem) ≡ true → Changed c (take lent mem) answer mem' → drop (need m) (mem' ++ drop lent mem) ≡ drop (need m) mem
  stepped c answer head out =
      ap (drop (need m))
      (ap (λ (l : List ℕ). l ++ drop lent mem) (out.genuine m s here).1 ∙ append_assoc (image m (step m s c).state) (drop (need m) (take lent mem)) (drop lent mem))
      ∙ past_image m (step m s c).state (drop (need m) (take lent mem) ++ drop lent mem) (step_good m s c shows.good).slots
      ∙ sym (drop-append-le (need m) (take lent mem) (drop lent mem) (room here))
      ∙ ap (drop (need m)) (take-append-drop lent mem)
    where
      here : Shows m s (take lent mem)
      here = lent_shown shows lent head

  called : (e : Event) → Outcome e (take lent mem) mem' → drop (need m) (mem' ++ drop lent mem) ≡ drop (need m) mem
  unfolding opening
  called (changed c answer) out =
      ⊎_elim (λ head. stepped c answer head out) (λ shut. left (out.refusal 6 (out.screened.unopened shut))) (true_or_false (opened (take lent mem)))
  called (asked x k words answer words') out = left out.1
  called (looked l answer) out = left out.1
  called (not_opened bytes start n) out = left (out.leaves ∙ refused_memory (judge bytes) (take lent mem) start n out.gives)

beyond : (m : Map) (start : ℕ) {es : List Event} {mem : List ℕ} (run : Run m start es mem) → drop (need m) mem ≡ drop (need m) (found_by run)
unfolding found_by opening
beyond m start (opens bytes mem mem' e fits out) =
    ap (drop (need m)) (out.leaves ∙ opened_memory m (judge bytes) mem start e out.gives) ∙ past_image m (fresh_state start) (drop (need m) mem) (fresh_good m start fits).slots
beyond m start (calls {es} {mem} e lent mem' run out) =
    called m (state_told m start (done_by es)) lent mem mem' (memory_of_run m start es mem run) e out ∙ beyond m start run

pub beyond_of_run : BeyondOfRun
beyond_of_run m start es mem run = beyond m start run
