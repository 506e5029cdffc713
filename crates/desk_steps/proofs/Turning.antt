-- The step for a call goes by its plan.
-- Assumes nothing.
use mathlib.Core.Path.{◌≡◌, refl, sym, ap, ◌∙◌, subst⁻¹}
use mathlib.Core.Bool.{cond}
use Rattle.std.specs.Prelude.{Option, Some, None, Ok, Err, unwrap_or}
use mathlib.Core.List.{List, [], ◌∷◌, ◌++◌}
use Prim.Native.Nat.{ℕ, ◌-◌, ◌≤◌, ◌<◌}
use native.Mathlib.Omega.{arith}
use lib.ListN.{length, drop}
use lib.Seq.{take_at}
use borrow.Author.Tests.{lt-ltb, le-ltb}
use Rattle.roads.specs.Map.{Map}
use Rattle.parts.specs.Size.{need}
use Rattle.maps.specs.Sound.{Sound}
use Rattle.fleet.specs.State.{State}
use Rattle.fleet.specs.Good.{Good}
use Rattle.fleet.proofs.Good.{step_good}
use Rattle.image.specs.Image.{image}
use Rattle.image.proofs.Length.{image_length}
use Rattle.calls.specs.Head.{Shows}
use Rattle.desk_lines.specs.declared.record.Call.{Call}
use Rattle.desk_lines.specs.declared.record.Call.TheVariants.{Changes, Asks}
use Rattle.desk_lines.specs.declared.line.Line.{Line}
use Rattle.desk_lines.specs.declared.line.Line.TheVariants.{End}
use Rattle.desk_lines.specs.Read.{bad, Turn, turn_of}
use Rattle.desk_lines.specs.Desk.{most_calls, bad_at}
use Rattle.desk_lines.proofs.Window.{turn_within}
use Rattle.desk_calls.specs.Served.{call_lines, call_state, Served}
use Rattle.desk_steps.specs.declared.Step.{Step}
use Rattle.desk_steps.specs.Plan.{goes_on, Plan, last_lines, call_plan, turn_plan}
use Rattle.desk_steps.specs.Step.{Room, LastStep, GoesBy, TurnStep}
use Rattle.desk_steps.proofs.Closing.{lines_fit, closed_goes}

-- a good fleet's image, with any words after it, shows the fleet
pub shown_by : (m : Map) (s : State) (mem : List ℕ) {mem' : List ℕ} → Sound m → Good m s → mem' ≡ image m s ++ drop (need m) mem → Shows m s mem'
shown_by m s mem sound good e =
    subst⁻¹ (Shows m s) e (record { sound = sound; good = good; words = take_at (image m s) (drop (need m) mem) (need m) (image_length m s good.slots) })

call_good : (m : Map) (s : State) (call : Call) → Good m s → Good m (call_state m s call)
call_good m s (Changes c) good = step_good m s c good
call_good m s (Asks x k) good = good

module _ (w : List ℕ) (place : ℕ) {out : List ℕ} {at : ℕ} (room : Room at (length out)) where
  module _ {r : Step} {mem out' : List ℕ} where
    -- a step that ends the program
    closes : (lines : List Line) → length lines ≤ 2 → LastStep lines r out at out' → ((m : Map) (s : State) → call_plan m s place (turn_of w) ≡ last_lines lines) → TurnStep w place r mem mem out at out'
    unfolding turn_plan
    closes lines few c plan =
        record {
          there = omega (arith, ap (λ (t : Option ℕ). unwrap_or t 0) c.over);
          room = lines_fit lines (omega arith) room c.wrote;
          ends = λ h. c.over;
          goes = λ m s shows. subst⁻¹ (λ (p : Plan). GoesBy p r mem mem out at out') (plan m s) (closed_goes lines c refl);
        }

    module _ {turn : Turn} (is : turn ≡ turn_of w) where
      pub turns_over : turn ≡ Ok None → LastStep (End (place - 1) ∷ []) r out at out' → TurnStep w place r mem mem out at out'
      turns_over e c = closes (End (place - 1) ∷ []) (omega arith) c (λ m s. ap (call_plan m s place) (sym is ∙ e))

      pub turns_bad : turn ≡ Err bad → LastStep (bad_at place) r out at out' → TurnStep w place r mem mem out at out'
      turns_bad e c = closes (bad_at place) (omega arith) c (λ m s. ap (call_plan m s place) (sym is ∙ e))

      pub turns_late : (call : Call) (size : ℕ) → turn ≡ Ok (Some (call, size)) → most_calls < place → LastStep (bad_at place) r out at out' → TurnStep w place r mem mem out at out'
      turns_late call size e late c =
          closes (bad_at place) (omega arith) c
          (λ m s. ap (call_plan m s place) (sym is ∙ e) ∙ (λ i. cond (lt-ltb most_calls place late i) (last_lines (bad_at place)) (record { lines = call_lines m s place call; sequel = goes_on m (call_state m s call) size })))

  -- a call
  pub turns_call : {mem mem' out' : List ℕ} {end : ℕ} {turn : Turn} → turn ≡ turn_of w → (call : Call) (size : ℕ) → turn ≡ Ok (Some (call, size)) → place ≤ most_calls → Served call place mem mem' out at end out'
      → TurnStep w place (record { taken = Some size; end = end }) mem mem' out at out'
  unfolding turn_plan
  turns_call {mem} {mem'} {out'} {end} is call size e early served =
      record {
        there = turn_within w (sym is ∙ e);
        room = lines_fit served.lines served.few room served.wrote;
        ends = λ h. absurd (omega arith);
        goes = λ m s shows. subst⁻¹ (λ (p : Plan). GoesBy p (record { taken = Some size; end = end }) mem mem' out at out') (plan m s)
            (record {
              wrote = rw (served.genuine m s shows).0 at served.wrote;
              follows = (refl, shown_by m (call_state m s call) mem shows.sound (call_good m s call shows.good) (served.genuine m s shows).1, (served.genuine m s shows).1);
            });
      }
    where
      plan : (m : Map) (s : State) → call_plan m s place (turn_of w) ≡ record { lines = call_lines m s place call; sequel = goes_on m (call_state m s call) size }
      plan m s =
          ap (call_plan m s place) (sym is ∙ e)
          ∙ (λ i. cond (le-ltb most_calls place early i) (last_lines (bad_at place)) (record { lines = call_lines m s place call; sequel = goes_on m (call_state m s call) size }))
