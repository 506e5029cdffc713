-- The steps' plans, one after the other, give the lines of the whole input; and a plan is the same on a window that shows enough as on all that is left.
-- Assumes nothing.
use mathlib.Core.Path.{◌≡◌, refl, sym, ap, ◌∙◌}
use mathlib.Core.Bool.{Bool, true, false, cond}
use mathlib.Core.List.{List, [], ◌∷◌, ◌++◌}
use Rattle.std.specs.Prelude.{Option, Some, None, Result, Ok, Err}
use Prim.Native.Nat.{ℕ, zero, suc, ◌+◌, ◌-◌, ◌≤◌, ◌<◌}
use native.Mathlib.Decide.{dec_lt}
use native.Mathlib.Numerals.{add-one}
use native.Mathlib.Omega.{arith}
use lib.ListN.{length, take, drop, length-drop}
use lib.Seq.{take-append-le, drop-append-le, drop-drop}
use lib.Dec.{leb, ltb}
use borrow.Author.Tests.{lt-ltb, le-ltb}
use Rattle.roads.specs.Map.{Map, road_count, part_count}
use Rattle.parts.specs.Size.{need}
use Rattle.maps.specs.Bytes.{field}
use Rattle.maps.specs.Judge.{Judged, sound, judge}
use Rattle.fleet.specs.State.{State, fresh_state}
use Rattle.fleet.specs.Change.{step}
use Rattle.desk_lines.specs.declared.record.Call.{Call}
use Rattle.desk_lines.specs.declared.record.Call.TheVariants.{Changes, Asks}
use Rattle.desk_lines.specs.declared.record.BadRecord.{BadRecord}
use Rattle.desk_lines.specs.declared.line.Line.{Line}
use Rattle.desk_lines.specs.declared.line.Line.TheVariants.{Opened, End}
use Rattle.desk_lines.specs.Read.{Turn, map_room, opening_bytes, longest_call, take_records, turn_of, opening_of}
use Rattle.desk_lines.specs.Desk.{memory_room, most_calls, bad_at, change_line, question_lines, serve, refused_opening, open_with, open_by, desk_by, desk_lines}
use Rattle.desk_lines.proofs.Window.{turn_window, opening_window, take_window}
use Rattle.desk_calls.specs.Served.{call_lines, call_state}
use Rattle.desk_steps.specs.Plan.{Sequel, stops, goes_on, last_lines, call_plan, turn_plan, open_plan, judged_plan, taken_plan, begin_plan}

-- calls that may still come where the next one is at `place`
abbrev pub calls_left : ℕ → ℕ
calls_left place = most_calls + 1 - place

-- the lines to come, where the next place is `place`
unfoldable pub lines_to : ℕ → Sequel → List ℕ → List Line
lines_to place stops bytes = []
lines_to place (goes_on m s taken) bytes = serve (calls_left place) m s place (drop taken bytes)

-- A call.

module _ (m : Map) (s : State) (place : ℕ) (bytes : List ℕ) where
  -- a call that may come
  early : (left : ℕ) → calls_left (place + 1) ≡ left → place ≤ most_calls
      → serve (suc left) m s place bytes ≡ (call_plan m s place (turn_of bytes)).lines ++ lines_to (place + 1) (call_plan m s place (turn_of bytes)).sequel bytes
  unfolding serve lines_to
  early left next fits = by (turn_of bytes)
    where
      planned : (call : Call) (size : ℕ)
          → (call_plan m s place (Ok (Some (call, size)))).lines ++ lines_to (place + 1) (call_plan m s place (Ok (Some (call, size)))).sequel bytes
          ≡ call_lines m s place call ++ serve left m (call_state m s call) (suc place) (drop size bytes)
      planned call size =
          (λ i. (cond (le-ltb most_calls place fits i) (last_lines (bad_at place)) (record { lines = call_lines m s place call; sequel = goes_on m (call_state m s call) size })).lines
          ++ lines_to (place + 1) (cond (le-ltb most_calls place fits i) (last_lines (bad_at place)) (record { lines = call_lines m s place call; sequel = goes_on m (call_state m s call) size })).sequel bytes)
          ∙ (λ i. call_lines m s place call ++ serve (next i) m (call_state m s call) (add-one place i) (drop size bytes))

      by : (t : Turn)
          → elim t [
            | Ok None ↦ End (place - 1) ∷ []
            | Err e ↦ bad_at place
            | Ok (Some (call, size)) ↦ elim call [
              | Changes c ↦ change_line place (step m s c).answer ∷ serve left m (step m s c).state (suc place) (drop size bytes)
              | Asks x k ↦ question_lines m s place x k ++ serve left m s (suc place) (drop size bytes)
            ]
          ]
          ≡ (call_plan m s place t).lines ++ lines_to (place + 1) (call_plan m s place t).sequel bytes
      by (Ok None) = refl
      by (Err e) = refl
      by (Ok (Some (Changes c, size))) = sym (planned (Changes c) size)
      by (Ok (Some (Asks x k, size))) = sym (planned (Asks x k) size)

  -- one that may not
  late : most_calls < place → serve 0 m s place bytes ≡ (call_plan m s place (turn_of bytes)).lines ++ lines_to (place + 1) (call_plan m s place (turn_of bytes)).sequel bytes
  unfolding serve lines_to
  late h = by (turn_of bytes)
    where
      by : (t : Turn) → elim t [ Ok None ↦ End (place - 1) ∷ [] | Ok (Some next) ↦ bad_at place | Err e ↦ bad_at place ] ≡ (call_plan m s place t).lines ++ lines_to (place + 1) (call_plan m s place t).sequel bytes
      by (Ok None) = refl
      by (Err e) = refl
      by (Ok (Some (call, size))) =
          sym (λ i. (cond (lt-ltb most_calls place h i) (last_lines (bad_at place)) (record { lines = call_lines m s place call; sequel = goes_on m (call_state m s call) size })).lines
          ++ lines_to (place + 1) (cond (lt-ltb most_calls place h i) (last_lines (bad_at place)) (record { lines = call_lines m s place call; sequel = goes_on m (call_state m s call) size })).sequel bytes)

  pub turn_lines : place ≤ most_calls + 1 → serve (calls_left place) m s place bytes ≡ (turn_plan m s place bytes).lines ++ lines_to (place + 1) (turn_plan m s place bytes).sequel bytes
  unfolding turn_plan
  turn_lines h = by (dec_lt most_calls place)
    where
      by : Dec (most_calls < place) → serve (calls_left place) m s place bytes ≡ (call_plan m s place (turn_of bytes)).lines ++ lines_to (place + 1) (call_plan m s place (turn_of bytes)).sequel bytes
      by (yes past) = ap (λ (n : ℕ). serve n m s place bytes) (let none : calls_left place ≡ 0 = omega arith in none) ∙ late past
      by (no not) =
          ap (λ (n : ℕ). serve n m s place bytes) (let more : calls_left place ≡ suc (most_calls - place) = omega (arith, not) in more)
          ∙ early (most_calls - place) (omega arith) (omega (arith, not))

pub turn_same : (m : Map) (s : State) (place : ℕ) (w more : List ℕ) → longest_call ≤ length w → turn_plan m s place (w ++ more) ≡ turn_plan m s place w
unfolding turn_plan
turn_same m s place w more h = ap (call_plan m s place) (turn_window w more h)

-- The opening.

module _ (bytes : List ℕ) where
  open_lines : (m : Map) (at : ℕ) (o : Result ℕ BadRecord) → open_with m o (drop at bytes) ≡ (open_plan m at o).lines ++ lines_to 1 (open_plan m at o).sequel bytes
  unfolding lines_to
  open_lines m at (Err e) = refl
  open_lines m at (Ok start) = ap (λ (l : List ℕ). Opened m.vertices (road_count m) (part_count m) ∷ serve most_calls m (fresh_state start) 1 l) (drop-drop opening_bytes at bytes)

  judged_lines : (j : Judged) (at : ℕ) → open_by j (drop at bytes) ≡ (judged_plan j at (drop at bytes)).lines ++ lines_to 1 (judged_plan j at (drop at bytes)).sequel bytes
  unfolding lines_to
  judged_lines (Judged.refused n) at = refl
  judged_lines (sound m) at = by (leb (need m) memory_room)
    where
      by : (fits : Bool) → cond fits (open_with m (opening_of (drop at bytes)) (drop at bytes)) (refused_opening 5)
          ≡ (cond fits (open_plan m at (opening_of (drop at bytes))) (last_lines (refused_opening 5))).lines ++ lines_to 1 (cond fits (open_plan m at (opening_of (drop at bytes))) (last_lines (refused_opening 5))).sequel bytes
      by true = open_lines m at (opening_of (drop at bytes))
      by false = refl

  pub begin_lines : desk_lines bytes ≡ (begin_plan bytes).lines ++ lines_to 1 (begin_plan bytes).sequel bytes
  unfolding desk_lines begin_plan lines_to
  begin_lines = by (take_records 4 0 bytes)
    where
      by : (taken : Option ℕ) → desk_by taken bytes ≡ (taken_plan taken bytes).lines ++ lines_to 1 (taken_plan taken bytes).sequel bytes
      by None = refl
      by (Some at) = judged_lines (judge (take at bytes)) at

-- a map ends within its room
map_ends : (n at : ℕ) (bytes : List ℕ) (k : ℕ) → at ≤ map_room → take_records n at bytes ≡ Some k → k ≤ map_room
unfolding take_records
map_ends zero at bytes k h e = let same : at ≡ k = cc in omega arith
map_ends (suc n) at bytes k h e = by (leb (at + 4) (length bytes)) (dec_lt map_room (at + 4 + field bytes at 4)) (map_ends n (at + 4 + field bytes at 4) bytes k) e
  where
    by : (whole : Bool) → Dec (map_room < at + 4 + field bytes at 4) → (at + 4 + field bytes at 4 ≤ map_room → take_records n (at + 4 + field bytes at 4) bytes ≡ Some k → k ≤ map_room)
        → cond whole (cond (ltb map_room (at + 4 + field bytes at 4)) None (take_records n (at + 4 + field bytes at 4) bytes)) (Some at) ≡ Some k → k ≤ map_room
    by false d later f = let same : at ≡ k = cc in omega arith
    by true (yes long) later f = let g : ◌≡◌ {A = Option ℕ} None (Some k) = rw (lt-ltb map_room (at + 4 + field bytes at 4) long) at f in let z : ◌≡◌ {A = ℕ} 0 1 = cc in absurd (omega arith)
    by true (no fits) later f =
        let within : at + 4 + field bytes at 4 ≤ map_room = omega (arith, fits) in
        later within (rw (le-ltb map_room (at + 4 + field bytes at 4) within) at f)

module _ (w more : List ℕ) (room : map_room + opening_bytes ≤ length w) where
  judged_same : (j : Judged) (at : ℕ) → at ≤ map_room → judged_plan j at (drop at (w ++ more)) ≡ judged_plan j at (drop at w)
  judged_same (Judged.refused n) at h = refl
  judged_same (sound m) at h =
      ap (λ (o : Result ℕ BadRecord). cond (leb (need m) memory_room) (open_plan m at o) (last_lines (refused_opening 5)))
      (ap opening_of (drop-append-le at w more (omega arith)) ∙ opening_window (drop at w) more (omega (arith, length-drop at w)))

  pub begin_same : begin_plan (w ++ more) ≡ begin_plan w
  unfolding begin_plan
  begin_same = ap (λ (t : Option ℕ). taken_plan t (w ++ more)) (take_window w more (omega arith) 4 0 (omega arith)) ∙ by (take_records 4 0 w) refl
    where
      by : (taken : Option ℕ) → take_records 4 0 w ≡ taken → taken_plan taken (w ++ more) ≡ taken_plan taken w
      by None e = refl
      by (Some at) e =
          let small : at ≤ map_room = map_ends 4 0 w at (omega arith) e in
          ap (λ (l : List ℕ). judged_plan (judge l) at (drop at (w ++ more))) (take-append-le at w more (omega arith)) ∙ judged_same (judge (take at w)) at small
