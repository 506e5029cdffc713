-- For any input, taken window by window: what was written, the lines that wait and those to come are what the whole input gets.
-- Assumes nothing.
use mathlib.Core.Path.{◌≡◌, refl, sym, ap, ◌∙◌, subst, subst⁻¹}
use mathlib.Core.Logic.{◌⊎◌, inl, inr, ⊎_elim}
use mathlib.Core.Bool.{Bool, true, false, cond}
use mathlib.Core.List.{List, [], ◌++◌, append_assoc, append-nil}
use Rattle.std.specs.Prelude.{Option, unwrap_or, is_none}
use Prim.Native.Nat.{ℕ, ◌+◌, ◌-◌, ◌≤◌, ◌<◌}
use native.Mathlib.Decide.{dec_lt}
use native.Mathlib.Omega.{arith}
use lib.ListN.{length, take, drop, length-take, length-drop, take-append-drop, drop_of_length-le}
use lib.Seq.{take-add, drop-append-le}
use lib.Dec.{ltb}
use borrow.Author.Tests.{ltb-true, ne_eqb}
use Rattle.words.specs.Lists.{gather}
use Rattle.words.proofs.Tests.{clash}
use Rattle.roads.specs.Map.{Map}
use Rattle.fleet.specs.State.{State}
use Rattle.calls.specs.Head.{Shows}
use Rattle.desk_lines.specs.declared.line.Line.{Line}
use Rattle.desk_lines.specs.Line.{text_of}
use Rattle.desk_lines.specs.Written.{Wrote}
use Rattle.desk_lines.specs.Read.{longest_call}
use Rattle.desk_lines.specs.Desk.{most_calls, serve, desk_text}
use Rattle.desk_lines.proofs.Writing.{wrote_shown}
use Rattle.desk_lines.proofs.Lines.{texts_append}
use Rattle.desk_steps.specs.declared.Step.{Step}
use Rattle.desk_steps.specs.Plan.{Sequel, stops, goes_on, turn_plan, begin_plan}
use Rattle.desk_steps.specs.Step.{Leads, BeginStep, TurnStep}
use Rattle.desk_run.specs.declared.Desk.{Desk}
use Rattle.desk_run.specs.Desk.{window_bytes, needed_at, Fed, bytes_left, PackedLeft, packed_desk, filled_desk, after_step}
use Rattle.desk_run.specs.Underway.{ReadsOn, Underway, starts, reads, writes, steps, WritesTranscript}
use Rattle.desk_run.proofs.Moving.{part_left}
use Rattle.desk_run.proofs.Plans.{calls_left, lines_to, turn_lines, turn_same, begin_lines, begin_same}

-- what is still to be written, where `bytes` are not looked at yet
data ToCome (over : Bool) (place : ℕ) (memory bytes rest : List ℕ) : Type 0 where
  opening : over ≡ false → place ≡ 0 → rest ≡ desk_text bytes → ToCome over place memory bytes rest
  calling : (m : Map) (s : State) → over ≡ false → 1 ≤ place → place ≤ most_calls + 1 → Shows m s memory → rest ≡ gather text_of (serve (calls_left place) m s place bytes)
      → ToCome over place memory bytes rest
  done : over ≡ true → rest ≡ [] → ToCome over place memory bytes rest

record Faithful (input unread written window memory out : List ℕ) (s : Desk) : Type 0 where
  forward : s.from ≤ s.to
  within : s.to ≤ length window
  first : s.place ≡ 0 → s.out ≡ 0
  ends : s.ended ≡ true → unread ≡ []
  rest : List ℕ
  total : desk_text input ≡ (written ++ take s.out out) ++ rest
  to_come : ToCome s.over s.place memory (bytes_left s window ++ unread) rest

before_or_after : (place : ℕ) → (most_calls < place) ⊎ (place ≤ most_calls)
before_or_after place = by (dec_lt most_calls place)
  where
    by : Dec (most_calls < place) → (most_calls < place) ⊎ (place ≤ most_calls)
    by (yes late) = inl late
    by (no early) = inr (omega (arith, early))

none_past : (n : ℕ) (l : List ℕ) → length l ≤ n → drop n l ≡ []
none_past n l h = drop_of_length-le l h

-- Reading.

module _ (unread window window' window'' : List ℕ) (s : Desk) (count : ℕ) (p : PackedLeft window s window') (r : ReadsOn unread window' (s.to - s.from) count window'') where
  read_bytes : bytes_left (filled_desk (packed_desk s) count (length window'')) window'' ++ drop count unread ≡ bytes_left s window ++ unread
  read_bytes =
      ap (λ (l : List ℕ). l ++ drop count unread)
      (ap (λ (k : ℕ). take k window'') (let same : (s.to - s.from) + count - 0 ≡ (s.to - s.from) + count = omega arith in same)
      ∙ take-add (s.to - s.from) count window''
      ∙ (λ i. (r.before ∙ p.same) i ++ r.bytes i))
      ∙ append_assoc (bytes_left s window) (take count unread) (drop count unread)
      ∙ ap (λ (l : List ℕ). bytes_left s window ++ l) (take-append-drop count unread)

  read_ends : s.to - s.from ≤ length window' → ltb count (length window'' - (s.to - s.from)) ≡ true → drop count unread ≡ []
  read_ends h e = none_past count unread (omega (arith, ltb-true count (length window'' - (s.to - s.from)) e, r.most, r.size))

-- A step.

module _ (input unread written window memory memory' out out' : List ℕ) (s : Desk) (step : Step) (f : Faithful input unread written window memory out s) where
  abbrev taken_now : ℕ
  taken_now = unwrap_or step.taken 0

  new_bytes : taken_now ≤ length (bytes_left s window) → drop taken_now (bytes_left s window ++ unread) ≡ bytes_left (after_step s step) window ++ unread
  new_bytes h =
      drop-append-le taken_now (bytes_left s window) unread h
      ∙ ap (λ (l : List ℕ). l ++ unread) (sym (part_left s.from s.to taken_now window))

  new_total : (lines more : List Line) → Wrote out s.out (gather text_of lines) step.end out' → step.end ≤ length out
      → desk_text input ≡ (written ++ take s.out out) ++ gather text_of (lines ++ more) → desk_text input ≡ (written ++ take step.end out') ++ gather text_of more
  new_total lines more w room e =
      e
      ∙ ap (λ (l : List ℕ). (written ++ take s.out out) ++ l) (texts_append lines more)
      ∙ sym (append_assoc (written ++ take s.out out) (gather text_of lines) (gather text_of more))
      ∙ ap (λ (l : List ℕ). l ++ gather text_of more) (append_assoc written (take s.out out) (gather text_of lines) ∙ ap (λ (l : List ℕ). written ++ l) (sym (wrote_shown w room)))

  advance : (lines : List Line) (sequel : Sequel) → Wrote out s.out (gather text_of lines) step.end out' → Leads sequel step memory memory'
      → taken_now ≤ length (bytes_left s window) → step.end ≤ length out → (is_none step.taken ≡ false → s.place ≤ most_calls)
      → desk_text input ≡ (written ++ take s.out out) ++ gather text_of (lines ++ lines_to (s.place + 1) sequel (bytes_left s window ++ unread))
      → Faithful input unread written window memory' out' (after_step s step)
  unfolding lines_to
  advance lines stops w l there room fits e =
      record {
        forward = omega (arith, there, length-take (s.to - s.from) (drop s.from window), f.forward);
        within = f.within;
        first = λ z. absurd (omega arith);
        ends = f.ends;
        rest = [];
        total = new_total lines [] w room e;
        to_come = done (ap is_none l.0) refl;
      }
  advance lines (goes_on m st taken) w l there room fits e =
      record {
        forward = omega (arith, there, length-take (s.to - s.from) (drop s.from window), f.forward);
        within = f.within;
        first = λ z. absurd (omega arith);
        ends = f.ends;
        rest = gather text_of (serve (calls_left (s.place + 1)) m st (s.place + 1) (drop taken (bytes_left s window ++ unread)));
        total = new_total lines (serve (calls_left (s.place + 1)) m st (s.place + 1) (drop taken (bytes_left s window ++ unread))) w room e;
        to_come = calling m st (ap is_none l.0) (omega arith) (omega (arith, fits (ap is_none l.0))) l.1
            (ap (λ (b : List ℕ). gather text_of (serve (calls_left (s.place + 1)) m st (s.place + 1) b)) (ap (λ (n : ℕ). drop n (bytes_left s window ++ unread)) (sym (ap (λ (t : Option ℕ). unwrap_or t 0) l.0)) ∙ new_bytes there));
      }

  shown_size : length (bytes_left s window) ≡ s.to - s.from
  shown_size = omega (arith, length-take (s.to - s.from) (drop s.from window), length-drop s.from window, f.within, f.forward)

  all_read : s.ended ≡ true → bytes_left s window ++ unread ≡ bytes_left s window
  all_read e = ap (λ (l : List ℕ). bytes_left s window ++ l) (f.ends e) ∙ append-nil (bytes_left s window)

  begin_shown : Fed s → s.place ≡ 0 → begin_plan (bytes_left s window ++ unread) ≡ begin_plan (bytes_left s window)
  begin_shown fed z =
      ⊎_elim
      (λ over. ap begin_plan (all_read over))
      (λ enough. begin_same (bytes_left s window) unread (let most : window_bytes ≤ s.to - s.from = subst (λ (n : ℕ). needed_at n ≤ s.to - s.from) z enough in omega (arith, most, shown_size)))
      fed

  turn_shown : Fed s → 1 ≤ s.place → (m : Map) (st : State) → turn_plan m st s.place (bytes_left s window ++ unread) ≡ turn_plan m st s.place (bytes_left s window)
  turn_shown fed h m st =
      ⊎_elim
      (λ over. ap (turn_plan m st s.place) (all_read over))
      (λ enough.
      turn_same m st s.place (bytes_left s window) unread
      (let most : longest_call ≤ s.to - s.from = subst (λ (b : Bool). cond b window_bytes longest_call ≤ s.to - s.from) (ne_eqb s.place 0 (λ z. omega arith)) enough in omega (arith, most, shown_size)))
      fed

  stepped : s.over ≡ false → Fed s → (s.place ≡ 0 → BeginStep (bytes_left s window) step memory memory' out out')
      → (1 ≤ s.place → TurnStep (bytes_left s window) s.place step memory memory' out s.out out')
      → ToCome s.over s.place memory (bytes_left s window ++ unread) f.rest → Faithful input unread written window memory' out' (after_step s step)
  unfolding desk_text
  stepped going fed begins turns (opening o z t) =
      let b = begins z in
      let plan = begin_shown fed z in
      let one : 1 ≡ s.place + 1 = omega arith in
      advance (begin_plan (bytes_left s window)).lines (begin_plan (bytes_left s window)).sequel
      (subst⁻¹ (λ (k : ℕ). Wrote out k (gather text_of (begin_plan (bytes_left s window)).lines) step.end out') (f.first z) b.goes.wrote)
      b.goes.follows
      b.there
      b.room
      (λ over. omega arith)
      (f.total
      ∙ ap (λ (l : List ℕ). (written ++ take s.out out) ++ l)
      (t ∙ ap (gather text_of) (begin_lines (bytes_left s window ++ unread)) ∙ (λ i. gather text_of ((plan i).lines ++ lines_to (one i) (plan i).sequel (bytes_left s window ++ unread)))))
  stepped going fed begins turns (calling m st o h few shows t) =
      let turn = turns h in
      let goes = turn.goes m st shows in
      let plan = turn_shown fed h m st in
      advance (turn_plan m st s.place (bytes_left s window)).lines (turn_plan m st s.place (bytes_left s window)).sequel
      goes.wrote
      goes.follows
      turn.there
      turn.room
      (λ over. ⊎_elim (λ late. absurd (clash (ap is_none (turn.ends late)) over)) (λ early. early) (before_or_after s.place))
      (f.total
      ∙ ap (λ (l : List ℕ). (written ++ take s.out out) ++ l)
      (t ∙ ap (gather text_of) (turn_lines m st s.place (bytes_left s window ++ unread) few)
      ∙ (λ i. gather text_of ((plan i).lines ++ lines_to (s.place + 1) (plan i).sequel (bytes_left s window ++ unread)))))
  stepped going fed begins turns (done o t) = absurd (clash o going)

module _ (input : List ℕ) where
  faithful : {unread written window memory out : List ℕ} {s : Desk} → Underway input unread written window memory out s → Faithful input unread written window memory out s
  faithful (starts window memory out) =
      record {
        forward = omega arith;
        within = omega arith;
        first = λ z. refl;
        ends = λ e. absurd (clash e refl);
        rest = desk_text input;
        total = refl;
        to_come = opening refl refl refl;
      }
  faithful (reads {unread} {written} {window} {memory} {out} {s} window' window'' count u p r) =
      let f = faithful u in
      record {
        forward = omega arith;
        within = omega (arith, r.most, r.size, p.size, f.within, f.forward);
        first = f.first;
        ends = read_ends unread window window' window'' s count p r (omega (arith, p.size, f.within, f.forward));
        rest = f.rest;
        total = f.total;
        to_come = subst⁻¹ (λ (b : List ℕ). ToCome s.over s.place memory b f.rest) (read_bytes unread window window' window'' s count p r) f.to_come;
      }
  faithful (writes {unread} {written} {window} {memory} {out} {s} u) =
      let f = faithful u in
      record {
        forward = f.forward;
        within = f.within;
        first = λ z. refl;
        ends = f.ends;
        rest = f.rest;
        total = f.total ∙ ap (λ (l : List ℕ). l ++ f.rest) (sym (append-nil (written ++ take s.out out)));
        to_come = f.to_come;
      }
  faithful (steps {unread} {written} {window} {memory} {out} {s} memory' out' s' u may n) =
      let f = faithful u in
      subst⁻¹ (Faithful input unread written window memory' out') n.is
      (stepped input unread written window memory memory' out out' s n.step f may.going may.fed n.begins n.turns f.to_come)

pub writes_transcript : WritesTranscript
writes_transcript input unread written window memory out s u over = by f.to_come f.total
  where
    f : Faithful input unread written window memory out s
    f = faithful input u

    by : {rest : List ℕ} → ToCome s.over s.place memory (bytes_left s window ++ unread) rest → desk_text input ≡ (written ++ take s.out out) ++ rest
        → written ++ take s.out out ≡ desk_text input
    by (opening o z t) e = absurd (clash over o)
    by (calling m st o h few shows t) e = absurd (clash over o)
    by (done o t) e = sym (e ∙ ap (λ (l : List ℕ). (written ++ take s.out out) ++ l) t ∙ append-nil (written ++ take s.out out))
