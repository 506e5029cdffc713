-- The first step goes by its plan.
-- Assumes nothing.
use mathlib.Core.Path.{◌≡◌, refl, sym, ap, ◌∙◌, subst, subst⁻¹}
use mathlib.Core.Bool.{Bool, true, false, cond}
use mathlib.Core.List.{List, [], ◌∷◌, ◌++◌}
use Rattle.std.specs.Prelude.{Option, Some, None, Result, Ok, Err, unwrap_or}
use Prim.Native.Nat.{ℕ, ◌+◌, ◌-◌, ◌≤◌, ◌<◌, min}
use native.Mathlib.Decide.{dec_lt}
use native.Mathlib.Omega.{arith}
use lib.ListN.{length, take, drop, length-drop, drop_of_length-le}
use lib.Seq.{take_all}
use lib.Dec.{leb}
use borrow.Author.Tests.{le-leb}
use Rattle.words.specs.Lists.{gather}
use Rattle.words.specs.Tests.{◌unless◌then◌}
use Rattle.roads.specs.Map.{Map, road_count, part_count}
use Rattle.parts.specs.Size.{need}
use Rattle.maps.specs.Judge.{Judged, sound, judge}
use Rattle.maps.proofs.Judged.{judged_sound}
use Rattle.fleet.specs.State.{fresh_state}
use Rattle.fleet.specs.Change.{Answer, refused, accepted, number_of}
use Rattle.fleet.proofs.Good.{fresh_good}
use Rattle.image.specs.Image.{image}
use Rattle.calls.specs.Outcome.{open_sound, open_judged, opening, Opened}
use Rattle.calls.proofs.Run.{opened_memory}
use Rattle.counts.specs.declared.Counts.{Counts}
use Rattle.answers.specs.declared.Refusal.{Refusal}
use Rattle.answers.specs.Answered.{answered}
use Rattle.desk_lines.specs.declared.record.BadRecord.{BadRecord}
use Rattle.desk_lines.specs.declared.line.Line.{Line}
use Rattle.desk_lines.specs.declared.line.Line.TheVariants.{Opened as OpenedLine}
use Rattle.desk_lines.specs.Line.{text_of}
use Rattle.desk_lines.specs.Read.{opening_bytes, take_records, opening_of}
use Rattle.desk_lines.specs.Desk.{memory_room, refused_opening}
use Rattle.desk_lines.specs.Written.{Wrote}
use Rattle.desk_lines.proofs.Lines.{wrote_line}
use Rattle.desk_lines.proofs.Window.{opening_within}
use Rattle.desk_calls.proofs.Answers.{refused_is}
use Rattle.desk_steps.specs.declared.Step.{Step}
use Rattle.desk_steps.specs.Plan.{Sequel, stops, goes_on, Plan, last_lines, open_plan, judged_plan, taken_plan, begin_plan}
use Rattle.desk_steps.specs.Step.{Room, LastStep, Leads, GoesBy, OpenStep, BeginStep}
use Rattle.desk_steps.proofs.Closing.{lines_fit, closed_goes}
use Rattle.desk_steps.proofs.Turning.{shown_by}

abbrev counts_shown : Map → Counts
counts_shown m = record { vertices = m.vertices; roads = road_count m; parts = part_count m }

-- The opening record.

module _ (input : List ℕ) (map : ℕ) (counts : Counts) {shown : Result ℕ BadRecord} (is : shown ≡ opening_of (take (length input - map) (drop map input))) where
  there : opening_of (take (length input - map) (drop map input)) ≡ opening_of (drop map input)
  there = ap opening_of (take_all (length input - map) (drop map input) (omega (arith, length-drop map input)))

  module _ {start : ℕ} {mem mem' : List ℕ} {answer : Answer} (e : shown ≡ Ok start) (outcome : Opened (take map input) mem start answer mem') where
    -- a sound map that fits is accepted
    accepts : (m : Map) → judge (take map input) ≡ sound m → need m ≤ length mem → answer ≡ accepted start
    unfolding opening
    accepts m j fits =
        outcome.gives
        ∙ (λ i. (open_judged (j i) mem start).answer)
        ∙ (λ i. (open_sound (5 unless le-leb (need m) (length mem) fits i then 0) m mem start).answer)

    pub opens_refused : (refusal : Refusal) {r : Step} {out out' : List ℕ} → answer ≡ answered (Err refusal) → OpenStep input map counts r mem mem' out out'
    opens_refused refusal is_refused = λ m j fits same. absurd (let clash : refused (number_of (answered (Err refusal))) ≡ accepted start = sym (refused_is refusal) ∙ sym is_refused ∙ accepts m j fits in cc)

    pub opens : {end : ℕ} {out out' : List ℕ} (line : Line) → start ≤ 4294967295 → line ≡ OpenedLine counts.vertices counts.roads counts.parts
        → Wrote out 0 (text_of line) end out' → OpenStep input map counts (record { taken = Some (map + opening_bytes); end = end }) mem mem' out out'
    unfolding opening
    opens {end} {out} {out'} line fit is-line w =
        λ m j fits same.
        let given = accepts m j fits in
        let memory : mem' ≡ image m (fresh_state start) ++ drop (need m) mem = outcome.leaves ∙ opened_memory m (judge (take map input)) mem start j (sym given ∙ outcome.gives) in
        subst⁻¹ (λ (o : Result ℕ BadRecord). GoesBy (open_plan m map o) (record { taken = Some (map + opening_bytes); end = end }) mem mem' out 0 out') (sym there ∙ sym is ∙ e)
        (record {
          wrote = subst (λ (l : Line). Wrote out 0 (gather text_of (l ∷ [])) end out') (is-line ∙ ap (λ (n : Counts). OpenedLine n.vertices n.roads n.parts) same) (wrote_line line w);
          follows = (refl, shown_by m (fresh_state start) mem (judged_sound (take map input) m j) (fresh_good m start fit) memory, memory);
        })

-- The first step as a whole: how long its plan is, and the map that the input cuts off.

abbrev Lies : Sequel → ℕ → Type 0
Lies stops n = Unit {0}
Lies (goes_on m s taken) n = taken ≤ n

record Bounded (plan : Plan) (n : ℕ) : Type 0 where
  few : length plan.lines ≤ 2
  lies : Lies plan.sequel n

open_bounded : (m : Map) (at : ℕ) (bytes : List ℕ) (o : Result ℕ BadRecord) → opening_of (drop at bytes) ≡ o → Bounded (open_plan m at o) (length bytes)
open_bounded m at bytes (Err bad') e = record { few = omega arith; lies = tt }
open_bounded m at bytes (Ok start) e = record { few = omega arith; lies = omega (arith, opening_within (drop at bytes) e, length-drop at bytes) }

judged_bounded : (j : Judged) (at : ℕ) (bytes : List ℕ) → Bounded (judged_plan j at (drop at bytes)) (length bytes)
judged_bounded (Judged.refused n) at bytes = record { few = omega arith; lies = tt }
judged_bounded (sound m) at bytes = by (leb (need m) memory_room)
  where
    by : (fits : Bool) → Bounded (cond fits (open_plan m at (opening_of (drop at bytes))) (last_lines (refused_opening 5))) (length bytes)
    by true = open_bounded m at bytes (opening_of (drop at bytes)) refl
    by false = record { few = omega arith; lies = tt }

begin_bounded : (bytes : List ℕ) → Bounded (begin_plan bytes) (length bytes)
unfolding begin_plan
begin_bounded bytes = by (take_records 4 0 bytes)
  where
    by : (taken : Option ℕ) → Bounded (taken_plan taken bytes) (length bytes)
    by None = record { few = omega arith; lies = tt }
    by (Some at) = judged_bounded (judge (take at bytes)) at bytes

taken_there : (sequel : Sequel) (r : Step) (mem mem' : List ℕ) (n : ℕ) → Lies sequel n → Leads sequel r mem mem' → unwrap_or r.taken 0 ≤ n
taken_there stops r mem mem' n lies f = omega (arith, ap (λ (t : Option ℕ). unwrap_or t 0) f.0)
taken_there (goes_on m s taken) r mem mem' n lies f = omega (arith, ap (λ (t : Option ℕ). unwrap_or t 0) f.0, lies)

whole : (input : List ℕ) {r : Step} {mem mem' out out' : List ℕ} → Room 0 (length out) → GoesBy (begin_plan input) r mem mem' out 0 out' → BeginStep input r mem mem' out out'
whole input {r} {mem} {mem'} room g =
    let bounded = begin_bounded input in
    record {
      there = taken_there (begin_plan input).sequel r mem mem' (length input) bounded.lies g.follows;
      room = lines_fit (begin_plan input).lines (omega (arith, bounded.few)) room g.wrote;
      goes = g;
    }

nothing_left : (m : Map) (a b : ℕ) (rest : List ℕ) → rest ≡ [] → open_plan m a (opening_of rest) ≡ open_plan m b (opening_of rest)
nothing_left m a b rest e = by (opening_of rest) refl
  where
    by : (o : Result ℕ BadRecord) → opening_of rest ≡ o → open_plan m a o ≡ open_plan m b o
    by (Err bad') f = refl
    by (Ok start) f = absurd (omega (arith, opening_within rest f, ap length e))

cut_short : (j : Judged) (a b : ℕ) (rest : List ℕ) → rest ≡ [] → judged_plan j a rest ≡ judged_plan j b rest
cut_short (Judged.refused n) a b rest e = refl
cut_short (sound m) a b rest e = ap (λ (p : Plan). cond (leb (need m) memory_room) p (last_lines (refused_opening 5))) (nothing_left m a b rest e)

past : (n : ℕ) (bytes : List ℕ) → length bytes ≤ n → drop n bytes ≡ []
past n bytes h = drop_of_length-le bytes h

clipped : (at k : ℕ) (bytes : List ℕ) → k ≡ min at (length bytes) → judged_plan (judge (take k bytes)) k (drop k bytes) ≡ judged_plan (judge (take at bytes)) at (drop at bytes)
clipped at k bytes e = by (dec_lt (length bytes) at)
  where
    by : Dec (length bytes < at) → judged_plan (judge (take k bytes)) k (drop k bytes) ≡ judged_plan (judge (take at bytes)) at (drop at bytes)
    by (no fits) = let same : k ≡ at = omega (arith, fits) in ap (λ (n : ℕ). judged_plan (judge (take n bytes)) n (drop n bytes)) same
    by (yes short) =
        (λ i. judged_plan (judge ((take_all k bytes (omega arith) ∙ sym (take_all at bytes (omega arith))) i)) k (drop k bytes))
        ∙ cut_short (judge (take at bytes)) k at (drop k bytes) (past k bytes (omega arith))
        ∙ (λ i. judged_plan (judge (take at bytes)) at ((past k bytes (omega arith) ∙ sym (past at bytes (omega arith))) i))

module _ (input : List ℕ) {r : Step} {mem mem' out out' : List ℕ} (room : Room 0 (length out)) {taken : Option ℕ} (is : taken ≡ take_records 4 0 input) where
  pub begins_long : taken ≡ None → mem' ≡ mem → LastStep (refused_opening 5) r out 0 out' → BeginStep input r mem mem' out out'
  unfolding begin_plan
  begins_long e same c = whole input room (subst⁻¹ (λ (t : Option ℕ). GoesBy (taken_plan t input) r mem mem' out 0 out') (sym is ∙ e) (closed_goes (refused_opening 5) c same))

  pub begins_judged : (at k : ℕ) → taken ≡ Some at → k ≡ min at (length input) → GoesBy (judged_plan (judge (take k input)) k (drop k input)) r mem mem' out 0 out' → BeginStep input r mem mem' out out'
  unfolding begin_plan
  begins_judged at k e least g =
      whole input room (subst⁻¹ (λ (t : Option ℕ). GoesBy (taken_plan t input) r mem mem' out 0 out') (sym is ∙ e) (subst (λ (p : Plan). GoesBy p r mem mem' out 0 out') (clipped at k input least) g))
