-- What a call does, from what the core does: its lines on any memory, and those of the map and the fleet that the memory shows.
-- Assumes nothing.
use mathlib.Core.Path.{◌≡◌, refl, sym, ap, ◌∙◌}
use mathlib.Core.Logic.{⊎_elim}
use mathlib.Core.Bool.{true, false, cond}
use mathlib.Core.List.{List, [], ◌∷◌, ◌++◌, map}
use Prim.Native.Nat.{ℕ, zero, suc, ◌+◌, ◌*◌, ◌≤◌, min}
use native.Mathlib.Numerals.{add-one}
use native.Mathlib.Omega.{arith}
use lib.ListN.{length, drop, length-append, length-take, take-append-drop}
use lib.Seq.{take_all}
use lib.Dec.{leb, ltb}
use borrow.Author.Tests.{le-leb}
use Rattle.words.specs.Limits.{most_asked}
use Rattle.words.specs.Lists.{gather}
use Rattle.words.specs.Tests.{within, ◌unless◌then◌}
use Rattle.words.proofs.Tests.{true_or_false, both_true, within_true}
use Rattle.roads.specs.Map.{Map}
use Rattle.parts.specs.Size.{need}
use Rattle.fleet.specs.State.{State}
use Rattle.fleet.specs.declared.Change.{Change}
use Rattle.fleet.specs.Change.{Answer, refused, accepted, number_of, value_of}
use Rattle.fleet.specs.Question.{Listed, listed_words, coming_from, sorted, nearest, question_in_range, Response, list_into, reply_by, reply}
use Rattle.image.specs.Image.{image}
use Rattle.calls.specs.Head.{Shows}
use Rattle.calls.specs.Outcome.{Changed, Asked}
use Rattle.desk_lines.specs.declared.record.Call.{Call}
use Rattle.desk_lines.specs.declared.record.Call.TheVariants.{Changes, Asks}
use Rattle.desk_lines.specs.declared.line.Line.{Line}
use Rattle.desk_lines.specs.declared.line.Line.TheVariants.{No, Length}
use Rattle.desk_lines.specs.Line.{line_bytes, text_of}
use Rattle.desk_lines.specs.Written.{Wrote}
use Rattle.desk_lines.specs.Desk.{change_line, van_line, question_lines}
use Rattle.desk_lines.proofs.Lines.{wrote_line, wrote_after, line_few, lines_few}
use Rattle.desk_lines.proofs.Writing.{wrote_none, wrote_more}
use Rattle.desk_calls.specs.Listed.{listed_at, van_lines, list_lines}
use Rattle.desk_calls.specs.Served.{answer_words, Served}
use Rattle.desk_calls.proofs.Listed.{lines_shown}

-- The lines of a list.

vans_length : (place : ℕ) (words : List ℕ) (n : ℕ) → length (van_lines place words n) ≡ n
unfolding van_lines
vans_length place words zero = refl
vans_length place words (suc n) =
    length-append (van_lines place words n) (van_line place (listed_at words n) ∷ []) ∙ (let same : length (van_lines place words n) + 1 ≡ suc n = omega (arith, vans_length place words n) in same)

module _ (place : ℕ) (words : List ℕ) where
  pub vans_none : (out : List ℕ) (at : ℕ) → Wrote out at (gather text_of (van_lines place words 0)) at out
  unfolding van_lines
  vans_none out at = wrote_none out at

  pub vans_next : {out out₁ out' : List ℕ} {at mid end : ℕ} (i : ℕ) (line : Line) → line ≡ van_line place (listed_at words i)
      → Wrote out at (gather text_of (van_lines place words i)) mid out₁ → Wrote out₁ mid (text_of line) end out'
      → Wrote out at (gather text_of (van_lines place words (i + 1))) end out'
  unfolding van_lines
  vans_next i line e a b = rw (add-one, ← e) (wrote_after (van_lines place words i) line a b)

  pub vans_end : {out out' : List ℕ} {at end : ℕ} (i : ℕ) → Wrote out at (gather text_of (van_lines place words i)) end out' → end ≤ at + line_bytes * i
  vans_end i w = omega (arith, w.ends, lines_few (van_lines place words i), vans_length place words i)

  pub list_whole : {out out₁ out' : List ℕ} {at mid end : ℕ} (count i : ℕ) (line : Line) → line ≡ Length place count → Wrote out at (text_of line) mid out₁
      → Wrote out₁ mid (gather text_of (van_lines place words i)) end out' → i ≡ min count most_asked → Wrote out at (gather text_of (list_lines place count words (min count most_asked))) end out'
  list_whole count i line e a b all = rw (← e, ← all) (wrote_more a b)

pub line_end : {out out' : List ℕ} {at end : ℕ} (line : Line) → Wrote out at (text_of line) end out' → end ≤ at + line_bytes
line_end line w = omega (arith, w.ends, line_few line)

-- A change, and a question.

pub served_as : {a b : Call} {place at end : ℕ} {mem mem' out out' : List ℕ} → a ≡ b → Served b place mem mem' out at end out' → Served a place mem mem' out at end out'
served_as e h = rw e h

pub served_change : (c : Change) (line : Line) {place at end : ℕ} {mem mem' out out' : List ℕ} {answer : Answer} → Changed c mem answer mem' → line ≡ change_line place answer
    → Wrote out at (text_of line) end out' → Served (Changes c) place mem mem' out at end out'
served_change c line {place} outcome e w =
    record {
      lines = line ∷ [];
      few = omega arith;
      wrote = wrote_line line w;
      genuine = λ m s shows. let done = outcome.genuine m s shows in (ap (λ (l : Line). l ∷ []) (e ∙ ap (change_line place) done.0), done.1);
    }

-- the desk lends answer words enough
module _ (m : Map) (s : State) (x k : ℕ) (words : List ℕ) (room : length words ≡ answer_words) where
  in_range_lem : question_in_range m.vertices x k ≡ true → (reply m s x k words ≡ list_into (nearest m s x k) words) × (k ≤ most_asked)
  unfolding reply
  in_range_lem fits =
      let few = (within_true 1 most_asked k (both_true (ltb x m.vertices) (within 1 most_asked k) fits).1).1 in (
        (λ i. reply_by (7 unless fits i then (5 unless le-leb (3 * k) (length words) (omega arith) i then 0)) m s x k words),
        few,
      )

  out_of_range_lem : question_in_range m.vertices x k ≡ false → (reply m s x k words).answer ≡ refused 7
  unfolding reply
  out_of_range_lem shut = λ i. (reply_by (7 unless shut i then (5 unless leb (3 * k) (length words) then 0)) m s x k words).answer

  lines_in : (place : ℕ) → question_in_range m.vertices x k ≡ true
      → question_lines m s place x k ≡ Length place (length (nearest m s x k)) ∷ map (van_line place) (nearest m s x k)
  unfolding question_lines
  lines_in place fits = λ i. cond (fits i) (Length place (length (nearest m s x k)) ∷ map (van_line place) (nearest m s x k)) (No place 7 ∷ [])

  lines_out : (place : ℕ) → question_in_range m.vertices x k ≡ false → question_lines m s place x k ≡ No place 7 ∷ []
  unfolding question_lines
  lines_out place shut = λ i. cond (shut i) (Length place (length (nearest m s x k)) ∷ map (van_line place) (nearest m s x k)) (No place 7 ∷ [])

  list_few : k ≤ most_asked → length (nearest m s x k) ≤ most_asked
  unfolding nearest
  list_few h = omega (arith, length-take k (sorted (coming_from m x 0 s.vans)))

  -- an accepted question's list, and a refused one's line
  question_listed : (place : ℕ) {value : ℕ} {words' : List ℕ} → accepted value ≡ (reply m s x k words).answer → words' ≡ (reply m s x k words).words
      → list_lines place value words' (min value most_asked) ≡ question_lines m s place x k
  unfolding list_into
  question_listed place {value} {words'} isAnswer isWords =
      ⊎_elim
      (λ fits.
      let found = nearest m s x k in
      let by = in_range_lem fits in
      let count : value ≡ length found = ap value_of (isAnswer ∙ ap (λ (r : Response). r.answer) by.0) in
      let shown : words' ≡ gather listed_words found ++ drop (3 * length found) words = isWords ∙ ap (λ (r : Response). r.words) by.0 in
      let all : min value most_asked ≡ length found = omega (arith, count, list_few by.1) in
      (λ i. list_lines place (count i) (shown i) (all i))
      ∙ ap (λ (l : List Line). Length place (length found) ∷ l) (lines_shown place found (drop (3 * length found) words) (length found) (omega arith))
      ∙ ap (λ (l : List Listed). Length place (length found) ∷ map (van_line place) l) (take_all (length found) found (omega arith))
      ∙ sym (lines_in place fits))
      (λ shut. absurd (let clash : accepted value ≡ refused 7 = isAnswer ∙ out_of_range_lem shut in cc))
      (true_or_false (question_in_range m.vertices x k))

  question_refused : (place : ℕ) {number : ℕ} → refused number ≡ (reply m s x k words).answer → No place number ∷ [] ≡ question_lines m s place x k
  unfolding list_into
  question_refused place {number} isAnswer =
      ⊎_elim
      (λ fits. absurd (let clash : refused number ≡ accepted (length (nearest m s x k)) = isAnswer ∙ ap (λ (r : Response). r.answer) (in_range_lem fits).0 in cc))
      (λ shut. ap (λ (n : ℕ). No place n ∷ []) (ap number_of (isAnswer ∙ out_of_range_lem shut)) ∙ sym (lines_out place shut))
      (true_or_false (question_in_range m.vertices x k))

kept : (m : Map) (s : State) {mem : List ℕ} → Shows m s mem → mem ≡ image m s ++ drop (need m) mem
kept m s {mem} shows = sym (take-append-drop (need m) mem) ∙ ap (λ (l : List ℕ). l ++ drop (need m) mem) shows.words

module _ {place at end : ℕ} {mem out out' : List ℕ} (x k : ℕ) {words words' : List ℕ} (room : length words ≡ answer_words) where
  pub served_list : (value : ℕ) → Asked mem x k words (accepted value) words'
      → Wrote out at (gather text_of (list_lines place value words' (min value most_asked))) end out' → Served (Asks x k) place mem mem out at end out'
  served_list value asked w =
      record {
        lines = list_lines place value words' (min value most_asked);
        few = omega (arith, vans_length place words' (min value most_asked));
        wrote = w;
        genuine = λ m s shows. let told = asked.genuine m s shows in (question_listed m s x k words room place told.0 told.1, kept m s shows);
      }

  pub served_refused : {number : ℕ} (line : Line) {answer : Answer} → Asked mem x k words answer words' → answer ≡ refused number → line ≡ change_line place answer
      → Wrote out at (text_of line) end out' → Served (Asks x k) place mem mem out at end out'
  served_refused {number} line {answer} asked is e w =
      record {
        lines = line ∷ [];
        few = omega arith;
        wrote = wrote_line line w;
        genuine = λ m s shows. (
          ap (λ (l : Line). l ∷ []) (e ∙ ap (change_line place) is) ∙ question_refused m s x k words room place (sym is ∙ (asked.genuine m s shows).0),
          kept m s shows,
        );
      }
