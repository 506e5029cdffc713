-- A change on the words used of a memory, as a change on the whole of it.
-- Assumes nothing.
use mathlib.Core.Path.{◌≡◌, refl, sym, ap, ◌∙◌}
use mathlib.Core.Bool.{true, false, ◌&&◌}
use mathlib.Core.List.{List, ◌++◌}
use Prim.Native.Nat.{ℕ, ◌≤◌, ◌<◌}
use native.Mathlib.Omega.{arith}
use lib.ListN.{length, take, drop, take-append-drop}
use lib.Seq.{length-take-le, length_front, drop_at}
use Rattle.std.specs.Prelude.{Ok, Err}
use Rattle.words.specs.Limits.{most_desk}
use Rattle.words.proofs.Tests.{clash, both_true, within_true}
use Rattle.roads.specs.Map.{Map}
use Rattle.parts.specs.Size.{need}
use Rattle.answers.specs.declared.Refusal.{Refusal}
use Rattle.answers.specs.declared.Refusal.TheVariants.{OutOfRange}
use Rattle.answers.specs.Answered.{answered}
use Rattle.fleet.specs.State.{State}
use Rattle.fleet.specs.declared.Change.{Change}
use Rattle.fleet.specs.declared.Change.TheVariants.{Add, Move, Remove, Claim, Release}
use Rattle.fleet.specs.Change.{Answer, van_in_range, desk_in_range, in_range, refusal_of, Stepped, step_by, step}
use Rattle.image.specs.Image.{image}
use Rattle.refusals.specs.Verdict.{desk_of}
use Rattle.calls.specs.Head.{Shows}
use Rattle.calls.specs.Outcome.{Changed}
use Rattle.calls.proofs.Head.{opened_fits, used_word, shown_opened}
use Rattle.calls.proofs.Screen.{screened_unopened, screened_range, screened_neither}
use Rattle.head.specs.Used.{used_words}
use Rattle.head.proofs.Used.{Used, used_there, unused, used_shown}
use Rattle.changes.specs.Done.{ChangeDone}

-- ranges

desk_within : (van desk : ℕ) → (van_in_range van && desk_in_range desk) ≡ true → desk < 256
desk_within van desk e = let w = within_true 1 most_desk desk (both_true (van_in_range van) (desk_in_range desk) e).1 in omega (arith, w)

pub desk_small : (c : Change) → in_range c ≡ true → desk_of c < 256
desk_small (Add van u v offset) e = omega arith
desk_small (Move van u v offset) e = omega arith
desk_small (Remove van) e = omega arith
desk_small (Claim van stamp desk) e = desk_within van desk e
desk_small (Release van desk) e = desk_within van desk e

out_of_range_lem : (m : Map) (s : State) (c : Change) → in_range c ≡ false → refusal_of m s c ≡ 7
unfolding refusal_of
out_of_range_lem m s c e = simp e

module _ (c : Change) (mem : List ℕ) where
  -- a memory that shows a fleet is its words and what follows
  whole : (m : Map) (s : State) → Shows m s mem → mem ≡ image m s ++ drop (need m) mem
  whole m s shows = sym (take-append-drop (need m) mem) ∙ ap (λ (l : List ℕ). l ++ drop (need m) mem) shows.words

  pub changed_unopened : (refusal : Refusal) → Err refusal ≡ used_words mem → Changed c mem (answered (Err refusal)) mem
  changed_unopened refusal e =
      let not_opened = unused mem refusal e in
      rw not_opened.1
      (record {
        screened = screened_unopened not_opened.0;
        genuine = λ m s shows. absurd (clash (shown_opened shows) not_opened.0);
        refusal = λ n same. refl;
        size = refl;
        beyond = λ there. refl;
      })

  pub changed_range : (used : ℕ) → Ok used ≡ used_words mem → in_range c ≡ false → Changed c mem (answered (Err OutOfRange)) mem
  unfolding step
  changed_range used isUsed out =
      record {
        screened = screened_range (used_there mem used isUsed).there out;
        genuine = λ m s shows.
            let by : step m s c ≡ step_by 7 m s c = ap (λ (k : ℕ). step_by k m s c) (out_of_range_lem m s c out) in
            (ap (λ (k : Stepped). k.answer) (sym by), whole m s shows ∙ ap (λ (k : Stepped). image m k.state ++ drop (need m) mem) (sym by));
        refusal = λ n e. refl;
        size = refl;
        beyond = λ e. refl;
      }

  -- the change on the words used
  pub changed_inside : (used : ℕ) (answer : Answer) (out : List ℕ) → Ok used ≡ used_words mem → in_range c ≡ true
      → length out ≡ length (take used mem) → ChangeDone c (take used mem) answer out → Changed c mem answer (out ++ drop used mem)
  changed_inside used answer out isUsed ok sized done =
      record {
        screened = screened_neither inside.there ok done.neither;
        genuine = right;
        refusal = λ n e. ap (λ (l : List ℕ). l ++ drop used mem) (done.refusal n e) ∙ take-append-drop used mem;
        size = length_front mem out used sized;
        beyond = λ e. rw (← inside.is) (drop_at out (drop used mem) used (sized ∙ length-take-le used mem fits));
      }
    where
      inside : Used mem used
      inside = used_there mem used isUsed

      fits : used ≤ length mem
      fits = omega (arith, opened_fits mem inside.there, inside.is)

      right : (m : Map) (s : State) → Shows m s mem → (answer ≡ (step m s c).answer) × (out ++ drop used mem ≡ image m (step m s c).state ++ drop (need m) mem)
      right m s shows =
          let all : used ≡ need m = inside.is ∙ used_word shows in
          let made = done.right m s shows.sound shows.good (used_shown mem used m s inside shows) ok in
          (made.0, λ i. made.1 i ++ drop (all i) mem)
