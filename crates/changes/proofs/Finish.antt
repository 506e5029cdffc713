-- The change on the words used: what its verdict, and the change that is made, come to.
-- Assumes nothing.
use mathlib.Core.Path.{◌≡◌, refl, sym, ap, subst, ◌∙◌}
use mathlib.Core.Bool.{true, false, not}
use mathlib.Core.List.{List}
use Prim.Native.Nat.{ℕ, suc, ◌+◌}
use native.Mathlib.Omega.{arith}
use native.Mathlib.Decide.{ℕ_discrete}
use borrow.Author.Tests.{eq-eqb, ne_eqb}
use Rattle.std.specs.Prelude.{Result, Ok, Err}
use Rattle.words.specs.Limits.{last_count}
use Rattle.words.specs.Lists.{word}
use Rattle.layout.specs.Layout.{count_in_head}
use Rattle.roads.specs.Map.{Map}
use Rattle.maps.specs.Sound.{Sound}
use Rattle.answers.specs.declared.Refusal.{Refusal}
use Rattle.answers.specs.declared.Refusal.TheVariants.{CountFull}
use Rattle.answers.specs.Answered.{answered}
use Rattle.counts.specs.declared.Counts.{Counts}
use Rattle.places.specs.Place.{counts_in}
use Rattle.fleet.specs.State.{Slot, State, slot_of}
use Rattle.fleet.specs.Good.{Good}
use Rattle.fleet.specs.declared.Change.{Change}
use Rattle.fleet.specs.Change.{refused, accepted, in_range, count_left, refusal_of, van_of, slot_after, Stepped, step_by, step}
use Rattle.fleet.proofs.Good.{van_in_range_lem, step_good}
use Rattle.image.specs.Image.{image}
use Rattle.van_lists.specs.declared.VanWords.{VanWords}
use Rattle.van_lists.specs.Slot.{standing_words}
use Rattle.van_lists.specs.Walk.{van_in}
use Rattle.van_lists.proofs.Relink.{slot_new}
use Rattle.road_lookup.proofs.Shown.{counts_of, counts_read, image_roads}
use Rattle.refusals.specs.Verdict.{Verdict, HasVerdict}
use Rattle.refusals.proofs.Agrees.{VerdictAgrees, agrees}
use Rattle.refusals.proofs.Later.{judged_later}
use Rattle.changes.specs.Made.{counted, settled}
use Rattle.changes.specs.Done.{ChangeDone}
use Rattle.changes.proofs.Reading.{count_read, image_weights, van_read}
use Rattle.changes.proofs.Whole.{OnMap, image_settled}

-- a step by the refusal that is known
step_by_lem : (m : Map) (s : State) (c : Change) (n : ℕ) → refusal_of m s c ≡ n → step m s c ≡ step_by n m s c
unfolding step
step_by_lem m s c n e = ap (λ (k : ℕ). step_by k m s c) e

-- what the code read before the verdict
pub record Read (mem : List ℕ) (c : Change) (counts : Counts) (van : ℕ) (old : VanWords) : Type 0 where
  pub counts_is : counts ≡ counts_in mem
  pub van_is : van ≡ van_of c
  pub old_is : old ≡ van_in mem counts van

module _ (mem : List ℕ) (c : Change) (counts : Counts) (van : ℕ) (old : VanWords) (read : Read mem c counts van old) where
  -- the same of the words of a map and a fleet
  module _ (m : Map) (s : State) (sound : Sound m) (good : Good m s) (e : mem ≡ image m s) (ok : in_range c ≡ true) where
    counts_are : counts ≡ counts_of m
    counts_are = read.counts_is ∙ ap counts_in e ∙ counts_read m s good.slots

    old_are : old ≡ standing_words (slot_of s (van_of c))
    old_are = read.old_is ∙ (λ i. van_in (e i) (counts_are i) (read.van_is i)) ∙ van_read m s good.slots (van_of c) (van_in_range_lem c ok)

    agreed : (verdict : Verdict) → HasVerdict mem counts old c verdict → VerdictAgrees m s c verdict
    agreed verdict j =
        agrees m s (image m s) (counts_of m) sound (image_roads m s good.slots) (image_weights m s good.slots) c ok verdict
        (subst (λ (k : VanWords). HasVerdict (image m s) (counts_of m) k c verdict) old_are
        (subst (λ (k : Counts). HasVerdict (image m s) k old c verdict) counts_are
        (subst (λ (l : List ℕ). HasVerdict l counts old c verdict) e j)))

  pub refused_done : (r : Refusal) → HasVerdict mem counts old c (Err r) → ChangeDone c mem (answered (Err r)) mem
  refused_done r j =
      record {
        right = λ m s sound good e ok.
            let a = agreed m s sound good e ok (Err r) j in
            let by : step m s c ≡ step_by (suc a.0) m s c = step_by_lem m s c (suc a.0) a.1 in
            (a.2 ∙ ap (λ (k : Stepped). k.answer) (sym by), e ∙ ap (λ (k : Stepped). image m k.state) (sym by));
        refusal = λ n same. refl;
        neither = judged_later mem counts old c (Err r) j;
      }

  module _ (w : VanWords) (j : HasVerdict mem counts old c (Ok w)) (r : Result ℕ Refusal) (after : List ℕ)
      (answer : r ≡ counted (word mem count_in_head)) (words : after ≡ settled mem counts van old w) where
    used_up : word mem count_in_head ≡ last_count → (r ≡ Err CountFull) × (after ≡ mem)
    unfolding settled
    used_up last = (answer ∙ rw (eq-eqb (word mem count_in_head) last_count last), words ∙ rw (eq-eqb (word mem count_in_head) last_count last))

    goes : (word mem count_in_head ≡ last_count → ⊥) → r ≡ Ok (word mem count_in_head + 1)
    goes more = answer ∙ rw (ne_eqb (word mem count_in_head) last_count more)

    right : (m : Map) (s : State) → Sound m → Good m s → mem ≡ image m s → in_range c ≡ true → (answered r ≡ (step m s c).answer) × (after ≡ image m (step m s c).state)
    right m s sound good e ok = elim (ℕ_discrete s.count last_count) [ yes last ↦ refuses last | no more ↦ accepts more ]
      where
        count : word mem count_in_head ≡ s.count
        count = ap (λ (l : List ℕ). word l 5) e ∙ count_read m s good.slots

        a : VerdictAgrees m s c (Ok w)
        a = agreed m s sound good e ok (Ok w) j

        refuses : s.count ≡ last_count → (answered r ≡ (step m s c).answer) × (after ≡ image m (step m s c).state)
        refuses last =
            let none : count_left s ≡ false = ap not (eq-eqb s.count last_count last) in
            let by : step m s c ≡ step_by 15 m s c = step_by_lem m s c 15 (a.0 ∙ simp none) in
            let kept : (r ≡ Err CountFull) × (after ≡ mem) = used_up (count ∙ last) in
            (ap answered kept.0 ∙ ap (λ (k : Stepped). k.answer) (sym by), kept.1 ∙ e ∙ ap (λ (k : Stepped). image m k.state) (sym by))

        accepts : (s.count ≡ last_count → ⊥) → (answered r ≡ (step m s c).answer) × (after ≡ image m (step m s c).state)
        accepts more = (
          ap answered (goes (λ z. more (sym count ∙ z))) ∙ ap (λ (k : ℕ). accepted (k + 1)) count ∙ ap (λ (k : Stepped). k.answer) (sym by),
          words
              ∙ (λ i. settled (e i) (counts_are m s sound good e ok i) (read.van_is i) (old_are m s sound good e ok i) w)
              ∙ image_settled m sound s good.slots (van_of c) (van_in_range_lem c ok) w new (a.1 (s.count + 1)) (λ v there. (good.van (van_of c) v there).road) on-map more
              ∙ ap (λ (k : Stepped). image m k.state) (sym by),
        )
          where
            left : count_left s ≡ true
            left = ap not (ne_eqb s.count last_count more)

            by : step m s c ≡ step_by 0 m s c
            by = step_by_lem m s c 0 (a.0 ∙ simp left)

            new : Slot
            new = slot_after m c (s.count + 1) (slot_of s (van_of c))

            good' : Good m (step_by 0 m s c).state
            good' = subst (λ (k : Stepped). Good m k.state) by (step_good m s c good)

            on-map : OnMap m new
            on-map v there = (good'.van (van_of c) v (slot_new m s good.slots (van_of c) (van_in_range_lem c ok) new ∙ there)).road

    pub stands_done : ChangeDone c mem (answered r) after
    stands_done =
        record {
          right = right;
          refusal = λ n same.
              elim (ℕ_discrete (word mem count_in_head) last_count) [
                | yes last ↦ (used_up last).1
                | no more ↦ let z : ◌≡◌ {A = ℕ} 0 1 = differ (sym (ap answered (goes more)) ∙ same) in absurd (omega arith)
              ];
          neither = elim (ℕ_discrete (word mem count_in_head) last_count) [
            | yes last ↦ rw (used_up last).0 (λ e. omega arith, λ e. omega arith)
            | no more ↦ rw (goes more) (λ e. omega arith, λ e. omega arith)
          ];
        }
      where
        differ : {x n : ℕ} → accepted x ≡ refused n → ◌≡◌ {A = ℕ} 0 1
        differ same = cc
