-- A lookup on the words used of a memory, as a lookup on the whole of it.
-- Assumes nothing.
use mathlib.Core.Path.{◌≡◌, refl, ap, subst⁻¹, ◌∙◌}
use mathlib.Core.Logic.{◌≢◌, inl, inr}
use mathlib.Core.List.{List}
use Prim.Native.Nat.{ℕ}
use native.Mathlib.Omega.{arith}
use lib.ListN.{take}
use Rattle.std.specs.Prelude.{Result, Ok, Err, IfErr}
use Rattle.words.proofs.Tests.{clash, true_or_false}
use Rattle.roads.specs.Map.{Map}
use Rattle.fleet.specs.State.{State}
use Rattle.fleet.specs.Change.{number_of, is_road}
use Rattle.fleet.specs.Look.{FindRoad, look_refusal, look_value, look}
use Rattle.image.specs.Image.{image}
use Rattle.calls.specs.Head.{Shows}
use Rattle.calls.specs.Outcome.{LookedUp}
use Rattle.calls.proofs.Head.{shown_opened}
use Rattle.calls.proofs.Screen.{screened_unopened, screened_neither}
use Rattle.counts.specs.declared.Counts.{Counts}
use Rattle.places.specs.Place.{counts_in}
use Rattle.answers.specs.declared.Refusal.{Refusal}
use Rattle.answers.specs.Answered.{answered}
use Rattle.road_lookup.specs.Lookup.{RoadsKnown}
use Rattle.road_lookup.specs.Answer.{lookup_of, MissingRoad}
use Rattle.road_lookup.proofs.Shown.{counts_read, image_roads}
use Rattle.look.specs.Looked.{reply_for, LookedIn}
use Rattle.head.specs.Used.{used_words}
use Rattle.head.proofs.Used.{Used, used_there, unused, used_shown}

later : (lookup : Result ℕ Refusal) → IfErr lookup MissingRoad → (number_of (answered (reply_for lookup)) ≢ 6) × (number_of (answered (reply_for lookup)) ≢ 7)
later (Ok road) missing = (λ e. omega arith, λ e. omega arith)
later (Err refusal) missing = by missing
  where
    by : MissingRoad refusal → (number_of (answered (Err refusal)) ≢ 6) × (number_of (answered (Err refusal)) ≢ 7)
    by (inl is) = rw is (λ e. omega arith, λ e. omega arith)
    by (inr is) = rw is (λ e. omega arith, λ e. omega arith)

-- on a map it is the definitions' answer
look_is : (m : Map) (s : State) (u v : ℕ) → answered (reply_for (lookup_of m u v)) ≡ look m s (FindRoad u v)
unfolding look look_refusal look_value
look_is m s u v =
    elim (true_or_false (is_road m u v)) [
      | inl road ↦ rw road
      | inr none ↦ elim (true_or_false (is_road m v u)) [ inl back ↦ rw (none, back) | inr neither ↦ rw (none, neither) ]
    ]

module _ (mem : List ℕ) (from to : ℕ) where
  pub looked_unopened : (refusal : Refusal) → Err refusal ≡ used_words mem → LookedUp mem from to (answered (Err refusal))
  looked_unopened refusal e =
      let not_opened = unused mem refusal e in
      rw (not_opened.1) (record { screened = screened_unopened not_opened.0; genuine = λ m s shows. absurd (clash (shown_opened shows) not_opened.0) })

  pub looked_inside : (used : ℕ) (reply : Result ℕ Refusal) → Ok used ≡ used_words mem → LookedIn (take used mem) from to reply → LookedUp mem from to (answered reply)
  looked_inside used reply isUsed looked =
      rw looked.is
      (record {
        screened = screened_neither inside.there refl (later looked.road looked.missing);
        genuine = λ m s shows. ap (λ (l : Result ℕ Refusal). answered (reply_for l)) (looked.found m shows.sound (stand m s shows)) ∙ look_is m s from to;
      })
    where
      inside : Used mem used
      inside = used_there mem used isUsed

      stand : (m : Map) (s : State) → Shows m s mem → RoadsKnown m (counts_in (take used mem)) (take used mem)
      stand m s shows =
          subst⁻¹ (λ (words : List ℕ). RoadsKnown m (counts_in words) words) (used_shown mem used m s inside shows)
          (subst⁻¹ (λ (counts : Counts). RoadsKnown m counts (image m s)) (counts_read m s shows.good.slots) (image_roads m s shows.good.slots))
