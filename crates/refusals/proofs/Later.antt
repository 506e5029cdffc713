-- On any words a verdict refuses with neither 6 nor 7: the head and the ranges are tested before it.
-- Assumes nothing.
use mathlib.Core.Path.{subst⁻¹}
use mathlib.Core.Logic.{◌≢◌, inl, inr}
use mathlib.Core.Bool.{Bool, true, false, cond}
use mathlib.Core.List.{List}
use Prim.Native.Nat.{ℕ, ◌+◌}
use native.Mathlib.Omega.{arith}
use native.Mathlib.Decide.{ℕ_discrete}
use lib.Dec.{ltb, eqb}
use Rattle.std.specs.Prelude.{Result, Ok, Err, IfErr}
use Rattle.answers.specs.Answered.{answered}
use Rattle.answers.specs.declared.Refusal.{Refusal}
use Rattle.answers.specs.declared.Refusal.TheVariants.{NoSuchVan, OffsetAboveWeight, VanHeld, NotHeldByDesk, StampDiffers}
use Rattle.counts.specs.declared.Counts.{Counts}
use Rattle.fleet.specs.State.{absent}
use Rattle.fleet.specs.declared.Change.{Change}
use Rattle.fleet.specs.declared.Change.TheVariants.{Add, Move, Remove, Claim, Release}
use Rattle.fleet.specs.Change.{number_of}
use Rattle.van_lists.specs.declared.VanWords.{VanWords}
use Rattle.van_lists.specs.Slot.{standing_words}
use Rattle.road_lookup.specs.Answer.{MissingRoad}
use Rattle.refusals.specs.Verdict.{Verdict, weight_in, placing, removing, claiming, releasing, OnRoad, Adding, Moving, HasVerdict}

-- a refusal that is neither 6 nor 7
abbrev pub Later : Verdict → Type 0
Later (Err r) = (number_of (answered (Err r)) ≢ 6) × (number_of (answered (Err r)) ≢ 7)
Later (Ok w) = Unit {0}

later_if : (b : Bool) (x y : Verdict) → Later x → Later y → Later (cond b x y)
later_if true x y p q = p
later_if false x y p q = q

no_van : Later (Err NoSuchVan)
no_van = (λ e. omega arith, λ e. omega arith)

held : Later (Err VanHeld)
held = (λ e. omega arith, λ e. omega arith)

placing_later : (mem : List ℕ) (counts : Counts) (state : ℕ) (road : Result ℕ Refusal) (offset : ℕ) → IfErr road MissingRoad → Later (placing mem counts state road offset)
placing_later mem counts state (Ok road) offset missing =
    later_if (ltb (weight_in mem counts road) offset) (Err OffsetAboveWeight) (Ok (record { state = state; road = road; offset = offset; stamp = 0 }))
    (λ e. omega arith, λ e. omega arith) tt
placing_later mem counts state (Err refusal) offset missing = by missing
  where
    by : MissingRoad refusal → Later (Err refusal)
    by (inl is) = rw is (λ e. omega arith, λ e. omega arith)
    by (inr is) = rw is (λ e. omega arith, λ e. omega arith)

module _ (mem : List ℕ) (counts : Counts) (u v offset : ℕ) (verdict : Verdict) where
  on_road_later : (state : ℕ) → OnRoad mem counts u v (λ road. placing mem counts state road offset) verdict → Later verdict
  on_road_later state j = subst⁻¹ Later j.is (placing_later mem counts state j.road offset j.missing)

  adding_later : (old : VanWords) → Adding mem counts old u v offset verdict → Later verdict
  adding_later old j =
      elim (ℕ_discrete old.state 0) [
        | yes none ↦ on_road_later 1 (j.none none)
        | no there ↦ rw (j.there there) (λ e. omega arith, λ e. omega arith)
      ]

  moving_later : (old : VanWords) → Moving mem counts old u v offset verdict → Later verdict
  moving_later old j = elim (ℕ_discrete old.state 0) [ yes none ↦ rw (j.none none) no_van | no there ↦ on_road_later old.state (j.there there) ]

module _ (old : VanWords) where
  removing_later : Later (removing old)
  removing_later =
      later_if (eqb old.state 0) (Err NoSuchVan) (cond (eqb old.state 1) (Ok (standing_words absent)) (Err VanHeld)) no_van
      (later_if (eqb old.state 1) (Ok (standing_words absent)) (Err VanHeld) tt held)

  claiming_later : (stamp desk : ℕ) → Later (claiming old stamp desk)
  claiming_later stamp desk =
      later_if (eqb old.state 0) (Err NoSuchVan) (cond (eqb old.state 1) same (Err VanHeld)) no_van
      (later_if (eqb old.state 1) same (Err VanHeld) (later_if (eqb old.stamp stamp) stands (Err StampDiffers) tt (λ e. omega arith, λ e. omega arith)) held)
    where
      stands : Verdict
      stands = Ok (record { state = desk + 1; road = old.road; offset = old.offset; stamp = 0 })

      same : Verdict
      same = cond (eqb old.stamp stamp) stands (Err StampDiffers)

  releasing_later : (desk : ℕ) → Later (releasing old desk)
  releasing_later desk =
      later_if (eqb old.state 0) (Err NoSuchVan) (cond (eqb old.state (desk + 1)) stands (Err NotHeldByDesk)) no_van
      (later_if (eqb old.state (desk + 1)) stands (Err NotHeldByDesk) tt (λ e. omega arith, λ e. omega arith))
    where
      stands : Verdict
      stands = Ok (record { state = 1; road = old.road; offset = old.offset; stamp = 0 })

pub judged_later : (mem : List ℕ) (counts : Counts) (old : VanWords) (c : Change) (verdict : Verdict) → HasVerdict mem counts old c verdict → Later verdict
judged_later mem counts old (Add van u v offset) verdict j = adding_later mem counts u v offset verdict old j
judged_later mem counts old (Move van u v offset) verdict j = moving_later mem counts u v offset verdict old j
judged_later mem counts old (Remove van) verdict j = subst⁻¹ Later j (removing_later old)
judged_later mem counts old (Claim van stamp desk) verdict j = subst⁻¹ Later j (claiming_later old stamp desk)
judged_later mem counts old (Release van desk) verdict j = subst⁻¹ Later j (releasing_later old desk)
