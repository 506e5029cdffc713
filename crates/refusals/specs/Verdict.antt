-- What a change gets, but for the head, the ranges and the change count, by the words of the van and of the road: how the van is to stand, or the first
-- refusal. That this is what the definitions say of the fleet that these words show is proved (`proofs/`).
use Rattle.std.specs.Prelude.{◌≡◌, ◌≢◌, cond, List, ℕ, ◌+◌, ltb, eqb, Result, Ok, Err, IfErr}
use Rattle.words.specs.Lists.{word}
use Rattle.layout.specs.Layout.{weight_in_road}
use Rattle.answers.specs.declared.Refusal.{Refusal}
use Rattle.answers.specs.declared.Refusal.TheVariants.{NoSuchVan, VanPresent, OffsetAboveWeight, VanHeld, NotHeldByDesk, StampDiffers}
use Rattle.counts.specs.declared.Counts.{Counts}
use Rattle.places.specs.Place.{road_address}
use Rattle.fleet.specs.State.{absent}
use Rattle.fleet.specs.declared.Change.{Change}
use Rattle.fleet.specs.declared.Change.TheVariants.{Add, Move, Remove, Claim, Release}
use Rattle.van_lists.specs.declared.VanWords.{VanWords}
use Rattle.van_lists.specs.Slot.{standing_words}
use Rattle.road_lookup.specs.Answer.{LookupTells, MissingRoad}

-- the desk of a change that has one
abbrev pub desk_of : Change → ℕ
desk_of (Add van from to offset) = 0
desk_of (Move van from to offset) = 0
desk_of (Remove van) = 0
desk_of (Claim van stamp desk) = desk
desk_of (Release van desk) = desk

-- the weight of a road, in any words
abbrev pub weight_in : List ℕ → Counts → ℕ → ℕ
weight_in mem counts road = word mem (road_address counts road + weight_in_road)

-- how a van is to stand, but for its stamp, or the refusal
abbrev pub Verdict : Type 0
Verdict = Result VanWords Refusal

-- a place on the road that was looked up
abbrev pub placing : List ℕ → Counts → (state : ℕ) → Result ℕ Refusal → (offset : ℕ) → Verdict
placing mem counts state (Ok road) offset =
    cond (ltb (weight_in mem counts road) offset) (Err OffsetAboveWeight) (Ok (record { state = state; road = road; offset = offset; stamp = 0 }))
placing mem counts state (Err refusal) offset = Err refusal

-- a van that is there, and a free one
abbrev pub existing : VanWords → Verdict
existing old = cond (eqb old.state 0) (Err NoSuchVan) (Ok old)

abbrev pub free_one : VanWords → Verdict
free_one old = cond (eqb old.state 0) (Err NoSuchVan) (cond (eqb old.state 1) (Ok old) (Err VanHeld))

abbrev pub removing : VanWords → Verdict
removing old = cond (eqb old.state 0) (Err NoSuchVan) (cond (eqb old.state 1) (Ok (standing_words absent)) (Err VanHeld))

abbrev pub claiming : (old : VanWords) (stamp desk : ℕ) → Verdict
claiming old stamp desk =
    cond (eqb old.state 0) (Err NoSuchVan)
    (cond (eqb old.state 1)
    (cond (eqb old.stamp stamp) (Ok (record { state = desk + 1; road = old.road; offset = old.offset; stamp = 0 })) (Err StampDiffers))
    (Err VanHeld))

abbrev pub releasing : (old : VanWords) (desk : ℕ) → Verdict
releasing old desk =
    cond (eqb old.state 0) (Err NoSuchVan)
    (cond (eqb old.state (desk + 1)) (Ok (record { state = 1; road = old.road; offset = old.offset; stamp = 0 })) (Err NotHeldByDesk))

-- a verdict on a road that is looked up: `by` is what the lookup comes to
pub record OnRoad (mem : List ℕ) (counts : Counts) (u v : ℕ) (by : Result ℕ Refusal → Verdict) (verdict : Verdict) : Type 0 where
  pub road : Result ℕ Refusal
  pub found : LookupTells mem counts u v road
  pub missing : IfErr road MissingRoad
  pub is : verdict ≡ by road

-- a road is looked up for a van that is not there
pub record Adding (mem : List ℕ) (counts : Counts) (old : VanWords) (u v offset : ℕ) (verdict : Verdict) : Type 0 where
  pub there : old.state ≢ 0 → verdict ≡ Err VanPresent
  pub none : old.state ≡ 0 → OnRoad mem counts u v (λ road. placing mem counts 1 road offset) verdict

-- and for one that is
pub record Moving (mem : List ℕ) (counts : Counts) (old : VanWords) (u v offset : ℕ) (verdict : Verdict) : Type 0 where
  pub none : old.state ≡ 0 → verdict ≡ Err NoSuchVan
  pub there : old.state ≢ 0 → OnRoad mem counts u v (λ road. placing mem counts old.state road offset) verdict

-- the verdict on a change of a van that stands as `old` says
abbrev pub HasVerdict : List ℕ → Counts → VanWords → Change → Verdict → Type 0
HasVerdict mem counts old (Add van u v offset) verdict = Adding mem counts old u v offset verdict
HasVerdict mem counts old (Move van u v offset) verdict = Moving mem counts old u v offset verdict
HasVerdict mem counts old (Remove van) verdict = verdict ≡ removing old
HasVerdict mem counts old (Claim van stamp desk) verdict = verdict ≡ claiming old stamp desk
HasVerdict mem counts old (Release van desk) verdict = verdict ≡ releasing old desk
