-- Two answers of the code that are the same in the definitions are the same.
-- Assumes nothing.
use mathlib.Core.Path.{◌≡◌, refl, sym, ap, ◌∙◌}
use mathlib.Core.List.{List, [], ◌∷◌}
use lib.ListN.{get_or}
use Rattle.fleet.specs.Change.{Answer, refused, accepted}
use Rattle.std.specs.Prelude.{ℕ, Result, Ok, Err}
use Rattle.answers.specs.declared.Refusal.{Refusal}
use Rattle.answers.specs.declared.Refusal.TheVariants.{MapRecord, MapCounts, MapParts, MapRoads, TooFewWords, NotOpened, OutOfRange, NoSuchVan, VanPresent, NoRoad, OffsetAboveWeight, VanHeld, NotHeldByDesk, StampDiffers, CountFull, WrongWay}
use Rattle.answers.specs.Answered.{answered}

-- the refusals by their numbers; what stands at 0 and from 16 to 19 is no refusal
refusals : List (Result ℕ Refusal)
refusals =
    Ok 0
    ∷ Err MapRecord
    ∷ Err MapCounts
    ∷ Err MapParts
    ∷ Err MapRoads
    ∷ Err TooFewWords
    ∷ Err NotOpened
    ∷ Err OutOfRange
    ∷ Err NoSuchVan
    ∷ Err VanPresent
    ∷ Err NoRoad
    ∷ Err OffsetAboveWeight
    ∷ Err VanHeld
    ∷ Err NotHeldByDesk
    ∷ Err StampDiffers
    ∷ Err CountFull
    ∷ Ok 0
    ∷ Ok 0
    ∷ Ok 0
    ∷ Ok 0
    ∷ Err WrongWay
    ∷ []

back : Answer → Result ℕ Refusal
back (accepted value) = Ok value
back (refused n) = get_or refusals n (Ok 0)

back_is : (a : Result ℕ Refusal) → back (answered a) ≡ a
unfolding back refusals
back_is (Ok value) = refl
back_is (Err MapRecord) = refl
back_is (Err MapCounts) = refl
back_is (Err MapParts) = refl
back_is (Err MapRoads) = refl
back_is (Err TooFewWords) = refl
back_is (Err NotOpened) = refl
back_is (Err OutOfRange) = refl
back_is (Err NoSuchVan) = refl
back_is (Err VanPresent) = refl
back_is (Err NoRoad) = refl
back_is (Err OffsetAboveWeight) = refl
back_is (Err VanHeld) = refl
back_is (Err NotHeldByDesk) = refl
back_is (Err StampDiffers) = refl
back_is (Err CountFull) = refl
back_is (Err WrongWay) = refl

pub answered_same : (a b : Result ℕ Refusal) → answered a ≡ answered b → a ≡ b
answered_same a b e = sym (back_is a) ∙ ap back e ∙ back_is b
