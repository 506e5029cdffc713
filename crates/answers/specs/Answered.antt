-- Each reply of the code as the definitions' answer: accepted with its value, or refused with the scope's number.
use Rattle.std.specs.Prelude.{ℕ, Result, Ok, Err}
use Rattle.fleet.specs.Change.{Answer, refused, accepted}
use Rattle.answers.specs.declared.Refusal.{Refusal}
use Rattle.answers.specs.declared.Refusal.TheVariants.{MapRecord, MapCounts, MapParts, MapRoads, TooFewWords, NotOpened, OutOfRange, NoSuchVan, VanPresent, NoRoad, OffsetAboveWeight, VanHeld, NotHeldByDesk, StampDiffers, CountFull, WrongWay}

abbrev pub answered : Result ℕ Refusal → Answer
answered (Ok value) = accepted value
answered (Err MapRecord) = refused 1
answered (Err MapCounts) = refused 2
answered (Err MapParts) = refused 3
answered (Err MapRoads) = refused 4
answered (Err TooFewWords) = refused 5
answered (Err NotOpened) = refused 6
answered (Err OutOfRange) = refused 7
answered (Err NoSuchVan) = refused 8
answered (Err VanPresent) = refused 9
answered (Err NoRoad) = refused 10
answered (Err OffsetAboveWeight) = refused 11
answered (Err VanHeld) = refused 12
answered (Err NotHeldByDesk) = refused 13
answered (Err StampDiffers) = refused 14
answered (Err CountFull) = refused 15
answered (Err WrongWay) = refused 20
