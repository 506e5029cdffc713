-- What a refusal is among the answers.
-- Assumes nothing.
use mathlib.Core.Path.{◌≡◌, refl}
use Rattle.std.specs.Prelude.{Err}
use Rattle.fleet.specs.Change.{refused, number_of}
use Rattle.answers.specs.declared.Refusal.{Refusal}
use Rattle.answers.specs.declared.Refusal.TheVariants.{MapRecord, MapCounts, MapParts, MapRoads, TooFewWords, NotOpened, OutOfRange, NoSuchVan, VanPresent, NoRoad, OffsetAboveWeight, VanHeld, NotHeldByDesk, StampDiffers, CountFull, WrongWay}
use Rattle.answers.specs.Answered.{answered}

-- a refusal is the answer of its number
pub refused_is : (r : Refusal) → answered (Err r) ≡ refused (number_of (answered (Err r)))
refused_is MapRecord = refl
refused_is MapCounts = refl
refused_is MapParts = refl
refused_is MapRoads = refl
refused_is TooFewWords = refl
refused_is NotOpened = refl
refused_is OutOfRange = refl
refused_is NoSuchVan = refl
refused_is VanPresent = refl
refused_is NoRoad = refl
refused_is OffsetAboveWeight = refl
refused_is VanHeld = refl
refused_is NotHeldByDesk = refl
refused_is StampDiffers = refl
refused_is CountFull = refl
refused_is WrongWay = refl
