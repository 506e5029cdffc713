-- What a change does to the words used of an opened memory, where its numbers are in range.
use Rattle.std.specs.Prelude.{◌≡◌, ◌≢◌, true, List, ℕ}
use Rattle.roads.specs.Map.{Map}
use Rattle.maps.specs.Sound.{Sound}
use Rattle.fleet.specs.State.{State}
use Rattle.fleet.specs.Good.{Good}
use Rattle.fleet.specs.declared.Change.{Change}
use Rattle.fleet.specs.Change.{Answer, refused, number_of, in_range, step}
use Rattle.image.specs.Image.{image}

pub record ChangeDone (c : Change) (mem : List ℕ) (answer : Answer) (mem' : List ℕ) : Type 0 where
  -- the words of a map and a fleet
  pub right : (m : Map) (s : State) → Sound m → Good m s → mem ≡ image m s → in_range c ≡ true → (answer ≡ (step m s c).answer) × (mem' ≡ image m (step m s c).state)
  -- any words
  pub refusal : (n : ℕ) → answer ≡ refused n → mem' ≡ mem
  pub neither : (number_of answer ≢ 6) × (number_of answer ≢ 7)
