-- The words of a map and a fleet, and the list that they give for a list of the best.
use Rattle.std.specs.Prelude.{◌≡◌, List, ℕ}
use Rattle.roads.specs.Map.{Map}
use Rattle.maps.specs.Sound.{Sound}
use Rattle.fleet.specs.State.{State}
use Rattle.fleet.specs.Good.{Good}
use Rattle.fleet.specs.Question.{Listed}
use Rattle.image.specs.Image.{image}
use Rattle.places.specs.Place.{counts_in}
use Rattle.best_list.specs.Best.{Best, entries}
use Rattle.van_offers.specs.Offers.{stamp_in}

-- words that an opening of m and changes that led to s left behind
pub record Genuine (m : Map) (s : State) (mem : List ℕ) : Type 0 where
  pub sound : Sound m
  pub good : Good m s
  pub is : mem ≡ image m s

-- the entries of the best, with the stamps that the memory shows
abbrev pub list_in : List ℕ → Best → List Listed
list_in mem best = entries (stamp_in mem (counts_in mem)) best
