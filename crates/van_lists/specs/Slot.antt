-- The first four words of the record of a van that stands as its slot says.
use Rattle.std.specs.Prelude.{ℕ, suc, cond, eqb}
use Rattle.fleet.specs.State.{Slot, absent, present}
use Rattle.van_lists.specs.declared.VanWords.{VanWords}

abbrev pub standing_words : Slot → VanWords
standing_words absent = record { state = 0; road = 0; offset = 0; stamp = 0 }
standing_words (present v) = record { state = suc v.holder; road = v.road; offset = v.offset; stamp = v.stamp }

-- the same under another stamp; an absent van has none
abbrev pub stamped : VanWords → ℕ → VanWords
stamped words stamp = cond (eqb words.state 0) (standing_words absent) (record { state = words.state; road = words.road; offset = words.offset; stamp = stamp })
