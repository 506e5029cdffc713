-- What a lookup gets in any words, by what the road's own lookup comes to.
use Rattle.std.specs.Prelude.{◌≡◌, List, ℕ, Result, Ok, Err, IfErr}
use Rattle.answers.specs.declared.Refusal.{Refusal}
use Rattle.places.specs.Place.{counts_in}
use Rattle.road_lookup.specs.Answer.{LookupTells, MissingRoad}

-- the reply has no number of the road
abbrev pub reply_for : Result ℕ Refusal → Result ℕ Refusal
reply_for (Ok road) = Ok 0
reply_for (Err refusal) = Err refusal

pub record LookedIn (mem : List ℕ) (u v : ℕ) (reply : Result ℕ Refusal) : Type 0 where
  pub road : Result ℕ Refusal
  pub found : LookupTells mem (counts_in mem) u v road
  pub missing : IfErr road MissingRoad
  pub is : reply ≡ reply_for road
