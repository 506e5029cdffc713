-- What judging finds of a map: the answer that a refused map gets, or the counts of a sound one and the words of memory that it needs.
use Rattle.std.specs.Prelude.{◌≡◌, true, ℕ, List, Result, Ok, Err}
use Rattle.roads.specs.Map.{Map, part_count, road_count}
use Rattle.parts.specs.Size.{need}
use Rattle.maps.specs.Bytes.{is_record, counts_of, length1}
use Rattle.maps.specs.Rules.{counts_fit}
use Rattle.maps.specs.Judge.{Judged, sound, rest_fits, rule_refusal, verdict}
use Rattle.fleet.specs.Change.{Answer}
use Rattle.counts.specs.declared.Counts.{Counts}
use Rattle.answers.specs.declared.Refusal.{Refusal}
use Rattle.answers.specs.Answered.{answered}
use Rattle.map_parts.specs.Bodies.{the_counts}
use Rattle.map_judge.specs.declared.Sound.{Sound}

pub data Finding : Type 0 where
  refusal : Answer → Finding
  needing : Counts → ℕ → Finding

-- what the code's answer says
abbrev pub said : Result Sound Refusal → Finding
said (Err refused) = refusal (answered (Err refused))
said (Ok is) = needing is.counts is.need

-- what is due by the definitions
abbrev pub due : Judged → Finding
due (Judged.refused n) = refusal (Answer.refused n)
due (sound m) = needing (record { vertices = m.vertices; roads = road_count m; parts = part_count m }) (need m)

-- by the rules alone
abbrev pub ruled : Map → Finding
ruled m = due (verdict (rule_refusal m) m)

-- record 1 shows these counts, which are within their limits, and the other records have the lengths that they ask for
pub record CountsShown (bytes : List ℕ) (counts : Counts) : Type 0 where
  pub is_first : is_record bytes 0 1 length1 ≡ true
  pub shown : the_counts counts.vertices counts.roads counts.parts ≡ counts_of bytes
  pub fit : counts_fit counts.vertices counts.roads counts.parts ≡ true
  pub rest : rest_fits bytes (the_counts counts.vertices counts.roads counts.parts) ≡ true
