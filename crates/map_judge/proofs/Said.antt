-- What an answer of `judge_map` tells of the bytes.
-- Assumes nothing.
use Rattle.std.specs.Prelude.{Ok, Err}
use mathlib.Core.Path.{◌≡◌, refl, ap, sym}
use mathlib.Core.List.{List}
use Prim.Native.Nat.{ℕ}
use native.Mathlib.Omega.{arith}
use Rattle.roads.specs.Map.{Map, part_count, road_count}
use Rattle.parts.specs.Size.{need}
use Rattle.maps.specs.Judge.{Judged, sound, judge}
use Rattle.fleet.specs.Change.{refused}
use Rattle.counts.specs.declared.Counts.{Counts}
use Rattle.answers.specs.declared.Refusal.{Refusal}
use Rattle.answers.specs.Answered.{answered}
use Rattle.map_judge.specs.declared.Sound.{Sound}
use Rattle.map_judge.specs.Verdict.{refusal, needing, said, due}

-- they show a sound map with these counts and this need
pub record Accepts (bytes : List ℕ) (counts : Counts) (words : ℕ) : Type 0 where
  pub map : Map
  pub judged : judge bytes ≡ sound map
  pub vertices : counts.vertices ≡ map.vertices
  pub roads : counts.roads ≡ road_count map
  pub parts : counts.parts ≡ part_count map
  pub need_is : words ≡ need map

-- they get this refusal
pub record Refuses (bytes : List ℕ) (refused_as : Refusal) : Type 0 where
  pub number : ℕ
  pub judged : judge bytes ≡ Judged.refused number
  pub is : answered (Err refused_as) ≡ refused number

pub said_sound : (bytes : List ℕ) (found : Sound) → said (Ok found) ≡ due (judge bytes) → Accepts bytes found.counts found.need
said_sound bytes found is = by (judge bytes) refl (sym is)
  where
    by : (judged : Judged) → judge bytes ≡ judged → due judged ≡ needing found.counts found.need → Accepts bytes found.counts found.need
    by (Judged.refused n) j same = let z : ◌≡◌ {A = ℕ} 0 1 = cc in absurd (omega arith)
    by (sound m) j same =
        let here : (◌≡◌ {A = Counts} (record { vertices = m.vertices; roads = road_count m; parts = part_count m }) found.counts) × (need m ≡ found.need) = ((cc), (cc)) in
        record {
          map = m;
          judged = j;
          vertices = sym (ap (λ (k : Counts). k.vertices) here.0);
          roads = sym (ap (λ (k : Counts). k.roads) here.0);
          parts = sym (ap (λ (k : Counts). k.parts) here.0);
          need_is = sym here.1;
        }

pub said_refused : (bytes : List ℕ) (refused_as : Refusal) → said (Err refused_as) ≡ due (judge bytes) → Refuses bytes refused_as
said_refused bytes refused_as is = by (judge bytes) refl (sym is)
  where
    by : (judged : Judged) → judge bytes ≡ judged → due judged ≡ refusal (answered (Err refused_as)) → Refuses bytes refused_as
    by (Judged.refused n) j same = let number : answered (Err refused_as) ≡ refused n = cc in record { number = n; judged = j; is = number }
    by (sound m) j same = let z : ◌≡◌ {A = ℕ} 0 1 = cc in absurd (omega arith)
