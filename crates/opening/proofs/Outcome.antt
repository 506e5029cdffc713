-- What opening gives and leaves, by the judgement of the map.
-- Assumes nothing.
use mathlib.Core.Path.{◌≡◌, refl, ap, sym, ◌∙◌}
use mathlib.Core.Bool.{Bool, true, false}
use mathlib.Core.List.{List, ◌++◌}
use Prim.Native.Nat.{ℕ, ◌≤◌, ◌<◌}
use native.Mathlib.Omega.{arith}
use lib.ListN.{length, drop}
use lib.Dec.{leb}
use borrow.Author.Tests.{le-leb, lt-leb}
use Rattle.words.specs.Limits.{most_vertices, most_roads, most_parts}
use Rattle.words.specs.Tests.{◌unless◌then◌}
use Rattle.roads.specs.Map.{Map}
use Rattle.parts.specs.Size.{need}
use Rattle.maps.specs.Judge.{Judged, sound, judge}
use Rattle.maps.proofs.Judged.{judged_sound}
use Rattle.fleet.specs.State.{fresh_state}
use Rattle.fleet.specs.Change.{Answer, refused, accepted}
use Rattle.image.specs.Image.{image}
use Rattle.calls.specs.Outcome.{open_sound, open_judged, opening, Opened}
use Rattle.counts.specs.declared.Counts.{Counts}
use Rattle.map_judge.proofs.Said.{Accepts}
use Rattle.opening_sections.specs.Counted.{Counted}

-- by the judgement
opened_by : (bytes mem : List ℕ) (start : ℕ) (judged : Judged) (answer : Answer) (mem' : List ℕ) → judge bytes ≡ judged → answer ≡ (open_judged judged mem start).answer
    → mem' ≡ (open_judged judged mem start).memory → Opened bytes mem start answer mem'
unfolding opening
opened_by bytes mem start judged answer mem' j a b =
    record { gives = a ∙ sym (ap (λ (k : Judged). (open_judged k mem start).answer) j); leaves = b ∙ sym (ap (λ (k : Judged). (open_judged k mem start).memory) j) }

pub opened_refused : (bytes mem : List ℕ) (start n : ℕ) (answer : Answer) → judge bytes ≡ Judged.refused n → answer ≡ refused n → Opened bytes mem start answer mem
opened_refused bytes mem start n answer j a = opened_by bytes mem start (Judged.refused n) answer mem j a refl

pub opened_small : (bytes mem : List ℕ) (start : ℕ) (m : Map) (used : ℕ) → judge bytes ≡ sound m → used ≡ need m → length mem < used → Opened bytes mem start (refused 5) mem
opened_small bytes mem start m used j u h =
    let low : leb (need m) (length mem) ≡ false = lt-leb (need m) (length mem) (omega (arith, u)) in
    opened_by bytes mem start (sound m) (refused 5) mem j
    (sym (ap (λ (b : Bool). (open_sound (5 unless b then 0) m mem start).answer) low))
    (sym (ap (λ (b : Bool). (open_sound (5 unless b then 0) m mem start).memory) low))

pub opened_whole : (bytes mem : List ℕ) (start : ℕ) (m : Map) (used : ℕ) (words : List ℕ) → judge bytes ≡ sound m → used ≡ need m → used ≤ length mem → words ≡ image m (fresh_state start)
    → Opened bytes mem start (accepted start) (words ++ drop used mem)
opened_whole bytes mem start m used words j u h w =
    let high : leb (need m) (length mem) ≡ true = le-leb (need m) (length mem) (omega (arith, u)) in
    opened_by bytes mem start (sound m) (accepted start) (words ++ drop used mem) j
    (sym (ap (λ (b : Bool). (open_sound (5 unless b then 0) m mem start).answer) high))
    (ap (λ (l : List ℕ). l ++ drop used mem) w
    ∙ ap (λ (k : ℕ). image m (fresh_state start) ++ drop k mem) u
    ∙ sym (ap (λ (b : Bool). (open_sound (5 unless b then 0) m mem start).memory) high))

-- the counts and the need of a sound map, as the sections ask for them
pub counted : {bytes : List ℕ} {counts : Counts} {used : ℕ} (a : Accepts bytes counts used) → Counted a.map counts.vertices counts.roads counts.parts used
counted a = record { vertex_count_lem = a.vertices; road_count_lem = a.roads; part_count_lem = a.parts; need_is = a.need_is }

-- its counts are within their limits
pub counts_small : {bytes : List ℕ} {counts : Counts} {used : ℕ} → Accepts bytes counts used → (counts.vertices ≤ most_vertices) × (counts.roads ≤ most_roads) × (counts.parts ≤ most_parts)
counts_small {bytes} a =
    let is-sound = judged_sound bytes a.map a.judged in (
      omega (arith, a.vertices, is-sound.vertices.1),
      omega (arith, a.roads, is-sound.roads),
      omega (arith, a.parts, is-sound.parts.1),
    )
