-- What the functions that write the sections ask of the map that the bytes show.
-- Assumes nothing.
use mathlib.Core.Path.{◌≡◌, ap, sym, subst, ◌∙◌}
use mathlib.Core.List.{List}
use Prim.Native.Nat.{ℕ}
use native.Mathlib.Omega.{arith}
use lib.ListN.{get_or}
use Rattle.roads.specs.Map.{Road, Map, part_count, road_count, no_road}
use Rattle.maps.specs.Bytes.{counts_of, body_at, start2, start4, decode, roads_of}
use Rattle.maps.specs.Judge.{sound, judge}
use Rattle.maps.specs.Sound.{Sound}
use Rattle.maps.proofs.Judged.{numbers_length, roads_length, road_is, judged_shown, judged_sound}
use Rattle.counts.specs.declared.Counts.{Counts}
use Rattle.map_parts.specs.Bodies.{the_counts}
use Rattle.map_parts.specs.Part.{ShowsPartsOf}
use Rattle.map_parts.specs.declared.shown.ShownMap.{ShownMap}
use Rattle.map_borders.specs.Sizes.{Given, Lifts, Sizes}
use Rattle.map_borders.specs.declared.Measures.{Measures}
use Rattle.map_judge.proofs.Shown.{given_by}
use Rattle.opening_sections.specs.Sections as sections
use Rattle.opening_sections.specs.Counted.{Counted}

-- the map with these parents, leaves and roads
abbrev pub GivenBy : Map → ShownMap → Type 0
GivenBy m shown = Given m shown.parents shown.leaves shown.body.now shown.counts.vertices shown.counts.roads shown.counts.parts

-- what the sections' functions are lent shows the map
pub shown_by : (m : Map) (shown : ShownMap) (measures : Measures) (used : ℕ) → GivenBy m shown → Sound m → Counted m shown.counts.vertices shown.counts.roads shown.counts.parts used → Lifts m measures.lifts → Sizes m measures.sizes → sections.MapShown m shown.parents shown.leaves shown.body.now measures.lifts measures.sizes shown.counts.vertices shown.counts.roads shown.counts.parts used
shown_by m shown measures used given is-sound counted is-lifts is-sizes =
    record {
      sound = is-sound;
      counted = counted;
      parents_shown = λ q h. sym (given.shows.parent q (omega (arith, given.shows.count)));
      leaves_shown = λ u h. sym (given.shows.leaf u (omega (arith, given.shows.vertex_count)));
      roads_shown = λ i h. sym (ap (λ (rs : List Road). get_or rs i no_road) given.road_list ∙ road_is shown.counts.roads shown.body.now i no_road (omega (arith, counted.road_count_lem)));
      lifts_shown = λ u c hu hc. is-lifts.boundary u c hu (omega (arith, hc, is-sound.parts.1));
      sizes_shown = λ q h. is-sizes.size q h;
    }

-- the counts are those of record 1
counts_by : (bytes : List ℕ) (m : Map) (counts : Counts) (used : ℕ) → judge bytes ≡ sound m → Counted m counts.vertices counts.roads counts.parts used → the_counts counts.vertices counts.roads counts.parts ≡ counts_of bytes
unfolding decode
counts_by bytes m counts used judged counted =
    let c = counts_of bytes in
    let same : decode bytes c ≡ m = (judged_shown bytes m judged).map in
    let vertices : counts.vertices ≡ c.vertices = counted.vertex_count_lem ∙ sym (ap (λ (k : Map). k.vertices) same) in
    let roads : counts.roads ≡ c.roads = counted.road_count_lem ∙ sym (ap road_count same) ∙ roads_length c.roads (body_at bytes (start4 c)) in
    let parts : counts.parts ≡ c.parts = counted.part_count_lem ∙ sym (ap part_count same) ∙ numbers_length c.parts (body_at bytes start2) in
    (λ i. the_counts (vertices i) (roads i) (parts i))

-- so the map is what was read
pub given_map : (bytes : List ℕ) (m : Map) (counts : Counts) (used : ℕ) (shown : ShownMap) → judge bytes ≡ sound m → Counted m counts.vertices counts.roads counts.parts used → shown.counts ≡ counts
    → ShowsPartsOf (decode bytes (the_counts counts.vertices counts.roads counts.parts)) shown.parents shown.leaves shown.counts.vertices shown.counts.parts
    → (decode bytes (the_counts counts.vertices counts.roads counts.parts)).roads ≡ roads_of shown.counts.roads shown.body.now → GivenBy m shown
given_map bytes m counts used shown judged counted same shows roads =
    let is-sound = judged_sound bytes m judged in
    let Read : Counts → Type 0 = λ k. Given m shown.parents shown.leaves shown.body.now k.vertices k.roads k.parts in
    subst Read (sym same)
    (given_by bytes m counts.vertices counts.roads counts.parts judged (counts_by bytes m counts used judged counted) (omega (arith, counted.vertex_count_lem, is-sound.vertices.1)) (omega (arith, counted.part_count_lem, is-sound.parts.1))
    (subst (λ (k : Counts). ShowsPartsOf (decode bytes (the_counts counts.vertices counts.roads counts.parts)) shown.parents shown.leaves k.vertices k.parts) same shows)
    (roads ∙ ap (λ (k : Counts). roads_of k.roads shown.body.now) same))
