-- The judgement, where the outcomes of the tests are known.
-- Assumes nothing.
use mathlib.Core.Path.{◌≡◌, sym, ap, ◌∙◌}
use mathlib.Core.Bool.{Bool, true}
use mathlib.Core.List.{List}
use Prim.Native.Nat.{ℕ, ◌<◌, ◌≤◌}
use lib.ListN.{length}
use borrow.Author.Tests.{leb-true}
use Rattle.words.specs.Limits.{most_vertices, most_parts, most_borders}
use Rattle.words.specs.Lists.{up_to, word, all}
use Rattle.words.specs.Tests.{◌unless◌then◌}
use Rattle.words.proofs.Lists.{up_to_has, all_at}
use Rattle.roads.specs.Map.{Map, road_count}
use Rattle.maps.specs.Bytes.{is_record, counts_of, length1, roads_of, decode}
use Rattle.maps.specs.Rules.{counts_fit, parts_fit, roads_fit, borders_fit}
use Rattle.maps.specs.Judge.{rest_fits, rule_refusal, map_refusal, verdict, judge}
use Rattle.maps.proofs.Judged.{roads_length}
use Rattle.map_roads.specs.Road.{road_test}
use Rattle.map_roads.proofs.Roads.{roads_fit_is}
use Rattle.map_parts.specs.Part.{ShowsPartsOf}
use Rattle.map_borders.specs.Mark.{few_at}
use Rattle.map_borders.specs.Sizes.{Given, Sizes}
use Rattle.map_borders.proofs.Earlier.{told as known}
use Rattle.map_borders.proofs.Borders.{borders_fit_is}
use Rattle.map_parts.specs.Bodies.{the_counts}
use Rattle.map_judge.specs.Need.{need_of}
use Rattle.map_judge.specs.Verdict.{needing, due, ruled}
use Rattle.map_judge.proofs.Needs.{need_is}

-- The rules.

pub rules_by : (m : Map) {parts roads few : Bool} → parts_fit m ≡ parts → roads_fit m ≡ roads → borders_fit m ≡ few
    → due (verdict (3 unless parts then 4 unless roads then 3 unless few then 0) m) ≡ ruled m
unfolding rule_refusal
rules_by m p q r = sym (λ i. due (verdict (3 unless p i then 4 unless q i then 3 unless r i then 0) m))

pub roads_known : (m : Map) (body : List ℕ) (n count : ℕ) {fit known : Bool} → m.vertices ≡ count → m.roads ≡ roads_of n body
    → fit ≡ all (road_test body count) (up_to n) → fit ≡ known → roads_fit m ≡ known
roads_known m body n count vertices roads is e =
    sym (is ∙ ap (λ (v : ℕ). all (road_test body v) (up_to n)) (sym vertices) ∙ roads_fit_is m body n roads) ∙ e

pub given_of : {m : Map} {parents leaves : List ℕ} (body : List ℕ) (v r p : ℕ) → v ≤ most_vertices → p ≤ most_parts → ShowsPartsOf m parents leaves v p → m.roads ≡ roads_of r body
    → parts_fit m ≡ true → roads_fit m ≡ true → Given m parents leaves body v r p
given_of body v r p few_vertices few_parts shows roads good_parts good_roads =
    record { shows = shows; road_list = roads; few_vertices = few_vertices; few_parts = few_parts; good_parts = good_parts; good_roads = good_roads }

pub borders_known : {m : Map} {parents leaves body : List ℕ} {v r p : ℕ} (given : Given m parents leaves body v r p) (sizes : List ℕ) {fit yes : Bool} → Sizes m sizes
    → fit ≡ all (few_at sizes) (up_to p) → fit ≡ yes → borders_fit m ≡ yes
borders_known given sizes sized is e = sym (is ∙ borders_fit_is given (known given) sizes sized) ∙ e

-- each part has at most 128 rows
pub each_few : (sizes : List ℕ) (n : ℕ) {fit : Bool} → fit ≡ all (few_at sizes) (up_to n) → fit ≡ true → (p : ℕ) → p < n → word sizes p ≤ most_borders
unfolding few_at
each_few sizes n is e p h = leb-true (word sizes p) most_borders (all_at (few_at sizes) (up_to n) (sym is ∙ e) p (up_to_has n p h))

-- the counts and the need of a map that keeps the rules
pub sound_by : (m : Map) (v r p : ℕ) {words : ℕ} {parents leaves : List ℕ} (body sizes : List ℕ) → ShowsPartsOf m parents leaves v p → m.roads ≡ roads_of r body → Sizes m sizes
    → words ≡ need_of (the_counts v r p) sizes → needing (record { vertices = v; roads = r; parts = p }) words ≡ due (verdict 0 m)
sound_by m v r p {words} body sizes shows roads sized is =
    let isR : road_count m ≡ r = ap length roads ∙ roads_length r body in
    let need : words ≡ _ = is ∙ need_is m v r p sizes shows.vertex_count isR shows.count sized in
    λ i. needing (record { vertices = sym shows.vertex_count i; roads = sym isR i; parts = sym shows.count i }) (need i)

-- The order of the records.

pub judge_by : (bytes : List ℕ) {v r p : ℕ} {first counts rest fits1 fits2 fits3 : Bool}
    → first ≡ is_record bytes 0 1 length1 → first ≡ fits1 → the_counts v r p ≡ counts_of bytes
    → counts ≡ counts_fit v r p → counts ≡ fits2 → rest ≡ rest_fits bytes (the_counts v r p) → rest ≡ fits3
    → due (verdict (1 unless fits1 then 2 unless fits2 then 1 unless fits3 then rule_refusal (decode bytes (the_counts v r p))) (decode bytes (the_counts v r p))) ≡ due (judge bytes)
unfolding judge map_refusal
judge_by bytes {v} {r} {p} {fits1 = fits1} {fits2 = fits2} {fits3 = fits3} is1 e1 isCounts is2 e2 is3 e3 =
    let p1 : fits1 ≡ is_record bytes 0 1 length1 = sym e1 ∙ is1 in
    let p2 : fits2 ≡ counts_fit v r p = sym e2 ∙ is2 in
    let p3 : fits3 ≡ rest_fits bytes (the_counts v r p) = sym e3 ∙ is3 in
    (λ i. due (verdict (1 unless p1 i then 2 unless p2 i then 1 unless p3 i then rule_refusal (decode bytes (the_counts v r p))) (decode bytes (the_counts v r p))))
    ∙ λ i.
    due (verdict (1 unless is_record bytes 0 1 length1 then 2 unless counts_fit (isCounts i).vertices (isCounts i).roads (isCounts i).parts then 1 unless rest_fits bytes (isCounts i) then
    rule_refusal (decode bytes (isCounts i))) (decode bytes (isCounts i)))
