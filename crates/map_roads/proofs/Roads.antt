-- The test road by road is the test `roads_fit` of the map that shows these roads.
-- Assumes nothing.
use mathlib.Core.Path.{◌≡◌, sym, ap, ap₂, ◌∙◌}
use mathlib.Core.Bool.{Bool, ◌&&◌, ◌||◌}
use mathlib.Core.List.{List}
use Prim.Native.Nat.{ℕ, ◌+◌, ◌*◌, ◌-◌, ◌<◌}
use native.Mathlib.Omega.{arith}
use lib.ListN.{length, get_or}
use lib.Dec.{eqb}
use Rattle.words.specs.Lists.{up_to, all}
use Rattle.words.proofs.Tested.{all_both, all_map, all_counted}
use Rattle.roads.specs.Map.{Road, Map, road_at, no_road}
use Rattle.maps.specs.Bytes.{field, road_shown, roads_of}
use Rattle.maps.specs.Rules.{road_fits, road_before, rises, roads_fit}
use Rattle.maps.proofs.Judged.{roads_length, road_is}
use Rattle.map_roads.specs.Road.{road, road_test}

-- a road by its fields
pub road_by : (body : List ℕ) (i : ℕ) {from to weight : ℕ} → from ≡ field body (8 * i) 2 → to ≡ field body (8 * i + 2) 2 → weight ≡ field body (8 * i + 4) 4
    → road from to weight ≡ road_shown body i
unfolding road_shown
road_by body i isFrom isTo isWeight = λ j. road (isFrom j) (isTo j) (isWeight j)

-- the test, where the roads and the outcomes of its parts are known
pub road_test_by : (body : List ℕ) (vertices i : ℕ) {this last : Road} {fit good first next : Bool}
    → this ≡ road_shown body i → fit ≡ road_fits vertices this → fit ≡ good → eqb i 0 ≡ first → last ≡ road_shown body (i - 1) → next ≡ road_before last this
    → (good && (first || next)) ≡ road_test body vertices i
unfolding road_test
road_test_by body vertices i {good = good} {next = next} isThis isFit isGood isFirst is_last isNext =
    let fits : good ≡ road_fits vertices (road_shown body i) = sym isGood ∙ isFit ∙ ap (road_fits vertices) isThis in
    let follows : next ≡ road_before (road_shown body (i - 1)) (road_shown body i) = isNext ∙ ap₂ road_before is_last isThis in
    λ j. fits j && (sym isFirst j || follows j)

pub roads_fit_is : (m : Map) (body : List ℕ) (n : ℕ) → m.roads ≡ roads_of n body → all (road_test body m.vertices) (up_to n) ≡ roads_fit m
unfolding roads_fit road_test rises roads_of
roads_fit_is m body n shown =
    sym (all_both (λ i. road_fits m.vertices (road_shown body i)) order (up_to n))
    ∙ sym (ap₂ ◌&&◌ (ap (all (road_fits m.vertices)) shown ∙ all_map (road_fits m.vertices) (road_shown body) (up_to n))
    (ap (λ (k : ℕ). all (rises m) (up_to k)) (ap length shown ∙ roads_length n body) ∙ all_counted (rises m) order 0 n (λ i low h. let hi : i < n = omega arith in same i hi)))
  where
    order : ℕ → Bool
    order i = eqb i 0 || road_before (road_shown body (i - 1)) (road_shown body i)

    here : (i : ℕ) → i < n → road_at m i ≡ road_shown body i
    here i h = ap (λ (rs : List Road). get_or rs i no_road) shown ∙ road_is n body i no_road h

    same : (i : ℕ) → i < n → rises m i ≡ order i
    same i h = ap₂ (λ (r s : Road). eqb i 0 || road_before r s) (here (i - 1) (omega arith)) (here i h)
