-- The roads out of a vertex stand together in the memory, from its first road out up to the next vertex's. Assumes nothing.
use mathlib.Core.Path.{◌≡◌, sym, ap, ◌∙◌}
use mathlib.Core.List.Memᴰ
use mathlib.Core.List.{List, [], Memᴰ}
use Prim.Native.Nat.{ℕ, zero, suc, ◌+◌, ◌*◌, ◌-◌, ◌≤◌, ◌<◌}
use native.Mathlib.Nat.{not-suc-le-zero}
use native.Mathlib.Omega.{arith}
use native.Mathlib.Decide.{dec_lt}
use borrow.Author.Tests.{lt-ltb, le-ltb}
use lib.ListN.{length}
use Rattle.words.specs.Lists.{word}
use Rattle.roads.specs.Map.{Road, Map}
use Rattle.roads.proofs.Trail.{Net}
use Rattle.road_relax.specs.Relaxing.{shown_road, shown_roads, Fan}
use Rattle.road_search.specs.Layout.{first_out, next_out, roads_out, LaidRoad, LaidMap}

-- A road of a list has a place in it, and a place in the list has its road.

pub record At (mem : List ℕ) (at k : ℕ) (r : Road) : Type 0 where
  pub place : ℕ
  pub within : place < k
  pub is : r ≡ shown_road mem (at + 4 * place)

pub road_place : (mem : List ℕ) (at k : ℕ) {r : Road} → Memᴰ r (shown_roads mem at k) → At mem at k r
unfolding shown_roads
road_place mem at zero h = absurd (Memᴰ.not-nil h)
road_place mem at (suc k) (Memᴰ.head e) =
    let start : at ≡ at + 4 * 0 = omega arith in
    record { place = 0; within = omega arith; is = e ∙ ap (shown_road mem) start }
road_place mem at (suc k) (Memᴰ.tail h) =
    let later = road_place mem (at + 4) k h in
    let start : at + 4 + 4 * later.place ≡ at + 4 * suc later.place = omega arith in
    record { place = suc later.place; within = omega (arith, later.within); is = later.is ∙ ap (shown_road mem) start }

pub place_road : (mem : List ℕ) (at k j : ℕ) → j < k → Memᴰ (shown_road mem (at + 4 * j)) (shown_roads mem at k)
unfolding shown_roads
place_road mem at zero j h = absurd (not-suc-le-zero h)
place_road mem at (suc k) zero h =
    let start : at + 4 * 0 ≡ at = omega arith in
    Memᴰ.head (ap (shown_road mem) start)
place_road mem at (suc k) (suc j) h =
    let start : at + 4 * suc j ≡ at + 4 + 4 * j = omega arith in
    rw start (Memᴰ.tail (place_road mem (at + 4) k j (omega arith)))

-- the map that has the shown roads and no parts
abbrev pub shown_map : List ℕ → ℕ → ℕ → ℕ → Map
shown_map mem n roads count = record { vertices = n; parents = []; leaves = []; roads = shown_roads mem roads count }

module _ (mem : List ℕ) (vertices n count u : ℕ) where
  next_word : u + 1 < n → next_out mem vertices n count u ≡ first_out mem vertices (u + 1)
  next_word more = rw (lt-ltb (u + 1) n more)

  next_end : n ≤ u + 1 → next_out mem vertices n count u ≡ count
  next_end last = rw (le-ltb (u + 1) n last)

-- where the roads out of u stand: from number `first` up to number `next`
pub record Found (mem : List ℕ) (roads u first next : ℕ) : Type 0 where
  pub ordered : first ≤ next
  pub fits : roads + 4 * next ≤ length mem
  pub fan : Fan mem (roads + 4 * first) (next - first) u

module _ {mem : List ℕ} {vertices n roads count : ℕ} (laid : LaidMap mem vertices n roads count) where
  pub laid_net : Net (shown_map mem n roads count)
  laid_net =
      record {
        few = laid.few;
        from = λ r h. let at = road_place mem roads count h in rw at.is (laid.road at.place at.within).from_below;
        to = λ r h. let at = road_place mem roads count h in rw at.is (laid.road at.place at.within).to_below;
        light = λ r h. let at = road_place mem roads count h in rw at.is (laid.road at.place at.within).light;
      }

  -- first roads out rise with the vertex
  rises : (u k : ℕ) → u + k < n → first_out mem vertices u ≤ first_out mem vertices (u + k)
  rises u zero h =
      let same : u + 0 ≡ u = omega arith in
      omega (arith, ap (first_out mem vertices) same)
  rises u (suc k) h =
      let next : u + k + 1 ≡ u + suc k = omega arith in
      omega (arith, rises u k (omega arith), (laid.vertex (u + k) (omega arith)).ordered (omega arith), ap (first_out mem vertices) next)

  rises_to : (u v : ℕ) → u ≤ v → v < n → first_out mem vertices u ≤ first_out mem vertices v
  rises_to u v less h =
      let there : u + (v - u) ≡ v = omega arith in
      omega (arith, rises u (v - u) (omega arith), ap (first_out mem vertices) there)

  next_limit : (u : ℕ) → u < n → (first_out mem vertices u ≤ next_out mem vertices n count u) × (next_out mem vertices n count u ≤ count)
  next_limit u there = elim (dec_lt (u + 1) n) [
    | yes more ↦ rw (next_word mem vertices n count u more) ((laid.vertex u there).ordered more, (laid.vertex (u + 1) more).ends)
    | no last ↦ rw (next_end mem vertices n count u (omega arith)) ((laid.vertex u there).ends, omega arith)
  ]

  -- a road among those out of u leaves u
  leaves_u : (u j : ℕ) → u < n → first_out mem vertices u ≤ j → j < next_out mem vertices n count u → word mem (roads + 4 * j) ≡ u
  leaves_u u j there low high = elim (dec_lt (word mem (roads + 4 * j)) u) [
    | yes lower ↦ absurd (omega (arith, road.next (omega arith), rises_to (word mem (roads + 4 * j) + 1) u (omega arith) there))
    | no not_lower ↦ elim (dec_lt u (word mem (roads + 4 * j))) [
      | no not-higher ↦ omega arith
      | yes higher ↦
          absurd
          (omega (arith, road.first, next_word mem vertices n count u (omega (arith, road.from_below)), rises_to (u + 1) (word mem (roads + 4 * j)) (omega arith) road.from_below))
    ]
  ]
    where
      road : LaidRoad mem vertices n j (shown_road mem (roads + 4 * j))
      road = laid.road j (omega (arith, next_limit u there))

  fan_from : (u k j : ℕ) → u < n → first_out mem vertices u ≤ j → j + k ≤ next_out mem vertices n count u → Fan mem (roads + 4 * j) k u
  unfolding Fan
  fan_from u zero j there low high = tt
  fan_from u (suc k) j there low high =
      let limit = next_limit u there in
      let later : roads + 4 * j + 4 ≡ roads + 4 * suc j = omega arith in (
        record {
          fits = omega (arith, laid.roads_fit_lem);
          from_u = leaves_u u j there low (omega arith);
          from_below = omega (arith, laid.few);
          to_below = omega (arith, (laid.road j (omega arith)).to_below, laid.few);
        },
        rw later (fan_from u k (suc j) there (omega arith) (omega arith)),
      )

  pub found : (u : ℕ) → u < n → Found mem roads u (first_out mem vertices u) (next_out mem vertices n count u)
  found u there =
      let limit = next_limit u there in
      record {
        ordered = limit.0;
        fits = omega (arith, laid.roads_fit_lem);
        fan = fan_from u _ (first_out mem vertices u) there (omega arith) (omega arith);
      }

  -- the roads out of u are roads of the map
  pub out_part : (u : ℕ) → u < n → (r : Road) → Memᴰ r (roads_out mem vertices n roads count u) → Memᴰ r (shown_roads mem roads count)
  unfolding roads_out
  out_part u there r h =
      let limit = next_limit u there in
      let first = first_out mem vertices u in
      let at = road_place mem (roads + 4 * first) (next_out mem vertices n count u - first) h in
      let same : roads + 4 * first + 4 * at.place ≡ roads + 4 * (first + at.place) = omega arith in
      rw (at.is, same) (place_road mem roads count (first + at.place) (omega (arith, at.within)))

  -- and all that leave u
  pub out_whole : (u : ℕ) → u < n → (r : Road) → Memᴰ r (shown_roads mem roads count) → r.from ≡ u → Memᴰ r (roads_out mem vertices n roads count u)
  unfolding roads_out
  out_whole u there r h leaves =
      let at = road_place mem roads count h in
      let j = at.place in
      let road = laid.road j at.within in
      let from : word mem (roads + 4 * j) ≡ u = sym (ap (λ (s : Road). s.from) at.is) ∙ leaves in
      let first : first_out mem vertices u ≤ j = rw from at road.first in
      let same : roads + 4 * j ≡ roads + 4 * first_out mem vertices u + 4 * (j - first_out mem vertices u) = omega arith in
      rw (at.is, same)
      (place_road mem (roads + 4 * first_out mem vertices u) _ (j - first_out mem vertices u) (omega (arith, before from road.next at.within)))
    where
      before : {j : ℕ} → word mem (roads + 4 * j) ≡ u → (word mem (roads + 4 * j) + 1 < n → j < first_out mem vertices (word mem (roads + 4 * j) + 1)) → j < count
          → j < next_out mem vertices n count u
      before {j} from next within = elim (dec_lt (u + 1) n) [
        | yes more ↦ rw (next_word mem vertices n count u more) (rw from at (next (rw from more)))
        | no last ↦ rw (next_end mem vertices n count u (omega arith)) within
      ]
