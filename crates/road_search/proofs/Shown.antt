-- Words that show a map whose roads rise are laid out as a search needs them, and stay so where words past them are written.
-- Assumes nothing.
use mathlib.Core.Path.{◌≡◌, refl, sym, ap, ◌∙◌, subst, subst⁻¹}
use mathlib.Core.List.{List, [], ◌∷◌, Memᴰ}
use Prim.Native.Nat.{ℕ, zero, suc, ◌+◌, ◌*◌, ◌≤◌, ◌<◌}
use native.Mathlib.Nat.{not-suc-le-zero}
use native.Mathlib.Omega.{arith}
use native.Mathlib.Decide.{dec_lt, dec_le}
use borrow.Author.Tests.{lt-ltb, le-ltb}
use lib.ListN.{length, get_or}
use Rattle.words.specs.Lists.{word}
use Rattle.roads.specs.Map.{Road, Map, road_count, no_road, road_at}
use Rattle.roads.proofs.Trail.{Net}
use Rattle.road_relax.specs.Relaxing.{shown_road, shown_roads}
use Rattle.road_search.specs.Layout.{first_out, lower_roads, LaidRoad, LaidMap, Shown}
use Rattle.road_search.proofs.Fans.{place_road}

-- the vertex that road j of a list leaves
abbrev from_of : List Road → ℕ → ℕ
from_of rs j = (get_or rs j no_road).from

-- no road leaves a lower vertex than the one before it
abbrev pub Rising : List Road → Type 0
Rising rs = (i : ℕ) → suc i < length rs → (get_or rs i no_road).from ≤ (get_or rs (suc i) no_road).from

-- The number of the roads that leave lower vertices than v is that of the first road that does not.

lower_first : (r : Road) (rs : List Road) (v : ℕ) → r.from < v → lower_roads (r ∷ rs) v ≡ suc (lower_roads rs v)
lower_first r rs v below = rw (lt-ltb r.from v below)

lower_not : (r : Road) (rs : List Road) (v : ℕ) → v ≤ r.from → lower_roads (r ∷ rs) v ≡ lower_roads rs v
lower_not r rs v above = rw (le-ltb r.from v above)

lower_limit : (rs : List Road) (v : ℕ) → lower_roads rs v ≤ length rs
lower_limit [] v = omega arith
lower_limit (r ∷ rs) v = elim (dec_lt r.from v) [
  | yes below ↦ omega (arith, lower_first r rs v below, lower_limit rs v)
  | no above ↦ omega (arith, lower_not r rs v (omega arith), lower_limit rs v)
]

lower_none : (rs : List Road) (v : ℕ) → ((j : ℕ) → j < length rs → v ≤ from_of rs j) → lower_roads rs v ≡ 0
lower_none [] v above = refl
lower_none (r ∷ rs) v above = lower_not r rs v (above 0 (omega arith)) ∙ lower_none rs v (λ j h. above (suc j) (omega arith))

rises_from : (rs : List Road) → Rising rs → (j : ℕ) → j < length rs → from_of rs 0 ≤ from_of rs j
rises_from rs rising zero h = omega arith
rises_from rs rising (suc j) h = omega (arith, rises_from rs rising j (omega arith), rising j h)

-- on which side of it road j stands tells whether it leaves a lower vertex
pub record Side (rs : List Road) (v j : ℕ) : Type 0 where
  pub before : j < lower_roads rs v → from_of rs j < v
  pub after : lower_roads rs v ≤ j → v ≤ from_of rs j

side : (rs : List Road) → Rising rs → (v j : ℕ) → j < length rs → Side rs v j
side [] rising v j h = absurd (not-suc-le-zero h)
side (r ∷ rs) rising v j h = elim (dec_lt r.from v) [
  | yes below ↦ by j h (lower_first r rs v below) below (λ i fits. side rs (λ k more. rising (suc k) (omega arith)) v i fits)
  | no above ↦
      let all : (i : ℕ) → i < length (r ∷ rs) → v ≤ from_of (r ∷ rs) i = λ i fits. omega (arith, rises_from (r ∷ rs) rising i fits) in
      record { before = λ less. absurd (omega (arith, less, lower_none (r ∷ rs) v all)); after = λ _. all j h }
]
  where
    by : (j : ℕ) → j < suc (length rs) → lower_roads (r ∷ rs) v ≡ suc (lower_roads rs v) → r.from < v → ((i : ℕ) → i < length rs → Side rs v i) → Side (r ∷ rs) v j
    by zero h count below later = record { before = λ _. below; after = λ past. absurd (omega (arith, past, count)) }
    by (suc i) h count below later =
        let s = later i (omega arith) in
        record { before = λ less. s.before (omega (arith, less, count)); after = λ past. s.after (omega (arith, past, count)) }

shown_at : (mem : List ℕ) (at k j : ℕ) → j < k → get_or (shown_roads mem at k) j no_road ≡ shown_road mem (at + 4 * j)
unfolding shown_roads
shown_at mem at zero j h = absurd (not-suc-le-zero h)
shown_at mem at (suc k) zero h =
    let start : at ≡ at + 4 * 0 = omega arith in
    ap (shown_road mem) start
shown_at mem at (suc k) (suc j) h =
    let start : at + 4 + 4 * j ≡ at + 4 * suc j = omega arith in
    shown_at mem (at + 4) k j (omega arith) ∙ ap (shown_road mem) start

module _ (m : Map) (net : Net m) (rising : Rising m.roads) {mem : List ℕ} {vertices roads : ℕ} (shown : Shown mem vertices roads m) where
  road_is : (j : ℕ) → j < road_count m → road_at m j ≡ shown_road mem (roads + 4 * j)
  road_is j h = ap (λ (rs : List Road). get_or rs j no_road) (sym shown.all_roads) ∙ shown_at mem roads (road_count m) j h

  laid_road : (j : ℕ) → j < road_count m → LaidRoad mem vertices m.vertices j (road_at m j)
  laid_road j h =
      record {
        from_below = from_below;
        to_below = net.to _ on;
        light = net.light _ on;
        first = elim (dec_le (lower_roads m.roads from) j) [
          | yes fits ↦ omega (arith, shown.first_out_lem from from_below, fits)
          | no less ↦ absurd (omega (arith, (side m.roads rising from j h).before (omega arith)))
        ];
        next = λ more. elim (dec_lt j (lower_roads m.roads (from + 1))) [
          | yes fits ↦ omega (arith, shown.first_out_lem (from + 1) more, fits)
          | no past ↦ absurd (omega (arith, (side m.roads rising (from + 1) j h).after (omega arith)))
        ];
      }
    where
      from : ℕ
      from = (road_at m j).from

      on : Memᴰ (road_at m j) m.roads
      on =
          subst (Memᴰ (road_at m j)) shown.all_roads
          (subst⁻¹ (λ (r : Road). Memᴰ r (shown_roads mem roads (road_count m))) (road_is j h) (place_road mem roads (road_count m) j h))

      from_below : from < m.vertices
      from_below = net.from _ on

  pub shown_laid : LaidMap mem vertices m.vertices roads (road_count m)
  shown_laid =
      record {
        few = net.few;
        vertices_fit = shown.vertices_fit;
        roads_fit_lem = shown.roads_fit_lem;
        vertex = λ v h. record { ends = omega (arith, shown.first_out_lem v h, lower_limit m.roads v); ordered = ordered v };
        road = λ j h. subst (LaidRoad mem vertices m.vertices j) (road_is j h) (laid_road j h);
      }
    where
      ordered : (v : ℕ) → v + 1 < m.vertices → first_out mem vertices v ≤ first_out mem vertices (v + 1)
      ordered v h = elim (dec_le (lower_roads m.roads v) (lower_roads m.roads (v + 1))) [
        | yes rises ↦ omega (arith, shown.first_out_lem v (omega arith), shown.first_out_lem (v + 1) h, rises)
        | no falls ↦
            let j = lower_roads m.roads (v + 1) in
            let there : j < length m.roads = omega (arith, lower_limit m.roads v) in
            absurd (omega (arith, (side m.roads rising v j there).before (omega arith), (side m.roads rising (v + 1) j there).after (omega arith)))
      ]

-- two memories have the same words below `end`
abbrev pub Same : List ℕ → List ℕ → ℕ → Type 0
Same mem after end = (i : ℕ) → i < end → word after i ≡ word mem i

pub shown_roads_kept : (mem after : List ℕ) (at k end : ℕ) → at + 4 * k ≤ end → Same mem after end → shown_roads after at k ≡ shown_roads mem at k
unfolding shown_roads
shown_roads_kept mem after at zero end fits same = refl
shown_roads_kept mem after at (suc k) end fits same =
    rw (same at (omega arith), same (at + 1) (omega arith), same (at + 2) (omega arith), shown_roads_kept mem after (at + 4) k end (omega arith) same)

pub shown_kept : (m : Map) {mem : List ℕ} {vertices roads : ℕ} (after : List ℕ) (end : ℕ) → vertices + 8 * m.vertices ≤ end → roads + 4 * road_count m ≤ end
    → end ≤ length after → Same mem after end → Shown mem vertices roads m → Shown after vertices roads m
shown_kept m {mem} {vertices} {roads} after end vertices_fit roads_fit_lem there same shown =
    record {
      vertices_fit = omega arith;
      roads_fit_lem = omega arith;
      all_roads = shown_roads_kept mem after roads (road_count m) end roads_fit_lem same ∙ shown.all_roads;
      first_out_lem = λ v below. same (vertices + 8 * v + 2) (omega arith) ∙ shown.first_out_lem v below;
    }
