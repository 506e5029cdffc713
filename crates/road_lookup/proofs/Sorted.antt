-- The roads of a sound map by (from, to): where those from a vertex begin, and that a road is found by its ends.
-- Assumes nothing.
use mathlib.Core.Path.{◌≡◌, refl, ap, subst}
use mathlib.Core.Logic.{inl, inr}
use mathlib.Core.Bool.{Bool, true, false, ◌&&◌, cond}
use mathlib.Core.List.{List, [], ◌∷◌}
use Prim.Native.Nat.{ℕ, zero, suc, ◌≤◌, ◌<◌}
use native.Mathlib.Omega.{arith}
use native.Mathlib.Decide.{dec_lt}
use lib.ListN.{length, get_or}
use lib.Dec.{ltb, eqb}
use borrow.Author.Tests.{ltb-true, ltb-false, eqb-true, eq-eqb}
use Rattle.words.specs.Lists.{keep}
use Rattle.words.proofs.Tests.{both_true, pair_trans}
use Rattle.roads.specs.Map.{Road, Map, road_count, no_road, road_at, road_between}
use Rattle.roads.proofs.Between.{Runs}
use Rattle.maps.specs.Sound.{RoadBefore, Sound}
use Rattle.image.specs.Image.{first_road_from}

before_from : (a b : Road) → RoadBefore a b → a.from ≤ b.from
before_from a b (inl x) = omega arith
before_from a b (inr x) = omega arith

pub same_from : (a b : Road) → RoadBefore a b → a.from ≡ b.from → a.to < b.to
same_from a b (inl x) e = absurd (omega arith)
same_from a b (inr x) e = x.1

-- `k` parts the roads: before it they start below u, from it on they do not
pub record Starts (rs : List Road) (u k : ℕ) : Type 0 where
  pub few : k ≤ length rs
  pub below : (i : ℕ) → i < k → (get_or rs i no_road).from < u
  pub above : (i : ℕ) → k ≤ i → i < length rs → u ≤ (get_or rs i no_road).from

abbrev Rises : List Road → Type 0
Rises rs = (i j : ℕ) → i ≤ j → j < length rs → (get_or rs i no_road).from ≤ (get_or rs j no_road).from

starts : (rs : List Road) (u : ℕ) → Rises rs → Starts rs u (length (keep (λ r. ltb r.from u) rs))
starts [] u rises = record { few = omega arith; below = λ i h. absurd (omega arith); above = λ i h l. absurd (omega arith) }
starts (r ∷ rs) u rises = by (ltb r.from u) refl (starts rs u (λ i j h l. rises (suc i) (suc j) (omega arith) (omega arith)))
  where
    later : List Road
    later = keep (λ x. ltb x.from u) rs

    by : (here : Bool) → ltb r.from u ≡ here → Starts rs u (length later) → Starts (r ∷ rs) u (length (cond here (r ∷ later) later))
    by true e rest = record { few = omega (arith, rest.few); below = below; above = above }
      where
        below : (i : ℕ) → i < suc (length later) → (get_or (r ∷ rs) i no_road).from < u
        below zero h = ltb-true r.from u e
        below (suc i) h = rest.below i (omega arith)

        above : (i : ℕ) → suc (length later) ≤ i → i < suc (length rs) → u ≤ (get_or (r ∷ rs) i no_road).from
        above zero h l = absurd (omega arith)
        above (suc i) h l = rest.above i (omega arith) (omega arith)
    by false e rest = record { few = omega (arith, none); below = λ i h. absurd (omega (arith, none)); above = above }
      where
        first : u ≤ r.from
        first = ltb-false r.from u e

        none : length later ≤ 0
        none =
            elim (dec_lt 0 (length later)) [
              | yes some ↦ absurd (omega (arith, first, rest.below 0 some, rises 0 1 (omega arith) (omega (arith, rest.few))))
              | no h ↦ omega arith
            ]

        above : (i : ℕ) → length later ≤ i → i < suc (length rs) → u ≤ (get_or (r ∷ rs) i no_road).from
        above i h l = omega (arith, first, rises 0 i (omega arith) l)

-- the first road with these ends, or the number of roads where none has them, is what is found
between_first : (rs : List Road) (u v i : ℕ) → i ≤ length rs → (i < length rs → Runs rs i u v) → ((j : ℕ) → j < i → Runs rs j u v → ⊥) → road_between rs u v ≡ i
unfolding road_between
between_first [] u v i h runs first = omega arith
between_first (r ∷ rs) u v zero h runs first = let ends = runs (omega arith) in rw (eq-eqb r.from u ends.0, eq-eqb r.to v ends.1) refl
between_first (r ∷ rs) u v (suc i) h runs first =
    by (eqb r.from u && eqb r.to v) refl (between_first rs u v i (omega arith) (λ l. runs (omega arith)) (λ j l. first (suc j) (omega arith)))
  where
    by : (here : Bool) → (eqb r.from u && eqb r.to v) ≡ here → road_between rs u v ≡ i → cond here 0 (suc (road_between rs u v)) ≡ suc i
    by true e later =
        let ends = both_true (eqb r.from u) (eqb r.to v) e in
        absurd (first 0 (omega arith) (eqb-true r.from u ends.0, eqb-true r.to v ends.1))
    by false e later = ap suc later

pub between_found : (rs : List Road) (u v i : ℕ) → i < length rs → Runs rs i u v → ((j : ℕ) → j < i → Runs rs j u v → ⊥) → road_between rs u v ≡ i
between_found rs u v i h runs first = between_first rs u v i (omega arith) (λ l. runs) first

pub between_none : (rs : List Road) (u v : ℕ) → ((j : ℕ) → j < length rs → Runs rs j u v → ⊥) → road_between rs u v ≡ length rs
between_none rs u v none = between_first rs u v (length rs) (omega arith) (λ l. absurd (omega arith)) none

module _ (m : Map) (sound : Sound m) where
  pub in_order : (i j : ℕ) → i < j → j < road_count m → RoadBefore (road_at m i) (road_at m j)
  in_order i zero h l = absurd (omega arith)
  in_order i (suc j) h l =
      elim (dec_lt i j) [
        | yes less ↦ pair_trans (road_at m i).from (road_at m i).to (road_at m j).from (road_at m j).to (road_at m (suc j)).from (road_at m (suc j)).to (in_order i j less (omega arith)) (sound.rising j l)
        | no same ↦ subst (λ (k : ℕ). RoadBefore (road_at m k) (road_at m (suc j))) (last same) (sound.rising j l)
      ]
    where
      last : ¬ (i < j) → j ≡ i
      last same = omega arith

  pub first_road : (u : ℕ) → Starts m.roads u (first_road_from m u)
  unfolding first_road_from
  first_road u = starts m.roads u rises
    where
      rises : (i j : ℕ) → i ≤ j → j < length m.roads → (get_or m.roads i no_road).from ≤ (get_or m.roads j no_road).from
      rises i j h l = elim (dec_lt i j) [ yes less ↦ before_from (road_at m i) (road_at m j) (in_order i j less l) | no same ↦ same-road (last same) ]
        where
          last : ¬ (i < j) → j ≡ i
          last same = omega arith

          same-road : j ≡ i → (road_at m i).from ≤ (road_at m j).from
          same-road e = rw e (omega arith)
