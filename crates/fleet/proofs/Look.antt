-- Looking up a road tells which of the three it is, by the roads of the map.
-- Assumes nothing.
use mathlib.Core.Path.{◌≡◌}
use mathlib.Core.Logic.{◌↔◌, ⊎_elim}
use mathlib.Core.Bool.{Bool, true, false, ◌&&◌, cond}
use mathlib.Core.List.{List, [], ◌∷◌}
use Prim.Native.Nat.{ℕ, zero, suc, ◌≤◌, ◌<◌}
use native.Mathlib.Omega.{arith}
use lib.ListN.{length}
use lib.Dec.{eqb}
use borrow.Author.Tests.{ltb-true, lt-ltb, eq-eqb}
use Rattle.words.proofs.Tests.{true_or_false}
use Rattle.roads.specs.Map.{Road, Map, road_count, road_between}
use Rattle.roads.proofs.Between.{Runs, between_runs}
use Rattle.fleet.specs.State.{State}
use Rattle.fleet.specs.Change.{is_road}
use Rattle.fleet.specs.Look.{FindRoad, look_refusal, look_value, look, HasRoad, Tells}

-- a road that runs there is found, or one before it
found_by_lem : (rs : List Road) (u v i : ℕ) → i < length rs → Runs rs i u v → road_between rs u v ≤ i
unfolding road_between
found_by_lem [] u v i h runs = absurd (omega arith)
found_by_lem (r ∷ rs) u v zero h runs = rw (eq-eqb r.from u runs.0, eq-eqb r.to v runs.1) (omega arith)
found_by_lem (r ∷ rs) u v (suc i) h runs = by (eqb r.from u && eqb r.to v) (found_by_lem rs u v i (omega arith) runs)
  where
    by : (here : Bool) → road_between rs u v ≤ i → cond here 0 (suc (road_between rs u v)) ≤ suc i
    by true later = omega arith
    by false later = omega arith

module _ (m : Map) where
  pub has_road : (u v : ℕ) → (is_road m u v ≡ true) ↔ HasRoad m u v
  has_road u v = (
    (λ e. let h = ltb-true (road_between m.roads u v) (road_count m) e in (road_between m.roads u v, h, (between_runs m.roads u v h).0, (between_runs m.roads u v h).1)),
    (λ r. lt-ltb (road_between m.roads u v) (road_count m) (omega (arith, found_by_lem m.roads u v r.0 r.1 (r.2, r.3), r.1))),
  )

  pub look_tells : (s : State) (u v : ℕ) → Tells m u v (look m s (FindRoad u v))
  unfolding look look_refusal look_value
  look_tells s u v =
      record {
        there = λ r. rw ((has_road u v).1 r);
        other_way = λ gone r. rw (missing_road u v gone, (has_road v u).1 r);
        neither = λ gone none. rw (missing_road u v gone, missing_road v u none);
      }
    where
      missing_road : (a b : ℕ) → ¬ HasRoad m a b → is_road m a b ≡ false
      missing_road a b gone = ⊎_elim (λ e. absurd (gone ((has_road a b).0 e))) (λ e. e) (true_or_false (is_road m a b))
