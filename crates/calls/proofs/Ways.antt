-- The vans that events tell of, and their ways: each is where it is told to be, and its distance is at most 4,096,000,000.
-- Assumes nothing.
use mathlib.Core.Path.{◌≡◌, refl, ap, sym, ◌∙◌, subst, subst⁻¹}
use mathlib.Core.Logic.{◌≢◌}
use mathlib.Core.Option.{Option, none, some}
use mathlib.Core.List.{List}
use Prim.Native.Nat.{ℕ, ◌≤◌, ◌<◌}
use native.Mathlib.Decide.{dec_lt}
use native.Mathlib.Omega.{arith}
use lib.ListN.{get_or-eq_default}
use Rattle.words.specs.Limits.{most_van_distance, FAR, vans}
use Rattle.roads.specs.Map.{Map, road_between}
use Rattle.roads.specs.Dist.{dist, IsDistance}
use Rattle.roads.proofs.Between.{between_runs}
use Rattle.roads.proofs.Trail.{Net}
use Rattle.roads.proofs.Exact.{one_distance}
use Rattle.maps.proofs.Distances.{sound_net}
use Rattle.fleet.specs.State.{Van, absent, present, State, slot_of, head_of, distance_of}
use Rattle.fleet.specs.Good.{GoodVan, Good}
use Rattle.fleet.proofs.Distance.{way_on, van_distance}
use Rattle.calls.specs.Head.{Shows}
use Rattle.calls.specs.Run.{Done, done_by, Place, place_told, holder_told, stamp_told, slot_with, slot_told, state_told}
use Rattle.calls.specs.Promise.{VanWay, DistanceOfRun}
use Rattle.calls.proofs.Told.{slot_told_lem}
use Rattle.calls.proofs.Run.{memory_of_run}

abbrev van_with : Map → ℕ → ℕ → Place → Van
van_with m stamp holder p = record { road = road_between m.roads p.from p.to; offset = p.offset; stamp = stamp; holder = holder }

-- a slot that is told of has a van only with a place
with_place : (m : Map) (stamp holder : ℕ) (place : Option Place) (v : Van) → slot_with m stamp holder place ≡ present v → (p : Place) × (place ≡ some p) × (v ≡ van_with m stamp holder p)
with_place m stamp holder none v e = let z : ◌≡◌ {A = ℕ} 0 1 = cc in absurd (omega arith)
with_place m stamp holder (some p) v e = (p, refl, cc)

module _ (m : Map) (start : ℕ) (ds : List Done) where
  -- the fleet that is told of, and its van of number i at p
  abbrev pub fleet : State
  fleet = state_told m start ds

  abbrev pub van_told : ℕ → Place → Van
  van_told i p = van_with m (stamp_told ds i) (holder_told ds i) p

  pub in_slot : (i : ℕ) (p : Place) → i < vans → place_told ds i ≡ some p → slot_of fleet i ≡ present (van_told i p)
  unfolding slot_told
  in_slot i p h there = slot_told_lem m start ds i h ∙ ap (slot_with m (stamp_told ds i) (holder_told ds i)) there

  module _ (net : Net m) (good : Good m (state_told m start ds)) where
    -- a van of the fleet has a number in range, a place that is told of, and is as told
    pub record Known (i : ℕ) (v : Van) : Type 0 where
      pub number : i < vans
      pub place : Place
      pub there : place_told ds i ≡ some place
      pub same : v ≡ van_told i place

    pub known : (i : ℕ) (v : Van) → slot_of fleet i ≡ present v → Known i v
    unfolding slot_told
    known i v e = by (dec_lt i vans)
      where
        by : Dec (i < vans) → Known i v
        by (yes h) =
            let p = with_place m (stamp_told ds i) (holder_told ds i) (place_told ds i) v (sym (slot_told_lem m start ds i h) ∙ e) in
            record { number = h; place = p.0; there = p.1; same = p.2 }
        by (no out) =
            let past : slot_of fleet i ≡ absent = get_or-eq_default fleet.vans absent (omega (arith, good.slots, out)) in
            let z : ◌≡◌ {A = ℕ} 0 1 = cc in
            absurd (omega arith)

    module _ (i : ℕ) (p : Place) (h : i < vans) (there : place_told ds i ≡ some p) where
      van_good : GoodVan m fleet.count (van_told i p)
      van_good = good.van i (van_told i p) (in_slot i p h there)

      -- it heads for the end of its road
      heads : head_of m (van_told i p) ≡ p.to
      heads = (between_runs m.roads p.from p.to van_good.road).1

      pub way_told : (x : ℕ) → dist m (head_of m (van_told i p)) x ≢ FAR → VanWay m ds x i (distance_of m (van_told i p) x)
      unfolding distance_of
      way_told x reaches =
          record {
            number = h;
            place = p;
            there = there;
            ahead = dist m (head_of m (van_told i p)) x;
            shortest = subst (λ (end : ℕ). IsDistance m end x (dist m (head_of m (van_told i p)) x)) heads (way_on m net fleet.count (van_told i p) van_good x);
            reaches = reaches;
            way = refl;
          }

      -- what is left of a way is the distance from the road's end
      pub ahead_is : (x d : ℕ) → IsDistance m p.to x d → d ≡ dist m (head_of m (van_told i p)) x
      ahead_is x d is = one_distance (subst⁻¹ (λ (end : ℕ). IsDistance m end x d) heads is) (way_on m net fleet.count (van_told i p) van_good x)

      pub told_distance : (x : ℕ) → dist m (head_of m (van_told i p)) x ≢ FAR → distance_of m (van_told i p) x ≤ most_van_distance
      told_distance x reaches = van_distance m net fleet.count (van_told i p) van_good x reaches

    -- a way is the distance of the van that is told of
    module _ {x i d : ℕ} (w : VanWay m ds x i d) where
      ahead : w.ahead ≡ dist m (head_of m (van_told i w.place)) x
      ahead = ahead_is i w.place w.number w.there x w.ahead w.shortest

      pub way_reaches : dist m (head_of m (van_told i w.place)) x < FAR
      way_reaches = omega (arith, ahead, w.shortest.most w.reaches)

      pub way_is : d ≡ distance_of m (van_told i w.place) x
      unfolding distance_of
      way_is = omega (arith, w.way, ahead)

      pub way_most : d ≤ most_van_distance
      way_most = omega (arith, way_is, told_distance i w.place w.number w.there x (λ far. w.reaches (ahead ∙ far)))

pub distance_of_run : DistanceOfRun
distance_of_run m start es mem run x van d = way_most m start (done_by es) (sound_net m shows.sound) shows.good
  where
    shows : Shows m (state_told m start (done_by es)) mem
    shows = memory_of_run m start es mem run
