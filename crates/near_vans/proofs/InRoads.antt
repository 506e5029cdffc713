-- The links from a vertex's record lead over the roads that end at it, in rising number: each of them is looked at.
-- Assumes nothing.
use mathlib.Core.Path.{◌≡◌, refl, sym, ap, subst, subst⁻¹, ◌∙◌}
use mathlib.Core.Bool.{false}
use mathlib.Core.List.{List}
use Prim.Native.Nat.{ℕ, suc, ◌+◌, ◌-◌, ◌%◌, ◌≤◌, ◌<◌, min}
use native.Mathlib.Nat.{mod-eq_of_lt}
use native.Mathlib.Decide.{ℕ_discrete}
use native.Mathlib.Omega.{arith}
use lib.ListN.{drop, length-drop}
use lib.Seq.{get_or-drop}
use borrow.Author.Tests.{eq-eqb, eqb-true}
use Rattle.std.specs.List.{slice_range}
use Rattle.std.proofs.lemmas.List.{get_or-take}
use Rattle.words.proofs.Tests.{clash}
use Rattle.words.specs.Lists.{word, link}
use Rattle.words.proofs.Places.{entry_in}
use Rattle.roads.specs.Map.{Map, road_at, road_count, no_road}
use Rattle.roads.specs.Walk.{Walk, go}
use Rattle.roads.specs.Dist.{dist}
use Rattle.roads.proofs.Trail.{Net, weigh_walk}
use Rattle.roads.proofs.Exact.{dist_exact}
use Rattle.maps.proofs.Distances.{sound_net}
use Rattle.counts.specs.declared.Counts.{Counts}
use Rattle.fleet.specs.State.{State}
use Rattle.image.specs.Image.{ends_at}
use Rattle.image.specs.Records.{road_record}
use Rattle.places.specs.Place as place
use Rattle.van_lists.proofs.Found.{Found, nothing, found, link_in}
use Rattle.van_offers.proofs.Shown.{road_read}
use Rattle.near_vans.specs.Around.{Waits, Reached, Around, Met, RoadsFollowed, SameTaken}
use Rattle.near_vans.proofs.Meeting.{further, After, met}

-- the first road into v of number `low` or a higher one
road_found : (m : Map) (v low : ℕ) → low ≤ road_count m → Found (λ j. ends_at v (road_at m j)) low (road_count m) (link (ends_at v) low (drop low m.roads))
road_found m v low h =
    link_in (ends_at v) no_road (λ j. ends_at v (road_at m j)) (drop low m.roads) low (road_count m) (omega (arith, length-drop low m.roads))
    (λ k hk. ap (ends_at v) (sym (get_or-drop low m.roads k no_road)))

-- the words of a road, read as a slice
pub in_road : (mem road : List ℕ) (r w : ℕ) → road ≡ slice_range mem r (r + 4) → w < 4 → word road w ≡ word mem (r + w)
in_road mem road r w is h = ap (λ (l : List ℕ). word l w) is ∙ get_or-take (r + 4 - r) (drop r mem) w 0 (omega arith) ∙ get_or-drop r mem w 0

-- the roads into v below number `low` have been looked at, and the link leads to the next
pub record Going (m : Map) (x v next : ℕ) (before f : Waits) : Type 0 where
  pub low : ℕ
  pub within : low ≤ road_count m
  pub link_is : next ≡ link (ends_at v) low (drop low m.roads)
  pub around : Around m x v low f
  pub same : SameTaken before.at f.at

module _ {m : Map} {s : State} {mem : List ℕ} {counts : Counts} {x v first near : ℕ} {f₀ : Waits} (o : RoadsFollowed m s mem counts x v first near f₀) where
  pub going_start : Going m x v first f₀ f₀
  going_start = record { low = 0; within = omega arith; link_is = o.first_is; around = o.around; same = λ u. refl }

  module _ {next : ℕ} {f : Waits} (g : Going m x v next f₀ f) where
    -- the last link: all have been looked at
    pub going_end : next ≡ 0 → Around m x v (road_count m) f × SameTaken f₀.at f.at
    going_end end = (by (road_found m v g.low g.within), g.same)
      where
        by : Found (λ j. ends_at v (road_at m j)) g.low (road_count m) (link (ends_at v) g.low (drop g.low m.roads)) → Around m x v (road_count m) f
        by (nothing is none) = further (road_count m) (λ j from below hj to. absurd (clash (eq-eqb (road_at m j).to v to) (none j from hj))) g.around
        by (found j is from below passes none) = absurd (omega (arith, is, g.link_is, end))

    -- a road into v: the one that it comes from is met
    module _ (j : ℕ) (hj : j < road_count m) (from_low : g.low ≤ j) (into : (road_at m j).to ≡ v) (none : (i : ℕ) → g.low ≤ i → i < j → ends_at v (road_at m i) ≡ false) where
      net : Net m
      net = sound_net m o.genuine.sound

      few : m.vertices ≤ 4096
      few = o.genuine.sound.vertices.1

      walk : Walk m (road_at m j).from x ((road_at m j).weight + near)
      walk =
          go (entry_in m.roads j no_road hj)
          (subst⁻¹ (λ (b : ℕ). Walk m b x near) into (weigh_walk (sym o.near_is) ((dist_exact m net v x o.is_vertex).reached (λ far. omega (arith, far, o.near_is, o.reaches)))))

      read : (w : ℕ) → w < 4 → {r : ℕ} → r ≡ place.road_address counts j → word mem (r + w) ≡ word (road_record m j) w
      read w hw at-road = ap (λ (k : ℕ). word mem (k + w)) (at-road ∙ ap (λ (c : Counts). place.road_address c j) o.counts_are) ∙ road_read o.genuine j w hj hw

      module _ {r u far next' : ℕ} {f' : Waits} (is_record_lem : r ≡ place.road_address counts j) (is-from : u ≡ word mem r % 4096) (is-far : far ≡ min (near + word mem (r + 2)) 4294967295)
          (is-next : next' ≡ word mem (r + 3)) (was-met : Met u far f f') where
        from_is : u ≡ (road_at m j).from
        unfolding road_record
        from_is =
            is-from
            ∙ ap (λ (k : ℕ). k % 4096) (ap (word mem) (plus-zero r) ∙ read 0 (omega arith) is_record_lem)
            ∙ mod-eq_of_lt (omega (arith, net.from (road_at m j) (entry_in m.roads j no_road hj), few))
          where
            plus-zero : (k : ℕ) → k ≡ k + 0
            plus-zero k = omega arith

        weight_is : word mem (r + 2) ≡ (road_at m j).weight
        unfolding road_record
        weight_is = read 2 (omega arith) is_record_lem

        far_is : far ≡ (road_at m j).weight + near
        far_is =
            omega (
              arith,
              is-far,
              weight_is,
              net.light (road_at m j) (entry_in m.roads j no_road hj),
              o.near_is,
              (dist_exact m net v x o.is_vertex).most (λ f. omega (arith, f, o.near_is, o.reaches)),
            )

        next_is : next' ≡ link (ends_at v) (suc j) (drop (suc j) m.roads)
        unfolding road_record
        next_is = is-next ∙ read 3 (omega arith) is_record_lem ∙ ap (λ (to : ℕ). link (ends_at to) (suc j) (drop (suc j) m.roads)) into

        after : After m x v g.low u far f.at f'
        after =
            met few g.around u far (omega (arith, from_is, net.from (road_at m j) (entry_in m.roads j no_road hj)))
            (subst⁻¹ (λ (w : ℕ). Walk m w x far) from_is (subst⁻¹ (Walk m (road_at m j).from x) far_is walk)) was-met

        looked : (i : ℕ) → g.low ≤ i → i < suc j → i < road_count m → (road_at m i).to ≡ v → Reached f' (road_at m i).from ((road_at m i).weight + dist m (road_at m i).to x)
        looked i low below hi to = by (ℕ_discrete i j)
          where
            here : Reached f' (road_at m j).from ((road_at m j).weight + dist m (road_at m j).to x)
            here =
                subst (λ (w : ℕ). Reached f' w ((road_at m j).weight + dist m (road_at m j).to x)) from_is
                (subst (Reached f' u) (far_is ∙ ap (λ (d : ℕ). (road_at m j).weight + d) (o.near_is ∙ ap (λ (b : ℕ). dist m b x) (sym into))) after.here)

            by : Dec (i ≡ j) → Reached f' (road_at m i).from ((road_at m i).weight + dist m (road_at m i).to x)
            by (yes same) = subst⁻¹ (λ (k : ℕ). Reached f' (road_at m k).from ((road_at m k).weight + dist m (road_at m k).to x)) same here
            by (no other) = absurd (clash (eq-eqb (road_at m i).to v to) (none i low (omega (arith, other))))

        next_road : Going m x v next' f₀ f'
        next_road =
            record {
              low = suc j;
              within = hj;
              link_is = next_is;
              around = further (suc j) looked after.around;
              same = λ w. after.same w ∙ g.same w;
            }

    pub going_on : {r number u far next' : ℕ} {f' : Waits} → 1 ≤ next → number ≡ next - 1 → r ≡ place.road_address counts number → u ≡ word mem r % 4096
        → far ≡ min (near + word mem (r + 2)) 4294967295 → next' ≡ word mem (r + 3) → Met u far f f'
        → Going m x v next' f₀ f'
    going_on {r} {number} {next' = next'} {f'} real is_number is_record_lem is-from is-far is-next was-met = by (road_found m v g.low g.within)
      where
        by : Found (λ j. ends_at v (road_at m j)) g.low (road_count m) (link (ends_at v) g.low (drop g.low m.roads)) → Going m x v next' f₀ f'
        by (nothing is none) = absurd (omega (arith, real, is, g.link_is))
        by (found j is from below passes none) =
            let number_is : number ≡ j = omega (arith, is_number, is, g.link_is) in
            next_road j below from (eqb-true (road_at m j).to v passes) none (is_record_lem ∙ ap (place.road_address counts) number_is) is-from is-far is-next was-met
