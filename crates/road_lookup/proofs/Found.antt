-- What the search finds, in a memory that has the roads of a sound map, is the road of the definitions.
-- Assumes nothing.
use mathlib.Core.Path.{◌≡◌, sym, subst, ap, ◌∙◌}
use mathlib.Core.List.{List}
use Prim.Native.Nat.{ℕ, ◌+◌, ◌≤◌, ◌<◌}
use native.Mathlib.Omega.{arith}
use native.Mathlib.Decide.{dec_lt, ℕ_discrete}
use borrow.Author.Tests.{lt-ltb, le-ltb}
use Rattle.std.specs.Prelude.{None, Some}
use Rattle.words.proofs.Places.{entry_in}
use Rattle.roads.specs.Map.{Map, road_count, no_road, road_at, road_between}
use Rattle.roads.proofs.Between.{Runs}
use Rattle.maps.specs.Sound.{Sound}
use Rattle.counts.specs.declared.Counts.{Counts}
use Rattle.image.specs.Image.{first_road_from}
use Rattle.road_lookup.specs.Lookup.{end_in, first_road_in, Parts, Rising, FirstTo, RoadsKnown, road_found}
use Rattle.road_lookup.proofs.Sorted.{same_from, Starts, between_found, between_none, in_order, first_road}

module _ (mem : List ℕ) (counts : Counts) (u v : ℕ) (m : Map) (sound : Sound m) (stand : RoadsKnown m counts mem) where
  from_there : (i : ℕ) → i < road_count m → (road_at m i).from < m.vertices
  from_there i h = (sound.road (road_at m i) (entry_in m.roads i no_road h)).from_exists

  -- where no road of the map runs from u to v
  none_found : ((j : ℕ) → j < road_count m → Runs m.roads j u v → ⊥) → None ≡ road_found m u v
  none_found none = rw (le-ltb (road_between m.roads u v) (road_count m) (omega (arith, between_none m.roads u v none)))

  pub no_vertex : counts.vertices ≤ u → None ≡ road_found m u v
  no_vertex out = none_found (λ j h runs. omega (arith, from_there j h, stand.vertices, runs.0))

  first_is : (w : ℕ) → w ≤ m.vertices → first_road_in mem counts w ≡ first_road_from m w
  first_is w h =
      elim (dec_lt w m.vertices) [
        | yes vertex ↦ rw (lt-ltb w counts.vertices (omega (arith, stand.vertices))) (stand.first w vertex)
        | no past ↦ rw (le-ltb w counts.vertices (omega (arith, stand.vertices))) (stand.roads ∙ whole past)
      ]
    where
      whole : ¬ (w < m.vertices) → road_count m ≡ first_road_from m w
      whole past =
          let s = first_road m sound w in
          elim (dec_lt (first_road_from m w) (road_count m)) [
            | yes less ↦ absurd (omega (arith, from_there (first_road_from m w) less, s.above (first_road_from m w) (omega arith) less))
            | no all ↦ omega (arith, s.few)
          ]

  module _ (vertex : u < counts.vertices) (low high road : ℕ) (is-low : low ≡ first_road_in mem counts u) (is-high : high ≡ first_road_in mem counts (u + 1))
      (searched : FirstTo (end_in mem counts) low high v road)
    where
      lower : Starts m.roads u low
      lower = subst (Starts m.roads u) (sym (is-low ∙ first_is u (omega (arith, stand.vertices)))) (first_road m sound u)

      upper : Starts m.roads (u + 1) high
      upper = subst (Starts m.roads (u + 1)) (sym (is-high ∙ first_is (u + 1) (omega (arith, stand.vertices)))) (first_road m sound (u + 1))

      -- the roads between the two start at u, and no other does
      from_u : (i : ℕ) → low ≤ i → i < high → (road_at m i).from ≡ u
      from_u i h l = omega (arith, lower.above i h (omega (arith, upper.few)), upper.below i l)

      ordered : low ≤ high
      ordered = elim (dec_lt high low) [ yes less ↦ absurd (omega (arith, lower.below high less, upper.above high (omega arith) (omega (arith, lower.few)))) | no h ↦ omega arith ]

      inside : (j : ℕ) → j < road_count m → (road_at m j).from ≡ u → (low ≤ j) × (j < high)
      inside j h from = (
        elim (dec_lt j low) [ yes less ↦ absurd (omega (arith, lower.below j less)) | no l ↦ omega arith ],
        elim (dec_lt j high) [ yes less ↦ less | no past ↦ absurd (omega (arith, upper.above j (omega arith) h)) ],
      )

      end_is : (i : ℕ) → i < high → end_in mem counts i ≡ (road_at m i).to
      end_is i h = stand.end i (omega (arith, upper.few))

      rising : Rising (end_in mem counts) low high
      rising i j h order l =
          elim (ℕ_discrete i j) [
            | yes same ↦ rw same (omega arith)
            | no other ↦
                omega (
                  arith,
                  end_is i (omega arith),
                  end_is j l,
                  same_from (road_at m i) (road_at m j) (in_order m sound i j (omega arith) (omega (arith, upper.few))) (from_u i h (omega arith) ∙ sym (from_u j (omega arith) l)),
                )
          ]

      parts : Parts (end_in mem counts) low high v road
      parts = searched ordered rising

      pub none_left : high ≤ road → None ≡ road_found m u v
      none_left past =
          none_found
          (λ j h runs.
          let at = inside j h runs.0 in
          omega (arith, parts.before j at.0 (omega arith), end_is j at.1, runs.1))

      pub past_all : counts.roads ≤ road → None ≡ road_found m u v
      past_all past = none_left (omega (arith, past, upper.few, stand.roads))

      pub other_end : road < high → (end_in mem counts road ≡ v → ⊥) → None ≡ road_found m u v
      other_end within differs = none_found none
        where
          none : (j : ℕ) → j < road_count m → Runs m.roads j u v → ⊥
          none j h runs =
              let at = inside j h runs.0 in
              elim (dec_lt j road) [
                | yes less ↦ omega (arith, parts.before j at.0 less, end_is j at.1, runs.1)
                | no later ↦ differs (omega (arith, parts.after road (omega arith) within, rising road j parts.from (omega arith) at.1, end_is j at.1, runs.1))
              ]

      pub that_road : road < high → end_in mem counts road ≡ v → Some road ≡ road_found m u v
      that_road within same = rw (lt-ltb (road_between m.roads u v) (road_count m) (omega (arith, is, upper.few))) (ap Some (sym is))
        where
          is : road_between m.roads u v ≡ road
          is =
              between_found m.roads u v road (omega (arith, upper.few)) (from_u road parts.from within, sym (end_is road within) ∙ same)
              (λ j less runs.
              let at = inside j (omega (arith, upper.few)) runs.0 in
              omega (arith, parts.before j at.0 less, end_is j at.1, runs.1))
