-- What the tests for parts and roads tell of a map.
-- Assumes nothing.
use mathlib.Core.Path.{◌≡◌, sym, subst}
use mathlib.Core.Bool.{true}
use mathlib.Core.List.{List, Memᴰ}
use Prim.Native.Nat.{ℕ, ◌+◌, ◌*◌, ◌<◌, ◌≤◌}
use native.Mathlib.Omega.{arith}
use lib.ListN.{length}
use Rattle.words.specs.Limits.{most_in_leaf}
use Rattle.words.specs.Lists.{up_to}
use Rattle.words.proofs.Lists.{up_to_has, map_has}
use Rattle.roads.specs.Map.{Road, Map}
use Rattle.parts.specs.Tree.{is_leaf, vertices_of}
use Rattle.parts.proofs.Down.{Tree}
use Rattle.maps.specs.Bytes.{field, road_shown, roads_of}
use Rattle.maps.specs.Sound.{SoundRoad}
use Rattle.maps.proofs.Judged.{parts_fit_lem, parent_lower, in_a_leaf, leaf_within, roads_sound}
use Rattle.map_borders.specs.Sizes.{Given}

pub record Told (m : Map) (body : List ℕ) (vertices roads : ℕ) : Type 0 where
  pub tree : Tree m
  pub small : (p : ℕ) → p < length m.parents → is_leaf m p ≡ true → length (vertices_of m p) ≤ most_in_leaf
  pub ends : (i : ℕ) → i < roads → (field body (8 * i) 2 < vertices) × (field body (8 * i + 2) 2 < vertices)

pub told : {m : Map} {parents leaves body : List ℕ} {vertices roads parts : ℕ} → Given m parents leaves body vertices roads parts → Told m body vertices roads
unfolding road_shown roads_of
told {m} {parents} {leaves} {body} {vertices} {roads} given =
    let fit = parts_fit_lem m given.good_parts in
    record {
      tree =
          record {
            falls = λ p real h. parent_lower m p (fit.parents p h) real;
            leaf_part = λ v h. (in_a_leaf m v (fit.vertices v h)).0;
            leaf_leaf = λ v h. (in_a_leaf m v (fit.vertices v h)).1;
          };
      small = λ p h leaf. (leaf_within m p (fit.families p h) leaf).1;
      ends = λ i h. let r = road i h in (omega (arith, r.from_exists, given.shows.vertex_count), omega (arith, r.to_exists, given.shows.vertex_count));
    }
  where
    road : (i : ℕ) → i < roads → SoundRoad m (road_shown body i)
    road i h =
        roads_sound m given.good_roads (road_shown body i)
        (subst (λ (rs : List Road). Memᴰ (road_shown body i) rs) (sym given.road_list) (map_has (road_shown body) (up_to roads) i (up_to_has roads i h)))
