-- Roads as the code relaxes them, and as `relax` and `wake` do. Assumes nothing.
use mathlib.Core.Path.{◌≡◌, refl, ◌∙◌}
use mathlib.Core.List.{List, [], ◌∷◌}
use Prim.Native.Nat.{ℕ, zero, suc, ◌+◌, ◌*◌, ◌-◌, ◌≤◌, ◌<◌, min}
use native.Mathlib.Nat.{not-suc-le-zero, le_of_suc-le-suc}
use native.Mathlib.Numerals.{sub-one}
use native.Mathlib.Omega.{arith}
use borrow.Author.Tests.{lt-ltb, le-ltb}
use lib.ListN.{length, get_or, set}
use lib.Seq.{set-get_or}
use Rattle.words.specs.Limits.{FAR, most_vertices}
use Rattle.words.specs.Lists.{word}
use Rattle.roads.specs.Map.{Road}
use Rattle.roads.specs.Dist.{relax, relax_all}
use Rattle.roads.proofs.Labels.{label, relax_length}
use Rattle.road_relax.specs.Relaxing.{shown_road, shown_roads, Leaves, Fan}
use Rattle.road_relax.specs.Relaxing.{offer, wake, wake_all}

-- an element that is there does not depend on what stands for the missing ones
pub get_d_there : (xs : List ℕ) (i d e : ℕ) → i < length xs → get_or xs i d ≡ get_or xs i e
get_d_there [] i d e h = absurd (not-suc-le-zero h)
get_d_there (x ∷ xs) zero d e h = refl
get_d_there (x ∷ xs) (suc i) d e h = get_d_there xs i d e (le_of_suc-le-suc h)

-- a road's offer is taken where it is less than the label of the road's end
module _ (r : Road) (labels keys : List ℕ) where
  pub taken : offer r labels < label labels r.to
      → (relax r labels ≡ set labels r.to (offer r labels)) × (wake r labels keys ≡ set keys r.to (offer r labels))
  unfolding relax wake
  taken less =
      let least : min (label labels r.to) (offer r labels) ≡ offer r labels = omega arith in
      (rw least, rw (lt-ltb (offer r labels) (label labels r.to) less))

  pub kept : label labels r.to ≤ offer r labels → (relax r labels ≡ labels) × (wake r labels keys ≡ keys)
  unfolding relax wake
  kept no_less =
      let least : min (label labels r.to) (offer r labels) ≡ label labels r.to = omega arith in
      (rw (least, set-get_or labels r.to FAR), rw (le-ltb (offer r labels) (label labels r.to) no_less))

-- what the code reads of a road and its ends: its `weight`, and the labels `near` and `far` of the two ends
pub record Seen (mem labels : List ℕ) (at u near weight far : ℕ) : Type 0 where
  pub leaves : Leaves mem at u
  pub sized : length labels ≡ most_vertices
  pub near_is : near ≡ word labels u
  pub weight_is : weight ≡ word mem (at + 2)
  pub far_is : far ≡ word labels (word mem (at + 1))

module _ (mem labels keys : List ℕ) (at u near weight far : ℕ) (seen : Seen mem labels at u near weight far) where
  offer_is : near + weight ≡ offer (shown_road mem at) labels
  offer_is =
      rw (seen.near_is, seen.weight_is, seen.leaves.from_u, get_d_there labels u 0 FAR (omega (arith, seen.sized, seen.leaves.from_below)))

  far_is_label : far ≡ label labels (word mem (at + 1))
  far_is_label =
      rw (seen.far_is, get_d_there labels (word mem (at + 1)) 0 FAR (omega (arith, seen.sized, seen.leaves.to_below)))

  pub stored : near + weight < far
      → (set labels (word mem (at + 1)) (near + weight) ≡ relax (shown_road mem at) labels) × (set keys (word mem (at + 1)) (near + weight) ≡ wake (shown_road mem at) labels keys)
  stored less =
      let both = taken (shown_road mem at) labels keys (omega (arith, offer_is, far_is_label)) in
      (rw (both.0, offer_is), rw (both.1, offer_is))

  pub passed : far ≤ near + weight → (labels ≡ relax (shown_road mem at) labels) × (keys ≡ wake (shown_road mem at) labels keys)
  passed no_less =
      let both = kept (shown_road mem at) labels keys (omega (arith, offer_is, far_is_label)) in
      (rw both.0, rw both.1)

-- while k roads are relaxed: `left` of them are left, from `here` on, and give what all were to give
pub record Left (mem : List ℕ) (at k u : ℕ) (labels₀ keys₀ labels keys : List ℕ) (here left : ℕ) : Type 0 where
  pub fan : Fan mem here left u
  pub sized : length labels ≡ most_vertices
  pub labels_left : relax_all (shown_roads mem here left) labels ≡ relax_all (shown_roads mem at k) labels₀
  pub keys_left : wake_all (shown_roads mem here left) labels keys ≡ wake_all (shown_roads mem at k) labels₀ keys₀

module _ {mem : List ℕ} {at k u : ℕ} {labels₀ keys₀ labels keys : List ℕ} {here : ℕ} where
  left_first : {left : ℕ} → 0 < left → Left mem at k u labels₀ keys₀ labels keys here left → Leaves mem here u
  unfolding Fan
  left_first {left = zero} some now = absurd (not-suc-le-zero some)
  left_first {left = suc j} some now = now.fan.0

  left_step : {left : ℕ} → 0 < left → Left mem at k u labels₀ keys₀ labels keys here left
      → Left mem at k u labels₀ keys₀ (relax (shown_road mem here) labels) (wake (shown_road mem here) labels keys) (here + 4) (left - 1)
  unfolding Fan shown_roads relax_all wake_all
  left_step {left = zero} some now = absurd (not-suc-le-zero some)
  left_step {left = suc j} some now =
      rw sub-one
      (record {
        fan = now.fan.1;
        sized = relax_length (shown_road mem here) labels ∙ now.sized;
        labels_left = now.labels_left;
        keys_left = now.keys_left;
      })

  pub left_none : {left : ℕ} → left ≤ 0 → Left mem at k u labels₀ keys₀ labels keys here left
      → (labels ≡ relax_all (shown_roads mem at k) labels₀) × (keys ≡ wake_all (shown_roads mem at k) labels₀ keys₀)
  unfolding shown_roads relax_all wake_all
  left_none {left = zero} none now = (now.labels_left, now.keys_left)
  left_none {left = suc j} none now = absurd (not-suc-le-zero none)

-- the first i roads are relaxed
abbrev pub LeftAfter : (mem : List ℕ) (at k u : ℕ) (labels₀ keys₀ labels keys : List ℕ) (i : ℕ) → Type 0
LeftAfter mem at k u labels₀ keys₀ labels keys i = Left mem at k u labels₀ keys₀ labels keys (at + 4 * i) (k - i)

pub left_start : {mem : List ℕ} {at k u : ℕ} {labels keys : List ℕ} → Fan mem at k u → length labels ≡ most_vertices → LeftAfter mem at k u labels keys labels keys 0
left_start {at = at} {k = k} fan long =
    let here : at + 4 * 0 ≡ at = omega arith in
    let all : k - 0 ≡ k = omega arith in
    rw (here, all) (record { fan = fan; sized = long; labels_left = refl; keys_left = refl })

module _ {mem : List ℕ} {at k u : ℕ} {labels₀ keys₀ labels keys : List ℕ} (i : ℕ) (below : i < k) (now : LeftAfter mem at k u labels₀ keys₀ labels keys i) where
  some : 0 < k - i
  some = omega arith

  pub left_here : Leaves mem (at + 4 * i) u
  left_here = left_first some now

  pub left_next : LeftAfter mem at k u labels₀ keys₀ (relax (shown_road mem (at + 4 * i)) labels) (wake (shown_road mem (at + 4 * i)) labels keys) (i + 1)
  left_next =
      let there : at + 4 * (i + 1) ≡ at + 4 * i + 4 = omega arith in
      let fewer : k - (i + 1) ≡ k - i - 1 = omega arith in
      rw (there, fewer) (left_step some now)
