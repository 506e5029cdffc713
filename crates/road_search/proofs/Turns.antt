-- A search's labels and keys stay right from turn to turn, whatever vertex is taken, and what is left of it falls. Assumes nothing.
use mathlib.Core.Path.{◌≡◌, refl, sym, ap, ◌∙◌, subst⁻¹}
use mathlib.Core.Logic.{inl, inr}
use mathlib.Core.Bool.{Bool, true, false, cond}
use mathlib.Core.List.{List, [], ◌∷◌, Memᴰ}
use Prim.Native.Nat.{ℕ, zero, suc, ◌+◌, ◌≤◌, ◌<◌}
use native.Mathlib.Nat.{le_refl, le_trans, not-suc-le-zero, le_of_suc-le-suc}
use native.Mathlib.Omega.{arith}
use native.Mathlib.Decide.{ℕ_discrete, dec_lt}
use borrow.Author.Tests.{ne_eqb}
use lib.Dec.{eqb, lit≤}
use lib.ListN.{length, get_or, set, replicate, length-set, length-replicate}
use lib.Seq.{get_or-set_same, get_or-set_other}
use Rattle.words.specs.Limits.{FAR, most_vertices}
use Rattle.words.specs.Lists.{word}
use Rattle.words.proofs.Lists.{all_same}
use Rattle.roads.specs.Map.{Road, Map}
use Rattle.roads.specs.Walk.{Walk, stay}
use Rattle.roads.specs.Dist.{relax, relax_all, dist}
use Rattle.roads.proofs.Trail.{Net}
use Rattle.roads.proofs.Labels.{label, Told, Honest, told_most, relax_length, relax_lower, relax_all_length, relax_all_lower, relax_all_end, relax_all_honest}
use Rattle.roads.proofs.Settled.{Settled, settled_dist}
use Rattle.road_relax.specs.Relaxing.{offer, wake, wake_all}
use Rattle.road_relax.proofs.Relaxed.{get_d_there, taken, kept}

-- The labels and the keys to start from: 0 at a, and FAR at every other place.

unfoldable pub begun : ℕ → List ℕ
begun a = set (replicate most_vertices FAR) a 0

module _ (a : ℕ) where
  begun_length : length (begun a) ≡ most_vertices
  unfolding begun
  begun_length = length-set (replicate most_vertices FAR) a 0 ∙ length-replicate most_vertices FAR

  begun_zero : a < most_vertices → label (begun a) a ≡ 0
  unfolding begun
  begun_zero there = get_or-set_same (replicate most_vertices FAR) a 0 FAR (rw (length-replicate most_vertices FAR) there)

  begun_far : (v : ℕ) → (v ≡ a → ⊥) → label (begun a) v ≡ FAR
  unfolding begun
  begun_far v other = get_or-set_other (replicate most_vertices FAR) a v 0 FAR other ∙ all_same most_vertices v FAR

  begun_honest : {m : Map} → a < m.vertices → a < most_vertices → Honest m a (begun a)
  begun_honest {m} there below v = elim (ℕ_discrete v a) [
    | no other ↦ inl (begun_far v other)
    | yes same ↦
        subst⁻¹ (Told m a v) (ap (label (begun a)) same ∙ begun_zero below)
        (inr (lit≤ tt, subst⁻¹ (λ (k : ℕ). Walk m a k 0) same (stay there)))
  ]

-- The two cases of a road's offer, for its label and its key together.

wake_cases : (P : List ℕ → List ℕ → Type 0) (r : Road) (labels keys : List ℕ)
    → (offer r labels < label labels r.to → P (set labels r.to (offer r labels)) (set keys r.to (offer r labels)))
    → (label labels r.to ≤ offer r labels → P labels keys)
    → P (relax r labels) (wake r labels keys)
wake_cases P r labels keys less no_less = elim (dec_lt (offer r labels) (label labels r.to)) [
  | yes h ↦ let both = taken r labels keys h in rw (both.0, both.1) (less h)
  | no h ↦ let both = kept r labels keys (omega arith) in rw (both.0, both.1) (no_less (omega arith))
]

wake_length : (r : Road) (labels keys : List ℕ) → length (wake r labels keys) ≡ length keys
wake_length r labels keys = wake_cases (λ _ after. length after ≡ length keys) r labels keys (λ _. simp length-set) (λ _. refl)

wake_all_length : (rs : List Road) (labels keys : List ℕ) → length (wake_all rs labels keys) ≡ length keys
unfolding wake_all
wake_all_length [] labels keys = refl
wake_all_length (r ∷ rs) labels keys = wake_all_length rs (relax r labels) (wake r labels keys) ∙ wake_length r labels keys

-- What is left of a search: each label twice, and one for each vertex that waits.

one : ℕ → ℕ
one key = cond (eqb key FAR) 0 1

one_far : one FAR ≡ 0
unfolding one
one_far = refl

one_waits : (key : ℕ) → (key ≡ FAR → ⊥) → one key ≡ 1
unfolding one
one_waits key waits = ap (λ t. cond t 0 1) (ne_eqb key FAR waits)

one_limit : (key : ℕ) → one key ≤ 1
unfolding one
one_limit key = go (eqb key FAR)
  where
    go : (t : Bool) → cond t 0 1 ≤ 1
    go true = omega arith
    go false = omega arith

sum_of : (ℕ → ℕ) → List ℕ → ℕ
sum_of f [] = 0
sum_of f (x ∷ xs) = f x + sum_of f xs

sum_of_set : (f : ℕ → ℕ) (xs : List ℕ) (i x : ℕ) → i < length xs → sum_of f (set xs i x) + f (get_or xs i 0) ≡ sum_of f xs + f x
unfolding sum_of
sum_of_set f [] i x h = absurd (not-suc-le-zero h)
sum_of_set f (y ∷ xs) zero x h = omega arith
sum_of_set f (y ∷ xs) (suc i) x h = omega (arith, sum_of_set f xs i x (le_of_suc-le-suc h))

double : ℕ → ℕ
double x = x + x

pub potential : List ℕ → List ℕ → ℕ
potential labels keys = sum_of double labels + sum_of one keys

-- a vertex that is taken ceases to wait
take_potential : (labels keys : List ℕ) (u : ℕ) → u < length keys → (word keys u ≡ FAR → ⊥) → potential labels (set keys u FAR) < potential labels keys
unfolding potential
take_potential labels keys u there waits = omega (arith, sum_of_set one keys u FAR there, one_far, one_waits (word keys u) waits)

-- a label that falls pays for the vertex that waits anew
relax_potential : (r : Road) (labels keys : List ℕ) → r.to < length labels → r.to < length keys
    → potential (relax r labels) (wake r labels keys) ≤ potential labels keys
unfolding potential double
relax_potential r labels keys there there2 =
    wake_cases (λ ls ks. potential ls ks ≤ potential labels keys) r labels keys
    (λ less.
    omega (
      arith,
      sum_of_set double labels r.to (offer r labels) there,
      sum_of_set one keys r.to (offer r labels) there2,
      one_limit (offer r labels),
      get_d_there labels r.to 0 FAR there,
    ))
    (λ _. le_refl _)

-- each road leads to a place below n
abbrev Inside : List Road → ℕ → Type 0
Inside rs n = (r : Road) → Memᴰ r rs → r.to < n

relax_all_potential : (rs : List Road) (labels keys : List ℕ) → Inside rs (length labels) → Inside rs (length keys)
    → potential (relax_all rs labels) (wake_all rs labels keys) ≤ potential labels keys
unfolding relax_all wake_all
relax_all_potential [] labels keys there there2 = le_refl _
relax_all_potential (r ∷ rs) labels keys there there2 =
    le_trans
    (relax_all_potential rs (relax r labels) (wake r labels keys) (λ s m. rw (relax_length r labels) (there s (Memᴰ.tail m)))
    (λ s m. rw (wake_length r labels keys) (there2 s (Memᴰ.tail m))))
    (relax_potential r labels keys (there r (Memᴰ.head refl)) (there2 r (Memᴰ.head refl)))

-- A vertex that does not wait in the end did not wait before, and its label is as it was.

wake_asleep : (r : Road) (labels keys : List ℕ) (v : ℕ) → r.to < length keys → label labels r.to ≤ FAR
    → word (wake r labels keys) v ≡ FAR → (word keys v ≡ FAR) × (label (relax r labels) v ≡ label labels v)
wake_asleep r labels keys v there within =
    wake_cases (λ ls ks. word ks v ≡ FAR → (word keys v ≡ FAR) × (label ls v ≡ label labels v)) r labels keys
    (λ less asleep. elim (ℕ_discrete v r.to) [
      | no other ↦
          (sym (get_or-set_other keys r.to v (offer r labels) 0 other) ∙ asleep, get_or-set_other labels r.to v (offer r labels) FAR other)
      | yes same ↦ let e = rw (same, get_or-set_same keys r.to (offer r labels) 0 there) at asleep in absurd (omega arith)
    ])
    (λ _ asleep. (asleep, refl))

wake_all_asleep : (rs : List Road) (labels keys : List ℕ) (v : ℕ) → Inside rs (length keys) → ((t : ℕ) → label labels t ≤ FAR)
    → word (wake_all rs labels keys) v ≡ FAR → (word keys v ≡ FAR) × (label (relax_all rs labels) v ≡ label labels v)
unfolding relax_all wake_all
wake_all_asleep [] labels keys v there within asleep = (asleep, refl)
wake_all_asleep (r ∷ rs) labels keys v there within asleep =
    let later = wake_all_asleep rs (relax r labels) (wake r labels keys) v (λ s m. rw (wake_length r labels keys) (there s (Memᴰ.tail m)))
    (λ t. le_trans (relax_lower r labels t) (within t)) asleep in
    let first = wake_asleep r labels keys v (there r (Memᴰ.head refl)) (within r.to) later.0 in
    (first.0, later.1 ∙ first.1)

-- the labels and keys of a search under way: each road out of a vertex that does not wait is relaxed
pub record Going (m : Map) (a : ℕ) (labels keys : List ℕ) : Type 0 where
  pub labels_sized : length labels ≡ most_vertices
  pub keys_sized : length keys ≡ most_vertices
  pub start : label labels a ≡ 0
  pub walked : Honest m a labels
  pub relaxed : (r : Road) → Memᴰ r m.roads → word keys r.from ≡ FAR → label labels r.to ≤ offer r labels

module _ (m : Map) (net : Net m) (a : ℕ) (there : a < m.vertices) where
  below : a < most_vertices
  below = omega (arith, net.few)

  to_limit : (r : Road) → Memᴰ r m.roads → r.to < most_vertices
  to_limit r h = omega (arith, net.to r h, net.few)

  pub going_start : Going m a (begun a) (begun a)
  going_start =
      record {
        labels_sized = begun_length a;
        keys_sized = begun_length a;
        start = begun_zero a below;
        walked = begun_honest a there below;
        relaxed = λ r h asleep.
            omega (
              arith,
              asleep,
              told_most m a r.to _ (begun_honest a there below r.to),
              get_d_there (begun a) r.from 0 FAR (rw (begun_length a) (omega (arith, net.from r h, net.few))),
            );
      }

  -- the vertex u is taken, and the roads `rs`, which are all that leave it, are relaxed
  pub going_turn : {labels keys : List ℕ} (u : ℕ) (rs : List Road) → ((r : Road) → Memᴰ r rs → Memᴰ r m.roads)
      → ((r : Road) → Memᴰ r m.roads → r.from ≡ u → Memᴰ r rs)
      → Going m a labels keys → Going m a (relax_all rs labels) (wake_all rs labels (set keys u FAR))
  going_turn {labels} {keys} u rs part whole going =
      record {
        labels_sized = relax_all_length rs labels ∙ going.labels_sized;
        keys_sized = wake_all_length rs labels (set keys u FAR) ∙ taken_sized;
        start = omega (arith, relax_all_lower rs labels a, going.start);
        walked = relax_all_honest m net a there rs part labels going.walked;
        relaxed = relaxed;
      }
    where
      taken_sized : length (set keys u FAR) ≡ most_vertices
      taken_sized = length-set keys u FAR ∙ going.keys_sized

      relaxed : (r : Road) → Memᴰ r m.roads → word (wake_all rs labels (set keys u FAR)) r.from ≡ FAR
          → label (relax_all rs labels) r.to ≤ offer r (relax_all rs labels)
      relaxed r h asleep =
          let before = wake_all_asleep rs labels (set keys u FAR) r.from (λ s k. rw taken_sized (to_limit s (part s k)))
          (λ t. told_most m a t _ (going.walked t)) asleep in
          elim (ℕ_discrete r.from u) [
            | yes same ↦ omega (arith, before.1, relax_all_end rs labels r (whole r h same) (rw going.labels_sized (to_limit r h)))
            | no other ↦
                omega (
                  arith,
                  before.1,
                  relax_all_lower rs labels r.to,
                  going.relaxed r h (sym (get_or-set_other keys u r.from FAR 0 other) ∙ before.0),
                )
          ]

  -- and less is left
  pub going_less : {labels keys : List ℕ} (u : ℕ) (rs : List Road) → ((r : Road) → Memᴰ r rs → Memᴰ r m.roads)
      → u < m.vertices → (word keys u ≡ FAR → ⊥) → Going m a labels keys
      → potential (relax_all rs labels) (wake_all rs labels (set keys u FAR)) < potential labels keys
  going_less {labels} {keys} u rs part is_vertex waits going =
      let least = relax_all_potential rs labels (set keys u FAR) (λ r h. rw going.labels_sized (to_limit r (part r h)))
      (λ r h. rw (length-set keys u FAR, going.keys_sized) (to_limit r (part r h))) in
      let taken = take_potential labels keys u (omega (arith, going.keys_sized, net.few)) waits in
      omega arith

  -- where none waits the labels are the distances
  pub going_end : {labels keys : List ℕ} → ((v : ℕ) → v < m.vertices → word keys v ≡ FAR) → Going m a labels keys
      → (v : ℕ) → v < most_vertices → word labels v ≡ dist m a v
  going_end {labels} none going v there-is =
      get_d_there labels v 0 FAR (omega (arith, going.labels_sized)) ∙ settled_dist m net a there settled v
    where
      settled : Settled m a labels
      settled =
          record {
            start = going.start;
            walked = going.walked;
            relaxed = λ r h. going.relaxed r h (none r.from (net.from r h));
          }
