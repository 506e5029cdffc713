-- The rows that are asked for get their distances: those of a part that waited, below which something is shown; those of a leaf that waited, which show their own vertex; and all.
-- Assumes nothing.
use mathlib.Core.Path.{◌≡◌, refl, ap, subst, ◌∙◌}
use mathlib.Core.Logic.{◌⊎◌, inl, inr}
use mathlib.Core.Bool.{Bool, true, false}
use mathlib.Core.List.{List, Memᴰ}
use Prim.Native.Nat.{ℕ, ◌≤◌, ◌<◌}
use native.Mathlib.Omega.{arith}
use lib.Dec.{leb}
use borrow.Author.Tests.{le-leb, lt-ltb, ltb-true, eq-eqb}
use Rattle.words.specs.Limits.{FAR}
use Rattle.words.specs.Lists.{word}
use Rattle.words.proofs.Tests.{both_true, both_pass, left_true, right_true}
use Rattle.roads.specs.Map.{Map, part_count}
use Rattle.roads.specs.Dist.{dist}
use Rattle.parts.specs.Tree.{holds, is_leaf}
use Rattle.parts.specs.Border.{boundary}
use Rattle.parts.specs.Size.{row_vertices, size_of}
use Rattle.rows.specs.Row.{row_of, Arrives}
use Rattle.fleet.specs.State.{State, active}
use Rattle.image.specs.Records.{row_vertex}
use Rattle.layout.specs.Layout.{rows_in_part, part_word}
use Rattle.part_words.specs.Part.{rows_in}
use Rattle.row_lists.specs.Rows.{below_at, near_at, shows_own, is_asked, AskedRow, OwnRow}
use Rattle.row_distances.specs.Distances.{Relaxed}
use Rattle.van_offers.specs.Genuine.{Genuine}
use Rattle.question.specs.Kept.{LeafRelaxed}
use Rattle.question.proofs.Shown.{rows_read, place_read, shown_arrives, own_arrives, own_shown}
use Rattle.question.proofs.Exact.{exact_out, known_out}

-- something is shown below the rows of r
abbrev pub ShownBelow : Map → List ℕ → ℕ → ℕ → Type 0
ShownBelow m mem p r = (i : ℕ) → i < size_of m p → row_vertex m p i ≡ r → below_at mem (part_word mem p rows_in_part) i < FAR

pub asked_is_row : {all : Bool} {mem : List ℕ} {first size : ℕ} {dx : List ℕ} (i : ℕ) → AskedRow all mem first size dx i → i < size
asked_is_row i row = row.is_row

pub own_is_row : {mem : List ℕ} {first size : ℕ} (i : ℕ) → OwnRow mem first size i → i < size
own_is_row i row = row.is_row

asked_shows : {mem : List ℕ} {first size : ℕ} {dx : List ℕ} (i : ℕ) → AskedRow false mem first size dx i → below_at mem first i < FAR
unfolding is_asked
asked_shows {mem} {first} {size} {dx} i row = ltb-true (below_at mem first i) FAR (both_true (leb FAR (near_at mem first dx i)) _ row.is_asked_lem).1

module _ {m : Map} {s : State} {mem : List ℕ} (g : Genuine m s mem) (p : ℕ) (hp : p < part_count m) where
  asked_if : {all : Bool} {dx : List ℕ} (i : ℕ) → i < size_of m p → FAR ≤ near_at mem (part_word mem p rows_in_part) dx i → (all ≡ true) ⊎ (below_at mem (part_word mem p rows_in_part) i < FAR)
      → AskedRow all mem (part_word mem p rows_in_part) (rows_in mem p) dx i
  unfolding is_asked
  asked_if {all} i hi none (inl every) = record { is_row = omega (arith, hi, rows_read g p hp); is_asked_lem = both_pass _ _ (le-leb FAR _ none) (left_true all _ every) }
  asked_if {all} i hi none (inr shown) = record { is_row = omega (arith, hi, rows_read g p hp); is_asked_lem = both_pass _ _ (le-leb FAR _ none) (right_true all _ (lt-ltb _ FAR shown)) }

  -- where all are asked for
  pub asked_every : {dx : List ℕ} (i : ℕ) → i < size_of m p → FAR ≤ near_at mem (part_word mem p rows_in_part) dx i → AskedRow true mem (part_word mem p rows_in_part) (rows_in mem p) dx i
  asked_every i hi none = asked_if i hi none (inl refl)

  module _ {dx dx' : List ℕ} (x : ℕ) (hx : x < m.vertices) (known : (v : ℕ) → v < m.vertices → word dx v < FAR → word dx v ≤ dist m v x) (outside : holds m p x ≡ false)
      (gates : (b : ℕ) → boundary m p b ≡ true → (row_of m (active m s) p b).distance < FAR → word dx b ≤ dist m b x) where
    -- A part with children.
    module _ (inner : is_leaf m p ≡ false) (relaxed : Relaxed mem p false dx dx') where
      pub part_exact : (r : ℕ) → Memᴰ r (row_vertices m p) → ShownBelow m mem p r → word dx' r ≤ dist m r x
      part_exact r hr shown =
          let (i, hi, same) = place_read g p hp r hr in
          exact_out g p hp relaxed asked_is_row x hx known outside gates r hr (λ j hj is none. asked_if j hj none (inr (shown j hj is)))
          (subst (λ (v : ℕ). (u : ℕ) × Arrives m (active m s) p v u) same (shown_arrives g p hp inner i hi (shown i hi same)))

      pub part_known : (v : ℕ) → v < m.vertices → word dx' v < FAR → word dx' v ≤ dist m v x
      part_known = known_out g p hp relaxed asked_is_row x hx known outside gates
          (λ i row. shown_arrives g p hp inner i (omega (arith, asked_is_row i row, rows_read g p hp)) (asked_shows i row))

    -- A leaf.
    module _ (relaxed : LeafRelaxed mem p dx dx') where
      pub leaf_exact : (r : ℕ) → Memᴰ r (row_vertices m p) → active m s r ≡ true → word dx' r ≤ dist m r x
      unfolding shows_own
      leaf_exact r hr act =
          let (i, hi, same) = place_read g p hp r hr in
          let own : (j : ℕ) → j < size_of m p → row_vertex m p j ≡ r → shows_own mem (part_word mem p rows_in_part) j ≡ true =
          λ j hj is. eq-eqb _ 0 (own_shown g p hp j hj (ap (active m s) is ∙ act)) in
          exact_out g p hp relaxed own_is_row x hx known outside gates r hr
          (λ j hj is none. record { is_row = omega (arith, hj, rows_read g p hp); is_own = own j hj is })
          (subst (λ (v : ℕ). (u : ℕ) × Arrives m (active m s) p v u) same (own_arrives g p hp i hi (own i hi same)))

      pub leaf_known : (v : ℕ) → v < m.vertices → word dx' v < FAR → word dx' v ≤ dist m v x
      leaf_known = known_out g p hp relaxed own_is_row x hx known outside gates
          (λ i row. own_arrives g p hp i (omega (arith, own_is_row i row, rows_read g p hp)) row.is_own)
