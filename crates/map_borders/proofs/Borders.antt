-- The lifts tell the boundaries, the counts are the sizes of the parts, and so the test is `borders_fit`.
-- Assumes nothing.
use mathlib.Core.Path.{◌≡◌, refl, sym, ap, ap₂, subst, ◌∙◌}
use mathlib.Core.Logic.{inl, inr}
use mathlib.Core.Bool.{Bool, true, false, ◌&&◌, ◌||◌, not, cond, true≢false}
use mathlib.Core.List.{List, [], ◌∷◌, map, Memᴰ}
use Prim.Native.Nat.{ℕ, ◌+◌, ◌*◌, ◌<◌}
use native.Mathlib.Decide.{dec_lt}
use native.Mathlib.Omega.{arith}
use lib.ListN.{length}
use lib.Dec.{leb, ltb, eqb}
use borrow.Author.Tests.{eqb-true, ltb-true, lt-ltb, le-ltb, le-leb}
use Rattle.words.specs.Limits.{most_parts, most_borders, NONE}
use Rattle.words.specs.Lists.{up_to, word, sum, any, all, keep}
use Rattle.words.proofs.Tests.{both_true, both_pass}
use Rattle.words.proofs.Lists.{count_from_below, any_by, any_says}
use Rattle.words.proofs.Tested.{any_map, any_counted, all_counted, keep_sum}
use Rattle.roads.specs.Map.{Map, part_count}
use Rattle.parts.specs.Tree.{parent_of, leaf_of, holds, children, is_leaf, vertices_of}
use Rattle.parts.specs.Border.{leaves_at, enters_at, boundary, borders}
use Rattle.parts.specs.Size.{row_vertices, size_of}
use Rattle.parts.proofs.Tree.{Above, Falls, above_least, in_part_if, holds_if, holds_above}
use Rattle.parts.proofs.Down.{children_says, children_has, leaf_childless}
use Rattle.maps.specs.Bytes.{field, road_shown, roads_of}
use Rattle.maps.specs.Rules.{borders_fit}
use Rattle.map_parts.specs.Tally.{Tallied}
use Rattle.map_parts.proofs.Fits.{homes_are}
use Rattle.map_borders.specs.Lift.{most_steps, meet, road_meet, outside, Lifted}
use Rattle.map_borders.specs.Mark.{steps, BordersCounted, few_at}
use Rattle.map_borders.specs.Sizes.{Given, Lifts, Sizes}
use Rattle.map_borders.proofs.Meet.{Common, common_swap, common_is}
use Rattle.map_borders.proofs.Steps.{Once, steps_once}
use Rattle.map_borders.proofs.Earlier.{Told}

-- a test that no entry passes keeps none
none_kept : (test : ℕ → Bool) (xs : List ℕ) → ((x : ℕ) → Memᴰ x xs → test x ≡ false) → length (keep test xs) ≡ 0
none_kept test [] none = refl
none_kept test (x ∷ xs) none = rw (none x (Memᴰ.head refl)) (none_kept test xs (λ y h. none y (Memᴰ.tail h)))

or_nothing : (a b : Bool) → (a || (b && false)) ≡ a
or_nothing true b = refl
or_nothing false true = refl
or_nothing false false = refl

module _ {m : Map} {parents leaves body : List ℕ} {vertices roads parts : ℕ} (given : Given m parents leaves body vertices roads parts) (known : Told m body vertices roads) where
  same : (p : ℕ) → p < part_count m → parent_of m p ≡ word parents p
  same p h = given.shows.parent p (omega (arith, given.shows.count))

  falls : Falls m
  falls = known.tree.falls

  leaf_part : (v : ℕ) → v < vertices → leaf_of m v < part_count m
  leaf_part v h = known.tree.leaf_part v (omega (arith, given.shows.vertex_count))

  above : (c v : ℕ) → v < vertices → holds m c v ≡ true → Above m c (leaf_of m v)
  above c v h e = holds_above m falls v (leaf_part v h) c e

  inside : (c v : ℕ) → v < vertices → Above m c (leaf_of m v) → holds m c v ≡ true
  inside c v h a = holds_if m c v (omega (arith, given.shows.vertex_count)) (in_part_if m falls c (leaf_of m v) (leaf_part v h) a)

  -- of a road from a part out of it: the other end is not in it
  not_holds : (c a b x : ℕ) → a < vertices → b < vertices → Common m (leaf_of m a) (leaf_of m b) x → holds m c a ≡ true → not (holds m c b) ≡ ltb x c
  not_holds c a b x ha hb s in-a = by (holds m c b) refl (dec_lt x c)
    where
      by : (t : Bool) → holds m c b ≡ t → Dec (x < c) → not t ≡ ltb x c
      by true e d = sym (le-ltb x c (s.both c (above c a ha in-a) (above c b hb e)))
      by false e (yes less) = sym (lt-ltb x c less)
      by false e (no not-less) =
          absurd (true≢false (sym (inside c b hb (s.one c (omega (arith, not-less)) (inl (above c a ha in-a))).1) ∙ e))

  common_ends : (i : ℕ) → i < roads → Common m (leaf_of m (field body (8 * i) 2)) (leaf_of m (field body (8 * i + 2) 2)) (road_meet parents leaves body i)
  unfolding road_meet
  common_ends i h =
      let from = (known.ends i h).0 in
      let to = (known.ends i h).1 in
      let first = leaf_part _ from in
      let second = leaf_part _ to in
      subst (λ (x : ℕ). Common m (leaf_of m (field body (8 * i) 2)) (leaf_of m (field body (8 * i + 2) 2)) x)
      (ap₂ (λ (a b : ℕ). meet parents most_steps a b) (given.shows.leaf _ from) (given.shows.leaf _ to))
      (common_is m falls parents same most_steps _ _ (omega (arith, given.shows.count, given.few_parts)) first second)

  road_outside : (v c i : ℕ) → i < roads → holds m c v ≡ true → (leaves_at m c v (road_shown body i) || enters_at m c v (road_shown body i)) ≡ outside parents leaves body v c i
  unfolding leaves_at enters_at road_shown outside
  road_outside v c i h in-v = by (eqb from v) refl (eqb to v) refl
    where
      from : ℕ
      from = field body (8 * i) 2

      to : ℕ
      to = field body (8 * i + 2) 2

      by : (f : Bool) → eqb from v ≡ f → (t : Bool) → eqb to v ≡ t
          → ((f && not (holds m c to)) || (t && not (holds m c from))) ≡ ((f || t) && ltb (road_meet parents leaves body i) c)
      by true ef t et =
          let in-from = subst (λ (w : ℕ). holds m c w ≡ true) (sym (eqb-true from v ef)) in-v in
          ap (λ (b : Bool). not (holds m c to) || (t && not b)) in-from
          ∙ or_nothing (not (holds m c to)) t
          ∙ not_holds c from to _ (known.ends i h).0 (known.ends i h).1 (common_ends i h) in-from
      by false ef true et =
          let in-to = subst (λ (w : ℕ). holds m c w ≡ true) (sym (eqb-true to v et)) in-v in
          not_holds c to from _ (known.ends i h).1 (known.ends i h).0 (common_swap m falls (common_ends i h)) in-to
      by false ef false et = refl

  -- v is a border of p
  border : ℕ → ℕ → Bool
  border p v = any (λ c. boundary m c v) (children m p)

  -- a leaf has no borders
  leaf_none : (p : ℕ) → is_leaf m p ≡ true → length (borders m p) ≡ 0
  unfolding borders border
  leaf_none p leaf = none_kept (border p) (up_to m.vertices) (λ v h. by v (border p v) refl)
    where
      by : (v : ℕ) (b : Bool) → border p v ≡ b → b ≡ false
      by v true e = let found = any_says (λ c. boundary m c v) (children m p) e in absurd (leaf_childless m p found.0 leaf found.1)
      by v false e = refl

  -- no vertex stands in another part
  inner_none : (p : ℕ) → is_leaf m p ≡ false → length (vertices_of m p) ≡ 0
  unfolding vertices_of
  inner_none p inner = none_kept (λ v. eqb (leaf_of m v) p) (up_to m.vertices) (λ v h. by v (omega (arith, count_from_below 0 m.vertices v h)) (eqb (leaf_of m v) p) refl)
    where
      by : (v : ℕ) → v < m.vertices → (b : Bool) → eqb (leaf_of m v) p ≡ b → b ≡ false
      by v h true e = absurd (true≢false (sym (known.tree.leaf_leaf v h) ∙ ap (is_leaf m) (eqb-true _ p e) ∙ inner))
      by v h false e = refl

  module _ (lifts : List ℕ) (lifted : Lifted parents leaves body roads lifts) where
    pub lifts_are : Lifts m lifts
    unfolding boundary roads_of
    lifts_are = record { room = lifted.room; boundary = λ v c hv hc. by v c hv hc (holds m c v) refl }
      where
        by : (v c : ℕ) → v < m.vertices → c < NONE → (t : Bool) → holds m c v ≡ t → (t && any (λ r. leaves_at m c v r || enters_at m c v r) m.roads) ≡ (t && ltb (word lifts v) c)
        by v c hv hc true e =
            ap (any (λ r. leaves_at m c v r || enters_at m c v r)) given.road_list
            ∙ any_map (λ r. leaves_at m c v r || enters_at m c v r) (road_shown body) (up_to roads)
            ∙ any_counted (λ i. leaves_at m c v (road_shown body i) || enters_at m c v (road_shown body i)) (outside parents leaves body v c) 0 roads
            (λ i low h. let hi : i < roads = omega arith in road_outside v c i hi e)
            ∙ sym (lifted.each v c (omega (arith, given.few_vertices, given.shows.vertex_count)) hc)
        by v c hv hc false e = refl

  module _ (lifts : List ℕ) (is : Lifts m lifts) where
    border_is : (p v : ℕ) → v < vertices → cond (border p v) 1 0 ≡ steps parents most_parts (word lifts v) (word leaves v) p
    unfolding border
    border_is p v hv =
        by (border p v) refl (steps_once m falls parents same (word lifts v) p most_parts (leaf_of m v) (omega (arith, in_range_lem, given.shows.count, given.few_parts)) in_range_lem)
        ∙ ap (λ (leaf : ℕ). steps parents most_parts (word lifts v) leaf p) (given.shows.leaf v hv)
      where
        in_range_lem : leaf_of m v < part_count m
        in_range_lem = leaf_part v hv

        real : v < m.vertices
        real = omega (arith, given.shows.vertex_count)

        split : (c : ℕ) → c < part_count m → boundary m c v ≡ (holds m c v && ltb (word lifts v) c)
        split c h = is.boundary v c real (omega (arith, given.shows.count, given.few_parts))

        by : (b : Bool) → border p v ≡ b → {n : ℕ} → Once m (word lifts v) p (leaf_of m v) n → cond b 1 0 ≡ n
        by true e (inl none) =
            let found = any_says (λ c. boundary m c v) (children m p) e in
            let child = children_says m p found.0 found.1 in
            let both = both_true (holds m found.0 v) (ltb (word lifts v) found.0) (sym (split found.0 child.0) ∙ found.2) in
            absurd (none.1 found.0 (record { above = above found.0 v hv both.0; high = ltb-true _ _ both.1; parent = child.1 }))
        by true e (inr some) = sym some.0
        by false e (inl none) = sym none.0
        by false e (inr some) =
            let d = some.1.0 in
            let s = some.1.1 in
            let low = above_least m falls (leaf_of m v) in_range_lem s.above in
            let hd : d < part_count m = omega (arith, in_range_lem) in
            let child = children_has m p d hd s.parent (λ zero'. omega (arith, s.high, zero')) in
            let yes = split d hd ∙ both_pass (holds m d v) (ltb (word lifts v) d) (inside d v hv s.above) (lt-ltb _ d s.high) in
            absurd (true≢false (sym (any_by (λ c. boundary m c v) (children m p) d child yes) ∙ e))

    borders_counted : (p : ℕ) → length (borders m p) ≡ sum (map (λ v. steps parents most_parts (word lifts v) (word leaves v) p) (up_to vertices))
    unfolding borders border
    borders_counted p =
        ap (λ (n : ℕ). length (keep (border p) (up_to n))) given.shows.vertex_count
        ∙ keep_sum (border p) (λ v. steps parents most_parts (word lifts v) (word leaves v) p) 0 vertices (λ v low hv. let small : v < vertices = omega arith in border_is p v small)

    module _ (homes sizes : List ℕ) (housed : Tallied leaves vertices homes) (counted : BordersCounted parents leaves lifts vertices homes sizes) where
      both_are : (p : ℕ) → p < parts → word sizes p ≡ length (vertices_of m p) + length (borders m p)
      both_are p h =
          counted.each p (omega (arith, given.few_parts))
          ∙ ap₂ ◌+◌ (housed.each p (omega (arith, given.few_parts)) ∙ sym (homes_are m parents leaves vertices parts given.shows p)) (sym (borders_counted p))

      pub sizes_are : Sizes m sizes
      unfolding size_of row_vertices
      sizes_are = record { room = counted.room; size = λ p h. both_are p (omega (arith, given.shows.count)) ∙ by p (is_leaf m p) refl }
        where
          by : (p : ℕ) (leaf : Bool) → is_leaf m p ≡ leaf → length (vertices_of m p) + length (borders m p) ≡ length (cond leaf (vertices_of m p) (borders m p))
          by p true e = omega (arith, leaf_none p e)
          by p false e = omega (arith, inner_none p e)

  -- a leaf has at most 32 vertices, so only borders can be too many
  module _ (sizes : List ℕ) (sized : Sizes m sizes) where
    pub borders_fit_is : all (few_at sizes) (up_to parts) ≡ borders_fit m
    unfolding borders_fit few_at size_of row_vertices
    borders_fit_is =
        all_counted (few_at sizes) (λ p. leb (length (borders m p)) most_borders) 0 parts
        (λ p low h. let hp : p < part_count m = omega (arith, given.shows.count) in ap (λ (n : ℕ). leb n most_borders) (sized.size p hp) ∙ by p hp (is_leaf m p) refl)
        ∙ ap (λ (n : ℕ). all (λ p. leb (length (borders m p)) most_borders) (up_to n)) (sym given.shows.count)
      where
        by : (p : ℕ) → p < part_count m → (leaf : Bool) → is_leaf m p ≡ leaf → leb (length (cond leaf (vertices_of m p) (borders m p))) most_borders ≡ leb (length (borders m p)) most_borders
        by p h true e =
            le-leb (length (vertices_of m p)) most_borders (omega (arith, known.small p h e))
            ∙ sym (le-leb (length (borders m p)) most_borders (omega (arith, leaf_none p e)))
        by p h false e = refl
