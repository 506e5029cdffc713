-- The tests of the loops make the test `parts_fit`.
-- Assumes nothing.
use mathlib.Core.Path.{◌≡◌, refl, sym, ap, ap₂, ◌∙◌}
use mathlib.Core.Bool.{Bool, true, false, ◌&&◌, ◌||◌, cond}
use mathlib.Core.List.{List, []}
use Prim.Native.Nat.{ℕ, zero, suc, ◌<◌, ◌≤◌}
use native.Mathlib.Omega.{arith}
use lib.ListN.{length}
use lib.Dec.{leb, ltb, eqb, leb-zero, leb-suc-zero, leb-suc-suc}
use borrow.Author.Tests.{ltb-true, lt-ltb, eqb-true, ne_eqb}
use Rattle.words.specs.Limits.{most_parts, fewest_children, most_children, most_levels, most_in_leaf, NONE}
use Rattle.words.specs.Lists.{up_to, word, all, keep}
use Rattle.words.specs.Tests.{within}
use Rattle.words.proofs.Lists.{count_from_below, up_to_has, all_at, keep_same}
use Rattle.words.proofs.Tested.{all_both, all_counted}
use Rattle.roads.specs.Map.{Map}
use Rattle.parts.specs.Tree.{parent_of, leaf_of, climb, upward, level, children, is_leaf, vertices_of}
use Rattle.maps.specs.Rules.{root_fits, parent_fits, family_fits, level_fits, stands_in_leaf, parts_fit}
use Rattle.map_parts.specs.Part.{ShowsPartsOf, fallen, family, near, part_test, standing}
use Rattle.map_parts.specs.Tally.{tallied, Tallied}

fallen_lower : (parents : List ℕ) (p : ℕ) → fallen parents p ≡ true → eqb p 0 ≡ false → word parents p < p
unfolding fallen
fallen_lower parents p f e = ltb-true _ p (sym (ap (λ (root : Bool). root || ltb (word parents p) p) e) ∙ f)

-- a test of the loops that agrees with one of the rules below n
each_is : (test rule : ℕ → Bool) (n : ℕ) → ((i : ℕ) → i < n → test i ≡ rule i) → all test (up_to n) ≡ all rule (up_to n)
each_is test rule n same = all_counted test rule 0 n (λ i low h. let hi : i < n = omega arith in same i hi)

module _ (m : Map) (parents leaves : List ℕ) (vertices parts : ℕ) (shows : ShowsPartsOf m parents leaves vertices parts) where
  -- how many vertices stand in part p
  pub homes_are : (p : ℕ) → length (vertices_of m p) ≡ tallied leaves 0 vertices p
  unfolding vertices_of tallied
  homes_are p =
      ap (λ (n : ℕ). length (keep (λ v. eqb (leaf_of m v) p) (up_to n))) shows.vertex_count
      ∙ ap length (keep_same (λ v. eqb (leaf_of m v) p) (λ v. eqb (word leaves v) p) (up_to vertices)
      (λ v h. ap (λ (k : ℕ). eqb k p) (shows.leaf v (omega (arith, count_from_below 0 vertices v h)))))

  -- how many children it has: the root's parent is no part
  children_are : word parents 0 ≡ NONE → (p : ℕ) → p < most_parts → length (children m p) ≡ tallied parents 0 parts p
  unfolding children tallied
  children_are root p hp =
      ap (λ (n : ℕ). length (keep (λ c. ltb 0 c && eqb (parent_of m c) p) (up_to n))) shows.count
      ∙ ap length (keep_same (λ c. ltb 0 c && eqb (parent_of m c) p) (λ c. eqb (word parents c) p) (up_to parts)
      (λ c h. child c (omega (arith, count_from_below 0 parts c h))))
    where
      child : (c : ℕ) → c < parts → (ltb 0 c && eqb (parent_of m c) p) ≡ eqb (word parents c) p
      child zero h = sym (ne_eqb (word parents 0) p (λ same. absurd (omega (arith, root))))
      child (suc c) h = ap₂ (λ (real : Bool) (q : ℕ). real && eqb q p) (lt-ltb 0 (suc c) (omega arith)) (shows.parent (suc c) h)

  -- on the way up from p, if each parent has a lower number
  near_is : ((p : ℕ) → p < parts → fallen parents p ≡ true) → (k n p : ℕ) → p < n → p < parts → near parents k p ≡ leb (length (climb n m p)) k
  unfolding climb near
  near_is falls k zero p h hp = absurd (omega arith)
  near_is falls zero (suc n) p h hp = sym (leb-suc-zero (length (cond (eqb p 0) [] (climb n m (parent_of m p)))))
  near_is falls (suc k) (suc n) p h hp = by (eqb p 0) refl (near_is falls k n (parent_of m p)) ∙ sym (leb-suc-suc (length (cond (eqb p 0) [] (climb n m (parent_of m p)))) k)
    where
      by : (root : Bool) → eqb p 0 ≡ root → (parent_of m p < n → parent_of m p < parts → near parents k (parent_of m p) ≡ leb (length (climb n m (parent_of m p))) k)
          → (root || near parents k (word parents p)) ≡ leb (length (cond root [] (climb n m (parent_of m p)))) k
      by true e later = sym (leb-zero k)
      by false e later =
          let lower : word parents p < p = fallen_lower parents p (falls p hp) e in
          ap (near parents k) (sym (shows.parent p hp)) ∙ later (omega (arith, lower, shows.parent p hp)) (omega (arith, lower, shows.parent p hp))

  -- the test, where the outcomes of its parts are known
  parts_by : {root parent family near stand : Bool} → root ≡ root_fits m → parent ≡ all (parent_fits m) (up_to parts) → family ≡ all (family_fits m) (up_to parts)
      → near ≡ all (level_fits m) (up_to parts) → stand ≡ all (stands_in_leaf m) (up_to vertices) → (root && parent && family && near && stand) ≡ parts_fit m
  unfolding parts_fit
  parts_by p q r s t =
      (λ i. p i && q i && r i && s i && t i)
      ∙ sym (ap₂ (λ (n k : ℕ). root_fits m && all (parent_fits m) (up_to n) && all (family_fits m) (up_to n) && all (level_fits m) (up_to n) && all (stands_in_leaf m) (up_to k)) shows.count shows.vertex_count)

  root_is : 1 ≤ parts → {b : Bool} → eqb (word parents 0) NONE ≡ b → b ≡ root_fits m
  unfolding root_fits
  root_is some e = sym (ap (λ (p : ℕ). eqb p NONE) (shows.parent 0 some) ∙ e)

  -- each part's parent
  parents_are : all (fallen parents) (up_to parts) ≡ all (parent_fits m) (up_to parts)
  unfolding fallen parent_fits
  parents_are = each_is (fallen parents) (parent_fits m) parts (λ p h. ap (λ (q : ℕ). eqb p 0 || ltb q p) (sym (shows.parent p h)))

  pub no_root : 1 ≤ parts → eqb (word parents 0) NONE ≡ false → false ≡ parts_fit m
  no_root some e = parts_by (root_is some e) refl refl refl refl

  module _ (childCounts homeCounts : List ℕ) (counted : Tallied parents parts childCounts) (housed : Tallied leaves vertices homeCounts) (few : parts ≤ most_parts) where
    pub parts_fit_is : {tree stand : Bool} → 1 ≤ parts → eqb (word parents 0) NONE ≡ true → tree ≡ all (part_test parents childCounts homeCounts) (up_to parts)
        → stand ≡ all (standing leaves childCounts parts) (up_to vertices)
        → (tree && stand) ≡ parts_fit m
    unfolding part_test family family_fits is_leaf level_fits level upward standing stands_in_leaf
    parts_fit_is {stand = stand} some root isTree isStand =
        ap (λ (b : Bool). b && stand) (isTree ∙ sym apart ∙ high (all (fallen parents) (up_to parts)) refl)
        ∙ parts_by (root_is some root) parents_are (all_counted fit (family_fits m) 0 parts (λ p low h. family_is p (omega arith))) refl
        (isStand ∙ each_is (standing leaves childCounts parts) (stands_in_leaf m) vertices stands_is)
      where
        fit : ℕ → Bool
        fit p = family (word childCounts p) (word homeCounts p)

        -- the three tests of each part are a test of each part three times
        apart : (all (fallen parents) (up_to parts) && all fit (up_to parts) && all (near parents most_levels) (up_to parts)) ≡ all (part_test parents childCounts homeCounts) (up_to parts)
        apart = ap (λ (b : Bool). b && all (near parents most_levels) (up_to parts)) (all_both (fallen parents) fit (up_to parts)) ∙ all_both (λ p. fallen parents p && fit p) (near parents most_levels) (up_to parts)

        -- the level is looked at where each parent has a lower number
        high : (fall : Bool) → all (fallen parents) (up_to parts) ≡ fall
            → (fall && all fit (up_to parts) && all (near parents most_levels) (up_to parts)) ≡ (fall && all fit (up_to parts) && all (level_fits m) (up_to parts))
        high false e = refl
        high true e =
            ap (λ (b : Bool). all fit (up_to parts) && b)
            (all_counted (near parents most_levels) (level_fits m) 0 parts (λ p low h. near_is (λ q hq. all_at (fallen parents) (up_to parts) e q (up_to_has parts q hq)) most_levels (suc p) p (omega arith) (omega arith)))

        childs : (p : ℕ) → p < parts → word childCounts p ≡ length (children m p)
        childs p h = counted.each p (omega arith) ∙ sym (children_are (eqb-true (word parents 0) NONE root) p (omega arith))

        family_is : (p : ℕ) → p < parts → fit p ≡ family_fits m p
        family_is p h =
            ap₂ (λ (c v : ℕ). cond (eqb c 0) (within 1 most_in_leaf v) (within fewest_children most_children c)) (childs p h) (housed.each p (omega arith) ∙ sym (homes_are p))

        stands_is : (v : ℕ) → v < vertices → standing leaves childCounts parts v ≡ stands_in_leaf m v
        stands_is v h =
            by (ltb (word leaves v) parts) refl
            ∙ sym (ap₂ (λ (leaf n : ℕ). ltb leaf n && eqb (length (children m leaf)) 0) (shows.leaf v h) shows.count)
          where
            by : (real : Bool) → ltb (word leaves v) parts ≡ real
                → (real && eqb (word childCounts (word leaves v)) 0) ≡ (real && eqb (length (children m (word leaves v))) 0)
            by true e = ap (λ (n : ℕ). eqb n 0) (childs (word leaves v) (ltb-true _ parts e))
            by false e = refl
