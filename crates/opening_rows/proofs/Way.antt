-- The way up from a vertex's leaf, by the lift: which part is next, and where the vertex's rows end.
-- Assumes nothing.
use Rattle.std.proofs.Common.{◌≡◌, ℕ, ◌<◌, ◌≤◌, Bool, true, false, cond, ◌&&◌, eqb, ltb, ◌≢◌, List, [], ◌∷◌, sym, refl, ap, ◌∙◌, arith, ltb-true, lt-ltb, eq-eqb, eqb-true}
use mathlib.Core.Path.{subst⁻¹}
use mathlib.Core.List.{Memᴰ}
use Rattle.words.specs.Limits.{most_parts}
use Rattle.words.specs.Lists.{any, keep, first_or}
use Rattle.words.proofs.Tests.{both_true, both_pass}
use Rattle.words.proofs.Lists.{any_by, any_says, keep_says}
use Rattle.layout.specs.Layout.{child_in_row}
use Rattle.roads.specs.Map.{Map, part_count}
use Rattle.parts.specs.Tree.{parent_of, leaf_of, holds, children, child_of, is_leaf}
use Rattle.parts.specs.Border.{boundary}
use Rattle.parts.proofs.Tree.{none_between, holds_above, holds_least, holds_parent}
use Rattle.parts.proofs.Way.{in_own_leaf}
use Rattle.parts.proofs.Down.{Tree, boundary_inside, children_says, children_has, child_inner, child_held, holding_part, child_found}
use Rattle.roads.proofs.Trail.{Net}
use Rattle.image.specs.Places.{itself_at, row_at}
use Rattle.image.specs.Image.{part_below, row_below}
use Rattle.opening_rows.specs.Rows.{has_row}

-- the part further down is a part
pub below_small : (m : Map) (p v : ℕ) → part_count m ≤ most_parts → Tree m → part_below m p v < child_in_row
unfolding part_below child_of
below_small m p v few tree = by (is_leaf m p) (keep (λ c. holds m c v) (children m p)) refl
  where
    from : (cs : List ℕ) → keep (λ c. holds m c v) (children m p) ≡ cs → first_or 0 cs < child_in_row
    from [] e = omega arith
    from (c ∷ cs) e =
        let kept = keep_says (λ k. holds m k v) (children m p) c (subst⁻¹ (λ (l : List ℕ). Memᴰ c l) e (Memᴰ.head refl)) in
        omega (arith, (children_says m p c kept.0).0)

    by : (leaf : Bool) (cs : List ℕ) → keep (λ c. holds m c v) (children m p) ≡ cs → cond leaf 0 (first_or 0 cs) < child_in_row
    by true cs e = omega arith
    by false cs e = from cs e

module _ (m : Map) (net : Net m) (tree : Tree m) (v : ℕ) (hv : v < m.vertices) where
  leaf_in : leaf_of m v < part_count m
  leaf_in = tree.leaf_part v hv

  pub row_in_leaf : has_row m (leaf_of m v) v ≡ true
  unfolding has_row
  row_in_leaf = ap (λ (b : Bool). cond b (eqb (leaf_of m v) (leaf_of m v)) (any (λ c. boundary m c v) (children m (leaf_of m v)))) (tree.leaf_leaf v hv) ∙ eq-eqb (leaf_of m v) (leaf_of m v) refl

  pub leaf_below : (part_below m (leaf_of m v) v ≡ 0) × (row_below m (leaf_of m v) v ≡ itself_at m v)
  unfolding part_below row_below
  leaf_below = (
    ap (λ (b : Bool). cond b 0 (child_of m (leaf_of m v) v)) (tree.leaf_leaf v hv),
    ap (λ (b : Bool). cond b (itself_at m v) (row_at m (child_of m (leaf_of m v) v) v)) (tree.leaf_leaf v hv),
  )

  -- a part with a row is the leaf, or has a child of which v is boundary
  data RowAt (q : ℕ) : Type 0 where
    own : q ≡ leaf_of m v → RowAt q
    edge : (c : ℕ) → Memᴰ c (children m q) → boundary m c v ≡ true → RowAt q

  row_at_lem : (q : ℕ) → has_row m q v ≡ true → RowAt q
  unfolding has_row
  row_at_lem q e = by (is_leaf m q) e
    where
      by : (leaf : Bool) → cond leaf (eqb (leaf_of m v) q) (any (λ c. boundary m c v) (children m q)) ≡ true → RowAt q
      by true e = own (sym (eqb-true (leaf_of m v) q e))
      by false e = let found = any_says (λ c. boundary m c v) (children m q) e in edge found.0 found.1 found.2

  -- it holds the vertex
  pub row_holds : (q : ℕ) → has_row m q v ≡ true → holds m q v ≡ true
  row_holds q e = by (row_at_lem q e)
    where
      by : RowAt q → holds m q v ≡ true
      by (own same) = subst⁻¹ (λ (k : ℕ). holds m k v ≡ true) same (in_own_leaf m v hv)
      by (edge c hc b) =
          child_held m net tree q c v hc (boundary_inside m c v b)

  -- a part that holds v and has a lower number than another that does is at most the other's parent
  pub no_later : (p q : ℕ) → holds m p v ≡ true → holds m q v ≡ true → q < p → q ≤ parent_of m p
  no_later p q hp hq less =
      none_between m tree.falls q p (leaf_of m v) leaf_in (holds_above m tree.falls v leaf_in q hq) (holds_above m tree.falls v leaf_in p hp) less

  pub row_part : (q : ℕ) → has_row m q v ≡ true → q ≤ leaf_of m v
  row_part q e = holds_least m tree.falls v leaf_in q (row_holds q e)

  module _ (lift : ℕ) (lifted : (c : ℕ) → c < part_count m → boundary m c v ≡ (holds m c v && ltb lift c)) (p : ℕ) (here-p : holds m p v ≡ true) where
    p_in : p < part_count m
    p_in = holding_part m tree p v here-p

    -- above the lift v has a row in the parent, and comes to it from p
    module _ (higher : lift < p) where
      real : p ≢ 0
      real none = omega (arith, higher)

      child : Memᴰ p (children m (parent_of m p))
      child = children_has m (parent_of m p) p p_in refl real

      edge_p : boundary m p v ≡ true
      edge_p = lifted p p_in ∙ both_pass (holds m p v) (ltb lift p) here-p (lt-ltb lift p higher)

      not_leaf : is_leaf m (parent_of m p) ≡ false
      not_leaf = child_inner m (parent_of m p) p child

      pub parent_lower : parent_of m p < p
      parent_lower = tree.falls p (omega (arith, higher)) p_in

      pub parent_row : has_row m (parent_of m p) v ≡ true
      unfolding has_row
      parent_row =
          ap (λ (b : Bool). cond b (eqb (leaf_of m v) (parent_of m p)) (any (λ c. boundary m c v) (children m (parent_of m p)))) not_leaf
          ∙ any_by (λ c. boundary m c v) (children m (parent_of m p)) p child edge_p

      pub parent_holds : holds m (parent_of m p) v ≡ true
      parent_holds = holds_parent m tree.falls v leaf_in p real here-p

      pub parent_below : (part_below m (parent_of m p) v ≡ p) × (row_below m (parent_of m p) v ≡ row_at m p v)
      unfolding part_below row_below
      parent_below =
          let found : child_of m (parent_of m p) v ≡ p = child_found m net tree (parent_of m p) p v hv child here-p in (
            ap (λ (b : Bool). cond b 0 (child_of m (parent_of m p) v)) not_leaf ∙ found,
            ap (λ (b : Bool). cond b (itself_at m v) (row_at m (child_of m (parent_of m p) v) v)) not_leaf ∙ ap (λ (c : ℕ). row_at m c v) found,
          )

    -- from the lift on v has no row in a part further up
    pub no_more : p ≤ lift → (q : ℕ) → q < p → has_row m q v ≡ true → ⊥
    no_more low q less e = by (row_at_lem q e)
      where
        by : RowAt q → ⊥
        by (own same) = omega (arith, holds_least m tree.falls v leaf_in p here-p, same)
        by (edge c hc b) =
            let child = children_says m q c hc in
            let split = both_true (holds m c v) (ltb lift c) (sym (lifted c child.0) ∙ b) in
            let above = ltb-true lift c split.1 in
            omega (arith, above, no_later c p split.0 here-p (omega (arith, above)), child.1)
