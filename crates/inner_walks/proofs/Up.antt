-- From the children of a part up to the part. A table over the part's row vertices that lets no vertex, no road, no walk inside a child and no way
-- round by a row vertex be lighter lets no walk inside the part be lighter.
-- Assumes nothing.
use mathlib.Core.Path.{◌≡◌, sym, ◌∙◌, subst}
use mathlib.Core.Logic.{⊎_elim}
use mathlib.Core.Bool.{true, false, true≢false}
use mathlib.Core.List.{Memᴰ}
use Prim.Native.Nat.{ℕ, ◌+◌, ◌≤◌}
use native.Mathlib.Omega.{arith}
use Rattle.words.proofs.Tests.{true_or_false}
use Rattle.roads.specs.Map.{Road, Map}
use Rattle.roads.specs.Walk.{rest, along}
use Rattle.roads.proofs.Trail.{Net}
use Rattle.roads.proofs.Inner.{inner_start, inner_end, inner_joined, inner_road}
use Rattle.parts.specs.Tree.{holds, children, is_leaf}
use Rattle.parts.specs.Size.{row_vertices}
use Rattle.parts.proofs.Tree.{holds_says}
use Rattle.parts.proofs.Cross.{enters_boundary, leaves_boundary}
use Rattle.parts.proofs.Down.{Tree, leaf_childless, vertices_has, leaf_of_held, child_holding, children_apart}
use Rattle.parts.proofs.Gates.{rows_leaf, boundary_above}
use Rattle.inner_walks.specs.Inner.{Inner}

-- what a table over the row vertices of p has to keep
pub record ClosedTable (m : Map) (p : ℕ) (T : ℕ → ℕ → ℕ) : Type 0 where
  pub at_home : (a : ℕ) → Memᴰ a (row_vertices m p) → T a a ≤ 0
  pub road : (r : Road) → Memᴰ r m.roads → Memᴰ r.from (row_vertices m p) → Memᴰ r.to (row_vertices m p) → T r.from r.to ≤ r.weight
  pub child : (c a b w : ℕ) → Memᴰ c (children m p) → Memᴰ a (row_vertices m p) → Memᴰ b (row_vertices m p) → Inner m c a b w → T a b ≤ w
  -- by the ends of a road between two row vertices that no child holds both of
  pub tried : (r : Road) → Memᴰ r m.roads → Memᴰ r.from (row_vertices m p) → Memᴰ r.to (row_vertices m p)
      → ((c : ℕ) → Memᴰ c (children m p) → holds m c r.from ≡ true → holds m c r.to ≡ true → ⊥)
      → (a b : ℕ) → Memᴰ a (row_vertices m p) → Memᴰ b (row_vertices m p)
      → (T a b ≤ T a r.from + T r.from b) × (T a b ≤ T a r.to + T r.to b)

module _ (m : Map) (net : Net m) (tree : Tree m) where
  leaf_row : (p v : ℕ) → is_leaf m p ≡ true → holds m p v ≡ true → Memᴰ v (row_vertices m p)
  leaf_row p v e h = rw (rows_leaf m p e) (vertices_has m p v (holds_says m p v h).0 (leaf_of_held m net tree p v e h))

  module _ (p : ℕ) (T : ℕ → ℕ → ℕ) (C : ClosedTable m p T) where
    -- in a leaf every vertex has a row
    leaf_least : is_leaf m p ≡ true → {a b w : ℕ} → Inner m p a b w → T a b ≤ w
    leaf_least e (rest {a} h) = C.at_home a (leaf_row p a e h)
    leaf_least e (along {a} {b} {c} {w} road h later) =
        let ha = leaf_row p a e h in
        let hb = leaf_row p b e (inner_start later) in
        let hc = leaf_row p c e (inner_end later) in
        omega (
          arith,
          (C.tried (record { from = a; to = b; weight = w }) road ha hb (λ d hd _ _. leaf_childless m p d e hd) a c ha hc).1,
          C.road (record { from = a; to = b; weight = w }) road ha hb,
          leaf_least e later,
        )

    -- in another part: a walk begun inside child c from the row vertex a is cut where it goes from one child to another
    part_least : is_leaf m p ≡ false → {c a v b u w : ℕ} → Memᴰ c (children m p) → Memᴰ a (row_vertices m p) → Memᴰ b (row_vertices m p)
        → Inner m c a v u → Inner m p v b w → T a b ≤ u + w
    part_least e {c} {a} {b} {u} hc ha hb begun (rest h) = omega (arith, C.child c a b u hc ha hb begun)
    part_least e {c} {a} {u} hc ha hb begun (along {a = v} {b = t} {c = b} {w} {later = w'} road h later) =
        ⊎_elim
        (λ inside. omega (arith, part_least e hc ha hb (inner_joined begun (inner_road road (inner_end begun) inside)) later))
        (λ outside.
        let next = child_holding m net tree p t e (inner_start later) in
        let never : (d : ℕ) → Memᴰ d (children m p) → holds m d v ≡ true → holds m d t ≡ true → ⊥ = λ d hd held there.
        true≢false (sym (subst (λ (k : ℕ). holds m k t ≡ true) (children_apart m net tree p d c v hd hc held (inner_end begun)) there) ∙ outside) in
        let apart : holds m next.0 v ≡ false = ⊎_elim (λ held. absurd (never next.0 next.1 held next.2)) (λ out. out) (true_or_false (holds m next.0 v)) in
        let hv = boundary_above m net tree p c v hc (leaves_boundary m c (record { from = v; to = t; weight = w }) road (inner_end begun) outside) in
        let ht = boundary_above m net tree p next.0 t next.1 (enters_boundary m next.0 (record { from = v; to = t; weight = w }) road apart next.2) in
        let halts = C.tried (record { from = v; to = t; weight = w }) road hv ht never in
        omega (
          arith,
          (halts a b ha hb).0,
          (halts v b hv hb).1,
          C.child c a v u hc ha hv begun,
          C.road (record { from = v; to = t; weight = w }) road hv ht,
          part_least e {c = next.0} next.1 ht hb (rest next.2) later,
        ))
        (true_or_false (holds m c t))

    pub closed_least : (a b w : ℕ) → Memᴰ a (row_vertices m p) → Memᴰ b (row_vertices m p) → Inner m p a b w → T a b ≤ w
    closed_least a b w ha hb walk =
        ⊎_elim
        (λ e. leaf_least e walk)
        (λ e. let start = child_holding m net tree p a e (inner_start walk) in omega (arith, part_least e start.1 ha hb (rest start.2) walk))
        (true_or_false (is_leaf m p))
