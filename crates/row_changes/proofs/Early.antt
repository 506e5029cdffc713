-- An early end: where no boundary row of a part changed, no row above it changes.
-- Assumes nothing.
use mathlib.Core.Path.{◌≡◌, refl, sym, ◌∙◌, ap, subst, subst⁻¹}
use mathlib.Core.Logic.{⊎_elim, ◌≢◌}
use mathlib.Core.Bool.{Bool, true, false}
use mathlib.Core.List.{Memᴰ}
use Prim.Native.Nat.{ℕ, ◌<◌}
use native.Mathlib.Decide.{ℕ_discrete}
use native.Mathlib.Omega.{arith}
use Rattle.words.proofs.Tests.{true_or_false}
use Rattle.row_changes.proofs.Order.{map_same}
use Rattle.roads.specs.Map.{Map, part_count}
use Rattle.roads.specs.Dist.{dist}
use Rattle.roads.proofs.Trail.{Net}
use Rattle.parts.specs.Tree.{parent_of, holds, child_of, is_leaf}
use Rattle.parts.specs.Border.{boundary, borders}
use Rattle.parts.specs.Size.{row_vertices}
use Rattle.parts.proofs.Tree.{Above, here, up, holds_parent, one_child}
use Rattle.parts.proofs.Down.{Tree, boundary_row, children_says, children_has, child_inner, borders_says, border_child}
use Rattle.parts.proofs.Gates.{rows_inner}
use Rattle.rows.specs.declared.Row.{Row}
use Rattle.rows.specs.Row.{row_of}
use Rattle.rows.specs.Refresh.{onward, row_above}
use Rattle.rows.proofs.Order.{nearest_of}
use Rattle.rows.proofs.Above.{above_exact}
use Rattle.row_changes.specs.Switch.{Switched}
use Rattle.row_changes.proofs.Switch.{switch_elsewhere}

-- no boundary row of part c changed
abbrev pub Unseen : Map → (ℕ → Bool) → (ℕ → Bool) → ℕ → Type 0
Unseen m before after c = (b : ℕ) → b < m.vertices → boundary m c b ≡ true → row_of m before c b ≡ row_of m after c b

module _ (m : Map) (net : Net m) (tree : Tree m) (v : ℕ) (hv : v < m.vertices) {is : Bool} {before after : ℕ → Bool} (switch : Switched v is before after) where
  parent_inner : (c : ℕ) → c ≢ 0 → c < part_count m → is_leaf m (parent_of m c) ≡ false
  parent_inner c real hc = child_inner m (parent_of m c) c (children_has m (parent_of m c) c hc refl real)

  -- the rows of c's parent
  pub parent_unchanged : (c : ℕ) → c ≢ 0 → c < part_count m → holds m c v ≡ true → Unseen m before after c → (r : ℕ) → Memᴰ r (borders m (parent_of m c))
      → row_of m before (parent_of m c) r ≡ row_of m after (parent_of m c) r
  unfolding row_above
  parent_unchanged c real hc inside unseen r hr =
      sym (above_exact m net tree before p (parent_inner c real hc) r hr)
      ∙ ap nearest_of (map_same (offered before) (offered after) (borders m p) (λ b h. ap (λ (row : Row). onward row (dist m b r)) (below b h)))
      ∙ above_exact m net tree after p (parent_inner c real hc) r hr
    where
      p : ℕ
      p = parent_of m c

      hp : p < part_count m
      hp = omega (arith, tree.falls c (omega (arith, real)) hc)

      offered : (ℕ → Bool) → ℕ → Row
      offered isActive b = onward (row_of m isActive (child_of m p b) b) (dist m b r)

      below : (b : ℕ) → Memᴰ b (borders m p) → row_of m before (child_of m p b) b ≡ row_of m after (child_of m p b) b
      below b h =
          let found = border_child m net tree p b h in
          let child = children_says m p (child_of m p b) found.0 in
          ⊎_elim
          (λ with-v.
          let same = one_child m tree.falls v (tree.leaf_part v hv) (child_of m p b) c with-v inside child.2 real child.1 in
          subst⁻¹ (λ (k : ℕ). row_of m before k b ≡ row_of m after k b) same (unseen b (borders_says m net tree p b h).0 (subst (λ (k : ℕ). boundary m k b ≡ true) same found.1)))
          (switch_elsewhere m v switch (child_of m p b) b)
          (true_or_false (holds m (child_of m p b) v))

  -- so no boundary row of the parent changed
  unseen_parent : (c : ℕ) → c ≢ 0 → c < part_count m → holds m c v ≡ true → Unseen m before after c → Unseen m before after (parent_of m c)
  unseen_parent c real hc inside unseen b hb on =
      parent_unchanged c real hc inside unseen b
      (subst (Memᴰ b) (rows_inner m (parent_of m c) (parent_inner c real hc)) (boundary_row m net tree (parent_of m c) b on))

  -- the rows of any part q above c
  pub above_unchanged : (q c : ℕ) → Above m q c → q ≢ c → c < part_count m → holds m c v ≡ true → Unseen m before after c → (r : ℕ) → Memᴰ r (borders m q)
      → row_of m before q r ≡ row_of m after q r
  above_unchanged q c here other hc inside unseen r hr = absurd (other refl)
  above_unchanged q c (up real rest) other hc inside unseen r hr =
      by (ℕ_discrete q (parent_of m c))
      (λ differ.
      above_unchanged q (parent_of m c) rest differ (omega (arith, tree.falls c (omega (arith, real)) hc))
      (holds_parent m tree.falls v (tree.leaf_part v hv) c real inside) (unseen_parent c real hc inside unseen) r hr)
    where
      by : Dec (q ≡ parent_of m c) → (q ≢ parent_of m c → row_of m before q r ≡ row_of m after q r) → row_of m before q r ≡ row_of m after q r
      by (yes same) later =
          subst⁻¹ (λ (k : ℕ). row_of m before k r ≡ row_of m after k r) same
          (parent_unchanged c real hc inside unseen r (subst (λ (k : ℕ). Memᴰ r (borders m k)) same hr))
      by (no differ) later = later differ

-- Where no row of part c changed, none of its boundary rows did.
pub unseen_rows : (m : Map) → Net m → Tree m → (before after : ℕ → Bool) (c : ℕ) → c ≢ 0 → c < part_count m
    → ((r : ℕ) → Memᴰ r (row_vertices m c) → row_of m before c r ≡ row_of m after c r) → Unseen m before after c
unseen_rows m net tree before after c real hc same b hb on = same b (boundary_row m net tree c b on)
