-- A part's row is the nearest candidate, in a leaf as in any other part.
-- Assumes nothing.
use mathlib.Core.Path.{◌≡◌, refl, sym, ◌∙◌, ap, subst, subst⁻¹}
use mathlib.Core.Logic.{inl, inr, ⊎_elim}
use mathlib.Core.Bool.{Bool, true, false, cond}
use mathlib.Core.List.{map, Memᴰ}
use Prim.Native.Nat.{ℕ, ◌+◌, ◌<◌}
use native.Mathlib.Nat.{zero-add}
use native.Mathlib.Omega.{arith}
use lib.Dec.{ltb, eqb}
use borrow.Author.Tests.{eqb-true, le-ltb}
use Rattle.words.specs.Limits.{FAR}
use Rattle.words.specs.Lists.{up_to}
use Rattle.words.proofs.Lists.{count_from_below, keep_says, map_has, map_says}
use Rattle.roads.specs.Map.{Map, part_count}
use Rattle.roads.specs.Dist.{dist}
use Rattle.roads.proofs.Trail.{Net}
use Rattle.parts.specs.Tree.{leaf_of, holds, child_of, is_leaf, vertices_of}
use Rattle.parts.specs.Border.{borders}
use Rattle.parts.specs.Size.{row_vertices}
use Rattle.parts.proofs.Way.{in_own_leaf}
use Rattle.parts.proofs.Down.{Tree, leaf_of_held, vertices_has}
use Rattle.rows.specs.declared.Row.{Row}
use Rattle.rows.specs.Row.{empty_row, itself, row_of}
use Rattle.rows.specs.Refresh.{onward, row_above}
use Rattle.rows.proofs.Order.{RowLe, nearest_of, nearest_one, nearest_le}
use Rattle.rows.proofs.Above.{above_exact}
use Rattle.row_changes.specs.Switch.{seen}
use Rattle.row_changes.specs.Source.{source, candidate, row_anew}
use Rattle.rows.proofs.Least.{Shown, First}
use Rattle.row_changes.proofs.Best.{row_by_order}
use Rattle.row_changes.proofs.Switch.{seen_near, seen_or_empty}

-- what an active vertex shows of itself is seen with its distance, and an inactive one is not seen
onward_itself : (isActive : ℕ → Bool) (b d : ℕ) → onward (itself isActive b) d ≡ cond (isActive b) (seen b d) empty_row
unfolding onward itself seen
onward_itself isActive b d = by (isActive b)
  where
    by : (active : Bool) → onward (cond active (record { vertex = b; distance = 0 }) empty_row) d ≡ cond active (seen b d) empty_row
    by true = ap (λ (k : ℕ). cond (ltb k FAR) (record { vertex = b; distance = k }) empty_row) (zero-add d)
    by false = rw (le-ltb (FAR + d) FAR (omega arith))

module _ (m : Map) (net : Net m) (tree : Tree m) (isActive : ℕ → Bool) (p : ℕ) where
  module _ (leaf : is_leaf m p ≡ true) where
    leaf_says : (b : ℕ) → Memᴰ b (vertices_of m p) → (b < m.vertices) × (holds m p b ≡ true)
    unfolding vertices_of
    leaf_says b h =
        let kept = keep_says (λ u. eqb (leaf_of m u) p) (up_to m.vertices) b h in (
          omega (arith, count_from_below 0 m.vertices b kept.0),
          subst (λ (k : ℕ). holds m k b ≡ true) (eqb-true (leaf_of m b) p kept.1) (in_own_leaf m b (omega (arith, count_from_below 0 m.vertices b kept.0))),
        )

    leaf_anew : (r : ℕ) → row_of m isActive p r ≡ nearest_of (map (λ b. onward (itself isActive b) (dist m b r)) (vertices_of m p))
    leaf_anew r = row_by_order m isActive p r (nearest_of (map offered (vertices_of m p))) shown first
      where
        offered : ℕ → Row
        offered b = onward (itself isActive b) (dist m b r)

        shown_one : (b : ℕ) → Memᴰ b (vertices_of m p) → (active : Bool) → isActive b ≡ active → Shown m isActive p r (cond active (seen b (dist m b r)) empty_row)
        shown_one b h false e = inl refl
        shown_one b h true e =
            let says = leaf_says b h in
            ⊎_elim inl (λ near. inr (b, record { vertex = says.0; inside = says.1; active = e; reaches = near.0 }, near.1)) (seen_or_empty b (dist m b r))

        shown : Shown m isActive p r (nearest_of (map offered (vertices_of m p)))
        shown =
            ⊎_elim
            inl
            (λ h.
            let found = map_says offered (vertices_of m p) (nearest_of (map offered (vertices_of m p))) h in
            subst⁻¹ (Shown m isActive p r) (found.2 ∙ onward_itself isActive found.0 (dist m found.0 r)) (shown_one found.0 found.1 (isActive found.0) refl))
            (nearest_one (map offered (vertices_of m p)))

        first : First m isActive p r (nearest_of (map offered (vertices_of m p)))
        first u a =
            subst (RowLe (nearest_of (map offered (vertices_of m p))))
            (onward_itself isActive u (dist m u r) ∙ ap (λ (b : Bool). cond b (seen u (dist m u r)) empty_row) a.active ∙ seen_near u (dist m u r) a.reaches)
            (nearest_le (map offered (vertices_of m p)) (offered u)
            (map_has offered (vertices_of m p) u (vertices_has m p u a.vertex (leaf_of_held m net tree p u leaf a.inside))))

  pub row_anew_lem : p < part_count m → (r : ℕ) → Memᴰ r (row_vertices m p) → row_of m isActive p r ≡ row_anew m isActive p r
  unfolding row_anew candidate source row_vertices row_above
  row_anew_lem hp r hr = by (is_leaf m p) refl hr
    where
      by : (leaf : Bool) → is_leaf m p ≡ leaf → Memᴰ r (cond leaf (vertices_of m p) (borders m p))
          → row_of m isActive p r
          ≡ nearest_of (map (λ b. onward (cond leaf (itself isActive b) (row_of m isActive (child_of m p b) b)) (dist m b r)) (cond leaf (vertices_of m p) (borders m p)))
      by true e h = leaf_anew e r
      by false e h = sym (above_exact m net tree isActive p e r h)
