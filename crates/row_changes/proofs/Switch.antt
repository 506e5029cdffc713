-- The rows after one vertex became active or inactive.
-- Assumes nothing.
use mathlib.Core.Path.{◌≡◌, sym, ◌∙◌, ap, subst, subst⁻¹}
use mathlib.Core.Logic.{◌⊎◌, inl, inr, ⊎_elim, ◌≢◌}
use mathlib.Core.Bool.{Bool, true, false, true≢false}
use Prim.Native.Nat.{ℕ, ◌<◌}
use native.Mathlib.Decide.{ℕ_discrete, dec_lt}
use native.Mathlib.Omega.{arith}
use borrow.Author.Tests.{lt-ltb, le-ltb}
use Rattle.words.specs.Limits.{FAR}
use Rattle.roads.specs.Map.{Map}
use Rattle.roads.specs.Dist.{dist}
use Rattle.parts.specs.Tree.{holds}
use Rattle.rows.specs.declared.Row.{Row}
use Rattle.rows.specs.Row.{empty_row, nearer, row_of, Arrives}
use Rattle.rows.proofs.Order.{RowLe, le_trans, nearer_is}
use Rattle.rows.proofs.Elsewhere.{row_elsewhere}
use Rattle.row_changes.specs.Switch.{Switched, seen}
use Rattle.rows.proofs.Least.{own_row, Shown, First}
use Rattle.row_changes.proofs.Best.{row_shown, row_first, row_by_order}

pub seen_near : (v d : ℕ) → d < FAR → seen v d ≡ record { vertex = v; distance = d }
unfolding seen
seen_near v d near = rw (lt-ltb d FAR near)

pub seen_or_empty : (v d : ℕ) → (seen v d ≡ empty_row) ⊎ ((d < FAR) × (seen v d ≡ record { vertex = v; distance = d }))
unfolding seen
seen_or_empty v d = by (dec_lt d FAR)
  where
    by : Dec (d < FAR) → (seen v d ≡ empty_row) ⊎ ((d < FAR) × (seen v d ≡ record { vertex = v; distance = d }))
    by (yes near) = inr (near, seen_near v d near)
    by (no far) = inl (rw (le-ltb d FAR (omega (arith, far))))

module _ (m : Map) (v : ℕ) {is : Bool} {before after : ℕ → Bool} (switch : Switched v is before after) (p r : ℕ) where
  -- another vertex arrives as it did
  pub arrives_still : (u : ℕ) → u ≢ v → Arrives m before p r u → Arrives m after p r u
  arrives_still u other a = record { vertex = a.vertex; inside = a.inside; active = sym (switch.elsewhere u other) ∙ a.active; reaches = a.reaches }

  pub arrived_before : (u : ℕ) → u ≢ v → Arrives m after p r u → Arrives m before p r u
  arrived_before u other a = record { vertex = a.vertex; inside = a.inside; active = switch.elsewhere u other ∙ a.active; reaches = a.reaches }

  -- the rows of a part that does not hold v stay
  pub switch_elsewhere : holds m p v ≡ false → row_of m before p r ≡ row_of m after p r
  switch_elsewhere out = row_elsewhere m before after p r (λ u h. switch.elsewhere u (λ same. true≢false (sym h ∙ ap (holds m p) same ∙ out)))

-- An arriving vertex is compared with what each row of its parts shows.
pub arrival : (m : Map) (v : ℕ) {before after : ℕ → Bool} → Switched v true before after → v < m.vertices → (p r : ℕ) → holds m p v ≡ true
    → row_of m after p r ≡ nearer (seen v (dist m v r)) (row_of m before p r)
arrival m v {before} {after} switch hv p r inside = row_by_order m after p r row shown first
  where
    old : Row
    old = row_of m before p r

    row : Row
    row = nearer (seen v (dist m v r)) old

    arrives : dist m v r < FAR → Arrives m after p r v
    arrives near = record { vertex = hv; inside = inside; active = switch.here; reaches = near }

    still : (u : ℕ) → Arrives m before p r u → Arrives m after p r u
    still u a = by (ℕ_discrete u v)
      where
        by : Dec (u ≡ v) → Arrives m after p r u
        by (yes same) = subst⁻¹ (Arrives m after p r) same (arrives (subst (λ (k : ℕ). dist m k r < FAR) same a.reaches))
        by (no other) = arrives_still m v switch p r u other a

    shown : Shown m after p r row
    shown =
        ⊎_elim
        (λ new. ⊎_elim (λ none. inl (new ∙ none)) (λ near. inr (v, arrives near.0, new ∙ near.1)) (seen_or_empty v (dist m v r)))
        (λ kept. ⊎_elim (λ none. inl (kept ∙ none)) (λ some. inr (some.0, still some.0 some.1, kept ∙ some.2)) (row_shown m before p r))
        (nearer_is (seen v (dist m v r)) old).one

    first : First m after p r row
    first u a = by (ℕ_discrete u v)
      where
        by : Dec (u ≡ v) → RowLe row (own_row m r u)
        by (yes same) =
            subst⁻¹ (λ (k : ℕ). RowLe row (own_row m r k)) same
            (subst (RowLe row) (seen_near v (dist m v r) (subst (λ (k : ℕ). dist m k r < FAR) same a.reaches)) (nearer_is (seen v (dist m v r)) old).left)
        by (no other) =
            le_trans row old (own_row m r u) (nearer_is (seen v (dist m v r)) old).right (row_first m before p r u (arrived_before m v switch p r u other a))

-- After a departure a row that shows another vertex, or none, stays.
pub departure_kept : (m : Map) (v : ℕ) {before after : ℕ → Bool} → Switched v false before after → (p r : ℕ) → (row_of m before p r).vertex ≢ v
    → row_of m after p r ≡ row_of m before p r
departure_kept m v {before} {after} switch p r other = row_by_order m after p r (row_of m before p r) shown first
  where
    shown : Shown m after p r (row_of m before p r)
    shown =
        ⊎_elim
        inl
        (λ some. inr (some.0, arrives_still m v switch p r some.0 (λ same. other (ap (λ (k : Row). k.vertex) some.2 ∙ same)) some.1, some.2))
        (row_shown m before p r)

    first : First m after p r (row_of m before p r)
    first u a =
        row_first m before p r u
        (arrived_before m v switch p r u (λ same. true≢false (sym a.active ∙ ap after same ∙ switch.here)) a)
