-- The row of a vertex, by the order of rows: it is empty or that of a vertex that arrives, and comes no later than that of any.
-- Assumes nothing.
use mathlib.Core.Path.{◌≡◌, refl, subst⁻¹}
use mathlib.Core.Logic.{inl, inr}
use mathlib.Core.Bool.{Bool}
use Prim.Native.Nat.{ℕ, ◌+◌, ◌≤◌, ◌<◌}
use native.Mathlib.Decide.{dec_lt}
use native.Mathlib.Omega.{arith}
use borrow.Author.Tests.{lt-ltb, le-ltb}
use Rattle.words.specs.Limits.{FAR}
use Rattle.roads.specs.Map.{Map}
use Rattle.roads.specs.Dist.{dist}
use Rattle.roads.proofs.Trail.{Net}
use Rattle.roads.proofs.Laws.{dist_triangle}
use Rattle.rows.specs.declared.Row.{Row}
use Rattle.rows.specs.Row.{empty_row, row_of, Arrives, IsRow, empty, shows}
use Rattle.rows.specs.Refresh.{onward}
use Rattle.rows.proofs.Order.{RowLe, le_self, le_trans}
use Rattle.rows.proofs.Least.{own_row, Shown, First, by_order, row_is, row_unique}

module _ (m : Map) (isActive : ℕ → Bool) (p r : ℕ) where
  is_shown : (row : Row) → IsRow m isActive p r row → Shown m isActive p r row
  is_shown row (empty nobody) = inl refl
  is_shown row (shows u a least) = inr (u, a, refl)

  is_first : (row : Row) → IsRow m isActive p r row → First m isActive p r row
  is_first row (empty nobody) = λ u a. absurd (nobody u a)
  is_first row (shows u a least) = least

  pub row_shown : Shown m isActive p r (row_of m isActive p r)
  row_shown = is_shown (row_of m isActive p r) (row_is m isActive p r)

  pub row_first : First m isActive p r (row_of m isActive p r)
  row_first = is_first (row_of m isActive p r) (row_is m isActive p r)

  -- there is one such row
  pub row_by_order : (row : Row) → Shown m isActive p r row → First m isActive p r row → row_of m isActive p r ≡ row
  row_by_order row shown first = row_unique m isActive p r (row_is m isActive p r) (by_order m isActive p r row shown first)

  -- a row comes no later than the empty one
  pub row_most : RowLe (row_of m isActive p r) empty_row
  row_most = by row_shown
    where
      by : Shown m isActive p r (row_of m isActive p r) → RowLe (row_of m isActive p r) empty_row
      by (inl none) = subst⁻¹ (λ (k : Row). RowLe k empty_row) none (le_self empty_row)
      by (inr some) = subst⁻¹ (λ (k : Row). RowLe k empty_row) some.2 (inl some.1.reaches)

-- A row comes no later than another of the part's rows seen from there.
pub row_closed : (m : Map) → Net m → (isActive : ℕ → Bool) (p b r : ℕ) → b < m.vertices → RowLe (row_of m isActive p r) (onward (row_of m isActive p b) (dist m b r))
unfolding onward
row_closed m net isActive p b r hb = by (row_shown m isActive p b)
  where
    here : Row
    here = row_of m isActive p r

    on : (u : ℕ) → Arrives m isActive p b u → Dec (dist m u b + dist m b r < FAR) → RowLe here (onward (own_row m b u) (dist m b r))
    on u a (no far) = rw (le-ltb (dist m u b + dist m b r) FAR (omega (arith, far))) (row_most m isActive p r)
    on u a (yes near) =
        let short = dist_triangle m net u a.vertex b r hb in
        rw (lt-ltb (dist m u b + dist m b r) FAR near)
        (le_trans here (own_row m r u) (record { vertex = u; distance = dist m u b + dist m b r })
        (row_first m isActive p r u (record { vertex = a.vertex; inside = a.inside; active = a.active; reaches = omega (arith, short) }))
        (step short (dec_lt (dist m u r) (dist m u b + dist m b r))))
      where
        step : dist m u r ≤ dist m u b + dist m b r → Dec (dist m u r < dist m u b + dist m b r) → RowLe (own_row m r u) (record { vertex = u; distance = dist m u b + dist m b r })
        step short (yes less) = inl less
        step short (no same) = inr (omega (arith, same), omega arith)

    by : Shown m isActive p b (row_of m isActive p b) → RowLe here (onward (row_of m isActive p b) (dist m b r))
    by (inl none) = subst⁻¹ (λ (k : Row). RowLe here (onward k (dist m b r))) none (rw (le-ltb (FAR + dist m b r) FAR (omega arith)) (row_most m isActive p r))
    by (inr some) = subst⁻¹ (λ (k : Row). RowLe here (onward k (dist m b r))) some.2 (on some.0 some.1 (dec_lt (dist m some.0 b + dist m b r) FAR))
