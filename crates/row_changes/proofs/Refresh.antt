-- How each row of a part that holds v is kept exact when v becomes active or inactive, from what stands one step further down.
-- No distance from v has to be carried up: the rows below that show v have it.
-- Assumes nothing.
use mathlib.Core.Path.{◌≡◌, sym, ◌∙◌, ap, subst, subst⁻¹}
use mathlib.Core.Logic.{◌⊎◌, inl, inr, ⊎_elim}
use mathlib.Core.Bool.{Bool, true, false, cond}
use mathlib.Core.List.{Memᴰ}
use Prim.Native.Nat.{ℕ, ◌<◌}
use native.Mathlib.Decide.{ℕ_discrete}
use native.Mathlib.Omega.{arith}
use lib.Dec.{eqb}
use borrow.Author.Tests.{eqb-false, eq-eqb, ne_eqb}
use Rattle.words.proofs.Tests.{true_or_false}
use Rattle.roads.specs.Map.{Map, part_count}
use Rattle.roads.specs.Dist.{dist}
use Rattle.roads.proofs.Trail.{Net}
use Rattle.parts.specs.Tree.{holds, child_of, is_leaf}
use Rattle.parts.specs.Size.{row_vertices}
use Rattle.parts.proofs.Down.{Tree}
use Rattle.rows.specs.declared.Row.{Row}
use Rattle.rows.specs.Row.{empty_row, itself, nearer, row_of}
use Rattle.rows.specs.Refresh.{onward}
use Rattle.rows.proofs.Order.{RowLe, le_self, Nearer, nearer_is}
use Rattle.row_changes.specs.Switch.{Switched, seen}
use Rattle.row_changes.specs.Source.{source, candidate, row_anew, row_met}
use Rattle.row_changes.proofs.Order.{onward_le, met_nearest}
use Rattle.rows.proofs.Least.{own_row}
use Rattle.row_changes.proofs.Best.{row_shown}
use Rattle.row_changes.proofs.Switch.{seen_or_empty, switch_elsewhere, arrival, departure_kept}
use Rattle.row_changes.proofs.Source.{row_anew_lem}

module _ (m : Map) (v : ℕ) {before after : ℕ → Bool} (switch : Switched v true before after) (hv : v < m.vertices) where
  -- what a row does when v arrives: it comes no later than it did, and shows v or stays
  record Arrived (new old : Row) : Type 0 where
    nearer_now : RowLe new old
    shows_or_stays : (new.vertex ≡ v) ⊎ (new ≡ old)

  stayed : (new old : Row) → new ≡ old → Arrived new old
  stayed new old same = record { nearer_now = subst⁻¹ (λ (k : Row). RowLe k old) same (le_self old); shows_or_stays = inr same }

  row_arrived : (p r : ℕ) → Arrived (row_of m after p r) (row_of m before p r)
  row_arrived p r = by (true_or_false (holds m p v))
    where
      old : Row
      old = row_of m before p r

      by : (holds m p v ≡ true) ⊎ (holds m p v ≡ false) → Arrived (row_of m after p r) old
      by (inr out) = stayed (row_of m after p r) old (sym (switch_elsewhere m v switch p r out))
      by (inl inside) = subst⁻¹ (λ (k : Row). Arrived k old) (arrival m v switch hv p r inside) (record { nearer_now = both.right; shows_or_stays = which })
        where
          new : Row
          new = nearer (seen v (dist m v r)) old

          both : Nearer (seen v (dist m v r)) old new
          both = nearer_is (seen v (dist m v r)) old

          -- only an empty row comes no earlier than the empty one
          empty-stays : new ≡ empty_row → new ≡ old
          empty-stays none =
              ⊎_elim
              (λ same. none ∙ sym same)
              (λ some.
              ⊎_elim
              (λ less. absurd (omega (arith, some.1.reaches)))
              (λ same. absurd (omega (arith, some.1.reaches)))
              (subst (λ (k : Row). RowLe k (own_row m r some.0)) none (subst (RowLe new) some.2 both.right)))
              (row_shown m before p r)

          which : (new.vertex ≡ v) ⊎ (new ≡ old)
          which =
              ⊎_elim
              (λ first.
              ⊎_elim
              (λ none. inr (empty-stays (first ∙ none)))
              (λ near. inl (ap (λ (k : Row). k.vertex) (first ∙ near.1)))
              (seen_or_empty v (dist m v r)))
              inr
              both.one

  itself_arrived : (b : ℕ) → Arrived (itself after b) (itself before b)
  unfolding itself
  itself_arrived b = by (ℕ_discrete b v)
    where
      by : Dec (b ≡ v) → Arrived (itself after b) (itself before b)
      by (no other) = stayed (itself after b) (itself before b) (ap (λ (k : Bool). cond k (record { vertex = b; distance = 0 }) empty_row) (sym (switch.elsewhere b other)))
      by (yes same) = rw (ap after same ∙ switch.here) (was (before b))
        where
          was : (k : Bool) → Arrived (record { vertex = b; distance = 0 }) (cond k (record { vertex = b; distance = 0 }) empty_row)
          was true = record { nearer_now = le_self _; shows_or_stays = inl same }
          was false = record { nearer_now = inl (omega arith); shows_or_stays = inl same }

  source_arrived : (p b : ℕ) → Arrived (source m after p b) (source m before p b)
  unfolding source
  source_arrived p b = by (is_leaf m p)
    where
      by : (leaf : Bool) → Arrived (cond leaf (itself after b) (row_of m after (child_of m p b) b)) (cond leaf (itself before b) (row_of m before (child_of m p b) b))
      by true = itself_arrived b
      by false = row_arrived (child_of m p b) b

  module _ (net : Net m) (tree : Tree m) (p : ℕ) (hp : p < part_count m) where
    -- v arrived: each row of p is compared with the candidates whose source shows v
    pub row_met_lem : (r : ℕ) → Memᴰ r (row_vertices m p) → row_of m after p r ≡ row_met m after p v r (row_of m before p r)
    unfolding row_met row_anew candidate
    row_met_lem r hr =
        row_anew_lem m net tree after p hp r hr
        ∙ sym (met_nearest (candidate m after p r) (candidate m before p r) (λ b. eqb (source m after p b).vertex v) (row_vertices m p) nears kept)
        ∙ ap (row_met m after p v r) (sym (row_anew_lem m net tree before p hp r hr))
      where
        nears : (b : ℕ) → Memᴰ b (row_vertices m p) → RowLe (candidate m after p r b) (candidate m before p r b)
        nears b h = onward_le (source m after p b) (source m before p b) (dist m b r) (source_arrived p b).nearer_now

        kept : (b : ℕ) → Memᴰ b (row_vertices m p) → eqb (source m after p b).vertex v ≡ false → candidate m after p r b ≡ candidate m before p r b
        kept b h hidden =
            ⊎_elim
            (λ shows. absurd (eqb-false (source m after p b).vertex v hidden shows))
            (λ stays. ap (λ (row : Row). onward row (dist m b r)) stays)
            (source_arrived p b).shows_or_stays

-- v departed: a row of p that showed v is made anew, and any other stays
pub row_left : (m : Map) (v : ℕ) {before after : ℕ → Bool} → Switched v false before after → Net m → Tree m → (p : ℕ) → p < part_count m → (r : ℕ) → Memᴰ r (row_vertices m p)
    → row_of m after p r ≡ cond (eqb (row_of m before p r).vertex v) (row_anew m after p r) (row_of m before p r)
row_left m v {before} {after} switch net tree p hp r hr = by (ℕ_discrete (row_of m before p r).vertex v)
  where
    by : Dec ((row_of m before p r).vertex ≡ v) → row_of m after p r ≡ cond (eqb (row_of m before p r).vertex v) (row_anew m after p r) (row_of m before p r)
    by (yes same) = rw (eq-eqb (row_of m before p r).vertex v same) (row_anew_lem m net tree after p hp r hr)
    by (no other) = rw (ne_eqb (row_of m before p r).vertex v other) (departure_kept m v switch p r other)
