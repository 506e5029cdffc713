-- Where rows stand: the rows of a part in the order of their vertices, the parts one after the other.
-- Assumes nothing.
use Rattle.std.proofs.Common.{◌≡◌, ℕ, suc, ◌+◌, ◌*◌, ◌<◌, ◌≤◌, Bool, true, false, cond, eqb, length, sym, refl, ap, ◌∙◌, arith}
use Rattle.words.specs.Lists.{up_to, place_in, any, keep}
use Rattle.words.specs.Ranks.{rank}
use Rattle.words.proofs.Sums.{sum_below}
use Rattle.words.proofs.Ranks.{rank_none, rank_kept, rank_left, rank_less, rank_place}
use Rattle.layout.specs.Layout.{words_in_row}
use Rattle.roads.specs.Map.{Map, part_count}
use Rattle.parts.specs.Tree.{leaf_of, children, is_leaf, vertices_of}
use Rattle.parts.specs.Border.{boundary, borders}
use Rattle.parts.specs.Size.{row_vertices, size_of, rows_below, row_count, need}
use Rattle.image.specs.Places.{rows_at, first_row_of, row_at}
use Rattle.image.proofs.Records.{rows_end}
use Rattle.opening_rows.specs.Rows.{has_row, row_place}

module _ (m : Map) (p : ℕ) where
  pub rows_kept : row_vertices m p ≡ keep (has_row m p) (up_to m.vertices)
  unfolding row_vertices vertices_of borders has_row
  rows_kept = by (is_leaf m p)
    where
      by : (leaf : Bool)
          → cond leaf (keep (λ v. eqb (leaf_of m v) p) (up_to m.vertices)) (keep (λ v. any (λ c. boundary m c v) (children m p)) (up_to m.vertices))
          ≡ keep (λ v. cond leaf (eqb (leaf_of m v) p) (any (λ c. boundary m c v) (children m p))) (up_to m.vertices)
      by true = refl
      by false = refl

  -- as many as there are
  pub rank_size : rank (has_row m p) m.vertices ≡ size_of m p
  unfolding rank size_of
  rank_size = ap length (sym rows_kept)

  pub place_first : row_place m p 0 ≡ first_row_of m p
  unfolding row_place
  place_first = omega (arith, rank_none (has_row m p))

  pub place_row : (v : ℕ) → v < m.vertices → has_row m p v ≡ true → row_at m p v ≡ row_place m p v
  unfolding row_at row_place
  place_row v h e = ap (λ (i : ℕ). first_row_of m p + words_in_row * i) (ap (place_in v) rows_kept ∙ rank_place (has_row m p) v m.vertices h e)

  -- a row stands within its part's rows
  pub place_within : (v : ℕ) → v < m.vertices → has_row m p v ≡ true → (first_row_of m p ≤ row_place m p v) × (row_place m p v + words_in_row ≤ first_row_of m p + words_in_row * size_of m p)
  unfolding row_place
  place_within v h e = (omega arith, omega (arith, rank_less (has_row m p) v m.vertices h e, rank_size))

  -- the next row's place
  pub place_next : (v : ℕ) → has_row m p v ≡ true → row_place m p (suc v) ≡ row_place m p v + words_in_row
  unfolding row_place
  place_next v e = omega (arith, rank_kept (has_row m p) v e)

  pub place_left : (v : ℕ) → has_row m p v ≡ false → row_place m p (suc v) ≡ row_place m p v
  unfolding row_place
  place_left v e = omega (arith, rank_left (has_row m p) v e)

  -- rows of two vertices, the lower first
  pub place_rises : (u v : ℕ) → u < v → has_row m p u ≡ true → row_place m p u + words_in_row ≤ row_place m p v
  unfolding row_place
  place_rises u v h e = omega (arith, rank_less (has_row m p) u v h e)

module _ (m : Map) where
  -- the rows of two parts, the lower first
  pub part_rises : (p q : ℕ) → p < q → first_row_of m p + words_in_row * size_of m p ≤ first_row_of m q
  unfolding first_row_of rows_below
  part_rises p q h = omega (arith, sum_below (size_of m) p q h)

  -- all of them within the section
  pub part_from : (p : ℕ) → rows_at m ≤ first_row_of m p
  unfolding first_row_of
  part_from p = omega arith

  pub part_to : (p : ℕ) → p < part_count m → first_row_of m p + words_in_row * size_of m p ≤ need m
  unfolding first_row_of rows_below row_count
  part_to p h = omega (arith, sum_below (size_of m) p (part_count m) h, rows_end m)
