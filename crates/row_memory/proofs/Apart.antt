-- The places of the memory do not overlap.
-- Assumes nothing.
use mathlib.Core.Path.{◌≡◌, ap}
use mathlib.Core.Logic.{◌⊎◌, inl, inr, ◌≢◌}
use Prim.Native.Nat.{ℕ, ◌+◌, ◌*◌, ◌≤◌, ◌<◌}
use native.Mathlib.Decide.{ℕ_discrete, dec_lt}
use native.Mathlib.Omega.{arith}
use Rattle.words.proofs.Sums.{record_within, sum_below}
use Rattle.layout.specs.Layout.{words_in_row, distance_in_row, part_at}
use Rattle.roads.specs.Map.{Map, part_count}
use Rattle.parts.specs.Size.{size_of, table_words_below, table_words, rows_below, row_count}
use Rattle.image.specs.Places.{vertices_at, roads_at, vans_at, tables_at, rows_at, itself_at, table_of, first_row_of}
use Rattle.row_memory.specs.Kept.{OutsideRows}

module _ (m : Map) (p : ℕ) (hp : p < part_count m) where
  -- the rows of parts stand one after the other
  rows_apart : (q : ℕ) → p < q → first_row_of m p + words_in_row * size_of m p ≤ first_row_of m q
  unfolding first_row_of rows_below
  rows_apart q h = omega (arith, sum_below (size_of m) p q h)

  pub rows_last : first_row_of m p + words_in_row * size_of m p ≤ rows_at m + words_in_row * row_count m
  unfolding first_row_of row_count rows_below
  rows_last = omega (arith, sum_below (size_of m) p (part_count m) hp)

  pub rows_first : rows_at m ≤ first_row_of m p
  unfolding first_row_of
  rows_first = omega arith

  -- and after all else
  pub table_last : table_of m p + size_of m p * size_of m p ≤ rows_at m
  unfolding table_of table_words_below table_words rows_at
  table_last = omega (arith, sum_below (λ q. size_of m q * size_of m q) p (part_count m) hp)

  pub table_before : (i j : ℕ) → i < size_of m p → j < size_of m p → table_of m p + (size_of m p * i + j) < rows_at m
  table_before i j hi hj = omega (arith, table_last, record_within (size_of m p) (size_of m p) i j hi hj)

  pub part_before : part_at p + 4 ≤ rows_at m
  unfolding rows_at tables_at vans_at roads_at vertices_at
  part_before = omega arith

pub itself_before : (m : Map) (u : ℕ) → u < m.vertices → itself_at m u + 3 ≤ rows_at m
unfolding itself_at rows_at tables_at vans_at roads_at vertices_at
itself_before m u h = omega arith

-- What stands before the rows of all parts, in other parts' rows, or in word 2 or 3 of a row, is outside what a part's rows show.
module _ (m : Map) (p : ℕ) (hp : p < part_count m) where
  pub early : (a : ℕ) → a < rows_at m → OutsideRows (first_row_of m p) (size_of m p) a
  early a h j hj = (λ e. omega (arith, rows_first m p hp), λ e. omega (arith, rows_first m p hp))

  pub beside : (q i w a : ℕ) → q < part_count m → i < size_of m q → w < words_in_row → (q ≢ p) ⊎ (2 ≤ w) → a ≡ first_row_of m q + words_in_row * i + w → OutsideRows (first_row_of m p) (size_of m p) a
  beside q i w a hq hi hw which e j hj = by (ℕ_discrete q p) (dec_lt q p) which
    where
      by : Dec (q ≡ p) → Dec (q < p) → (q ≢ p) ⊎ (2 ≤ w) → (a ≡ first_row_of m p + words_in_row * j → ⊥) × (a ≡ first_row_of m p + words_in_row * j + distance_in_row → ⊥)
      by (yes same) d (inl other) = absurd (other same)
      by (yes same) d (inr high) = let base = ap (first_row_of m) same in (λ k. omega (arith, base), λ k. omega (arith, base))
      by (no other) (yes lower) k = let apart = rows_apart m q hq p lower in (λ z. omega (arith, apart), λ z. omega (arith, apart))
      by (no other) (no higher) k = let apart = rows_apart m p hp q (omega (arith, other, higher)) in (λ z. omega (arith, apart), λ z. omega (arith, apart))
