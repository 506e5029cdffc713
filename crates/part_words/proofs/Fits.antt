-- Rows and a table that lie within the memory.
-- Assumes nothing.
use mathlib.Core.Path.{◌≡◌}
use mathlib.Core.Bool.{true}
use mathlib.Core.List.{List}
use Prim.Native.Nat.{ℕ, ◌+◌, ◌*◌, ◌≤◌, ◌<◌}
use native.Mathlib.Nat.{mul-suc, mul-le-mul_left}
use native.Mathlib.Omega.{arith}
use lib.ListN.{length}
use borrow.Author.Tests.{le-leb}
use Rattle.part_words.specs.Part.{fits}

square_most : (n : ℕ) → n ≤ 128 → n * n ≤ 16384
square_most n h = omega (arith, mul-le-mul_left {m = n} {n = 128} n h)

-- a line of a table
line_within : (size i : ℕ) → i < size → size * i + size ≤ size * size
line_within size i h = omega (arith, mul-suc size i, mul-le-mul_left {m = i + 1} {n = size} size (omega arith))

-- of at most 128
pub row_within : (size i : ℕ) → size ≤ 128 → i < size → (size * i ≤ 16384) × (size * i + size ≤ size * size)
row_within size i few h = (omega (arith, line_within size i h, square_most size few), line_within size i h)

module _ (mem : List ℕ) (rows table size : ℕ) where
  pub fits_pass : rows + 4 * size ≤ length mem → table + size * size ≤ length mem → fits mem rows table size ≡ true
  fits_pass hr ht = rw (le-leb (rows + 4 * size) (length mem) hr, le-leb (table + size * size) (length mem) ht)
