-- A row as one number.
-- Assumes nothing.
use mathlib.Core.Path.{◌≡◌, sym, ◌∙◌}
use mathlib.Core.Bool.{false, ◌&&◌}
use mathlib.Core.Logic.{inl, inr}
use Prim.Native.Nat.{ℕ, ◌/◌, ◌%◌, ◌≤◌, ◌<◌}
use native.Mathlib.Decide.{ℕ_discrete, dec_lt}
use native.Mathlib.Omega.{arith}
use lib.Dec.{eqb, ltb}
use borrow.Author.Tests.{lt-ltb, le-ltb, eq-eqb, ne_eqb}
use Rattle.words.proofs.Tests.{PairBefore, pair_if}
use Rattle.rows.specs.declared.Row.{Row}
use Rattle.rows.specs.Row.{comes_before}
use Rattle.row_words.specs.Words.{placed, unplaced}

pub placed_row : (v d : ℕ) → v < 4294967296 → unplaced (placed v d) ≡ record { vertex = v; distance = d }
placed_row v d small =
    let a : (placed v d % 4294967296 ≡ v) = omega arith in
    let b : (placed v d / 4294967296 ≡ d) = omega arith in
    λ t. record { vertex = a t; distance = b t }

-- of two rows the one that comes before has the lesser
pub placed_before : (a b : Row) → a.vertex < 4294967296 → b.vertex < 4294967296 → ltb (placed a.vertex a.distance) (placed b.vertex b.distance) ≡ comes_before a b
placed_before a b small small' = by (dec_lt (placed a.vertex a.distance) (placed b.vertex b.distance))
  where
    before : placed a.vertex a.distance < placed b.vertex b.distance → Dec (a.distance < b.distance) → PairBefore a.distance a.vertex b.distance b.vertex
    before less (yes nearer) = inl nearer
    before less (no tie) = inr (omega (arith, tie), omega (arith, tie))

    tie : placed b.vertex b.distance ≤ placed a.vertex a.distance → Dec (a.distance ≡ b.distance) → false ≡ (eqb a.distance b.distance && ltb a.vertex b.vertex)
    tie most (yes same) = rw (eq-eqb a.distance b.distance same, le-ltb a.vertex b.vertex (omega arith))
    tie most (no other) = rw (ne_eqb a.distance b.distance other)

    by : Dec (placed a.vertex a.distance < placed b.vertex b.distance) → ltb (placed a.vertex a.distance) (placed b.vertex b.distance) ≡ comes_before a b
    by (yes less) = lt-ltb (placed a.vertex a.distance) (placed b.vertex b.distance) less ∙ sym (pair_if a.distance a.vertex b.distance b.vertex (before less (dec_lt a.distance b.distance)))
    by (no most) =
        le-ltb (placed a.vertex a.distance) (placed b.vertex b.distance) (omega (arith, most))
        ∙ rw (le-ltb a.distance b.distance (omega (arith, most))) (tie (omega (arith, most)) (ℕ_discrete a.distance b.distance))
