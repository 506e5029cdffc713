-- A row of a part and its row in a child, pair after pair of their words. Assumes nothing.
use mathlib.Core.Path.{◌≡◌, ◌∙◌, subst}
use mathlib.Core.Logic.{inl, inr}
use mathlib.Core.List.{List}
use Prim.Native.Nat.{ℕ, ◌+◌, ◌*◌, ◌≤◌, ◌<◌}
use native.Mathlib.Nat.{eq-or-lt_of_le}
use native.Mathlib.Omega.{arith}
use Rattle.roads.specs.Map.{Map, part_count}
use Rattle.parts.specs.Size.{size_of}
use Rattle.assembly.specs.Laid.{LaidForTables}
use Rattle.assembly.specs.Steps.{AgreedPair, AgreedRow}
use Rattle.assembly.proofs.Places.{laid_kept}
use Rattle.assembly.proofs.Pairs.{Lines, agreed_none, agreed_then}
use Rattle.table_words.specs.declared.LaidRows.{LaidRows}
use Rattle.table_words.specs.declared.Below.{Below}
use Rattle.table_words.specs.Rows.{RowsOf, StandsBelow}

-- where the words of row i and of its row below stand
pub lines_of : {m : Map} {p i : ℕ} {rows : LaidRows} {below : Below} → RowsOf m p rows → StandsBelow m p i below →
    Lines m p i below.part rows.table.nodes rows.first (rows.table.at + rows.table.nodes * i) below.rows.first (below.rows.table.at + below.rows.table.nodes * below.row)
lines_of own stands = record {
  row_in_lem = stands.row_in;
  size_is = own.nodes;
  first_is = own.first;
  line_is = rw (own.table, own.nodes);
  first_below_is = stands.rows.first;
  line_below_is = rw (stands.rows.table, stands.rows.nodes, stands.row);
}

module _ (start : List ℕ) (rows : LaidRows) (i : ℕ) (below : Below) where
  abbrev pub RowTo : ℕ → List ℕ → Type 0
  RowTo j mem = (m : Map) (low p : ℕ) → LaidForTables m start → low ≤ p → p < part_count m → i < size_of m p → RowsOf m p rows → StandsBelow m p i below → AgreedRow m low p i j start mem

  pub row_first : RowTo 0 start
  row_first m low p L hl hp hi own stands = agreed_none (λ c k l of _ _ _ _. absurd (omega (arith, of.1)))

  pub row_turn : (before after : List ℕ) (j : ℕ) → j < rows.table.nodes → RowTo j before →
      ((m : Map) (low p : ℕ) → LaidForTables m before → low ≤ p → p < part_count m → i < size_of m p → j < size_of m p → RowsOf m p rows → StandsBelow m p i below → AgreedPair m low p i j before after) →
      RowTo (j + 1) after
  row_turn before after j hj done pair m low p L hl hp hi own stands =
      let A = done m low p L hl hp hi own stands in
      let fits : j < size_of m p = omega (arith, own.nodes) in
      agreed_then L hl hp (λ k l of _. elim (eq-or-lt_of_le of.1) [ inl now ↦ inr (of.0, omega arith) | inr less ↦ inl (of.0, omega arith) ]) A
      (pair m low p (laid_kept m start before A.lower.sized A.lower.outside L) hl hp hi fits own stands)

  pub row_done : (mem : List ℕ) (j : ℕ) → j ≡ rows.table.nodes → RowTo j mem →
      (m : Map) (low p : ℕ) → LaidForTables m start → low ≤ p → p < part_count m → i < size_of m p → RowsOf m p rows → StandsBelow m p i below → AgreedRow m low p i (size_of m p) start mem
  row_done mem j all done m low p L hl hp hi own stands =
      subst (λ (n : ℕ). AgreedRow m low p i n start mem) (all ∙ own.nodes) (done m low p L hl hp hi own stands)
