-- Where the words of the tables stand, and that all else that is read stands outside them.
-- Assumes nothing.
use mathlib.Core.Path.{◌≡◌, sym, ap, ◌∙◌, subst}
use mathlib.Core.Logic.{inl, inr}
use mathlib.Core.List.{List, Memᴰ}
use Prim.Native.Nat.{ℕ, ◌+◌, ◌*◌, ◌≤◌, ◌<◌}
use native.Mathlib.Decide.{dec_lt}
use native.Mathlib.Omega.{arith}
use lib.ListN.{length}
use Rattle.words.specs.Limits.{head_words}
use Rattle.words.specs.Lists.{word}
use Rattle.words.proofs.Sums.{record_within, sum_below}
use Rattle.words.proofs.Places.{entry_in}
use Rattle.layout.specs.Layout.{words_in_part, size_in_part, rows_in_part, table_in_part, words_in_vertex, roads_in_vertex, words_in_road, from_in_road, to_in_road, weight_in_road, words_in_row, own_in_row, below_in_row, part_at}
use Rattle.roads.specs.Map.{Map, part_count, road_count}
use Rattle.parts.specs.Size.{row_vertices, size_of, table_words_below, table_words}
use Rattle.parts.proofs.Rows.{row_vertex_lem}
use Rattle.image.specs.Places.{vertices_at, roads_at, tables_at, rows_at, table_of, first_row_of}
use Rattle.image.specs.Records.{row_vertex}
use Rattle.image.proofs.Records.{vertices_start, roads_start, vans_start, tables_start, rows_start}
use Rattle.table_rows.proofs.Rows.{places_differ}
use Rattle.assembly.specs.Laid.{LaidForTables, OutsideTables}

module _ (m : Map) where
  -- ---- tables

  pub table_from : (q : ℕ) → tables_at m ≤ table_of m q
  unfolding table_of
  table_from q = omega arith

  -- a table ends before a later one starts
  pub tables_apart : (q r : ℕ) → q < r → table_of m q + size_of m q * size_of m q ≤ table_of m r
  unfolding table_of table_words_below
  tables_apart q r h = omega (arith, sum_below (λ p. size_of m p * size_of m p) q r h)

  pub table_to : (q : ℕ) → q < part_count m → table_of m q + size_of m q * size_of m q ≤ rows_at m
  unfolding table_of table_words_below table_words
  table_to q h = omega (arith, sum_below (λ p. size_of m p * size_of m p) q (part_count m) h, rows_start m)

  pub entry_to : (q i j : ℕ) → i < size_of m q → j < size_of m q → size_of m q * i + j < size_of m q * size_of m q
  entry_to q i j hi hj = record_within (size_of m q) (size_of m q) i j hi hj

  -- one word is of one part, one row and one column
  pub record OneWord (q i j r k l : ℕ) : Type 0 where
    pub part : q ≡ r
    pub row : i ≡ k
    pub column : j ≡ l

  pub one_word : (q i j r k l : ℕ) → i < size_of m q → j < size_of m q → k < size_of m r → l < size_of m r →
      table_of m q + (size_of m q * i + j) ≡ table_of m r + (size_of m r * k + l) → OneWord q i j r k l
  one_word q i j r k l hi hj hk hl e =
      elim (dec_lt q r) [
        | yes less ↦ absurd (omega (arith, tables_apart q r less, entry_to q i j hi hj))
        | no more ↦ elim (dec_lt r q) [
          | yes less ↦ absurd (omega (arith, tables_apart r q less, entry_to r k l hk hl))
          | no same ↦ here (omega (arith, more, same))
        ]
      ]
    where
      here : q ≡ r → OneWord q i j r k l
      here same =
          let wide : size_of m r ≡ size_of m q = ap (size_of m) (sym same) in
          let both = places_differ (size_of m q) i j k l hj (subst (λ (n : ℕ). l < n) wide hl)
          (omega (arith, ap (table_of m) same, ap (λ (n : ℕ). n * k) wide)) in
          record { part = same; row = both.0; column = both.1 }

  -- ---- outside the tables

  pub head_outside : (x : ℕ) → x < head_words → OutsideTables m x
  head_outside x h = inl (omega (arith, vertices_start m, roads_start m, vans_start m, tables_start m))

  pub part_outside : (p w : ℕ) → p < part_count m → w < words_in_part → OutsideTables m (part_at p + w)
  part_outside p w hp hw = inl (omega (arith, roads_start m, vans_start m, tables_start m))

  pub vertex_outside : (v w : ℕ) → v < m.vertices → w < words_in_vertex → OutsideTables m (vertices_at m + words_in_vertex * v + w)
  vertex_outside v w hv hw = inl (omega (arith, vertices_start m, roads_start m, vans_start m, tables_start m))

  pub road_outside : (r w : ℕ) → r < road_count m → w < words_in_road → OutsideTables m (roads_at m + words_in_road * r + w)
  road_outside r w hr hw = inl (omega (arith, vans_start m, tables_start m))

  pub row_outside : (p x : ℕ) → OutsideTables m (first_row_of m p + x)
  unfolding first_row_of
  row_outside p x = inr (omega arith)

  -- ---- sizes

  pub row_is : (p i : ℕ) → i < size_of m p → Memᴰ (row_vertex m p i) (row_vertices m p)
  unfolding size_of
  row_is p i h = entry_in (row_vertices m p) i 0 h

  pub row_real : (p i : ℕ) → i < size_of m p → row_vertex m p i < m.vertices
  row_real p i h = row_vertex_lem m p (row_vertex m p i) (row_is p i h)

-- What filling reads stays where no word outside the tables changes.
module _ (m : Map) (before after : List ℕ) (sized : length after ≡ length before) (same : (x : ℕ) → OutsideTables m x → word after x ≡ word before x) where
  pub laid_kept : LaidForTables m before → LaidForTables m after
  laid_kept L = record {
    sound = L.sound;
    fits = omega (arith, L.fits);
    vertices = same 2 (head_outside m 2 (omega arith)) ∙ L.vertices;
    roads = same 3 (head_outside m 3 (omega arith)) ∙ L.roads;
    parts = same 4 (head_outside m 4 (omega arith)) ∙ L.parts;
    part = λ p hp. record {
      size = same (part_at p + size_in_part) (part_outside m p size_in_part hp (omega arith)) ∙ (L.part p hp).size;
      first_row = same (part_at p + rows_in_part) (part_outside m p rows_in_part hp (omega arith)) ∙ (L.part p hp).first_row;
      table = same (part_at p + table_in_part) (part_outside m p table_in_part hp (omega arith)) ∙ (L.part p hp).table;
    };
    first_road = λ v hv. same (vertices_at m + words_in_vertex * v + roads_in_vertex) (vertex_outside m v roads_in_vertex hv (omega arith)) ∙ L.first_road v hv;
    road = λ r hr. record {
      from = ap (word after) (plus_none (roads_at m + words_in_road * r)) ∙ same (roads_at m + words_in_road * r + from_in_road) (road_outside m r from_in_road hr (omega arith)) ∙ ap (word before) (sym (plus_none (roads_at m + words_in_road * r))) ∙ (L.road r hr).from;
      to = same (roads_at m + words_in_road * r + to_in_road) (road_outside m r to_in_road hr (omega arith)) ∙ (L.road r hr).to;
      weight = same (roads_at m + words_in_road * r + weight_in_road) (road_outside m r weight_in_road hr (omega arith)) ∙ (L.road r hr).weight;
    };
    row = λ p i hp hi. record {
      mark = moved (first_row_of m p) (words_in_row * i) own_in_row (row_outside m p (words_in_row * i + own_in_row)) ∙ (L.row p i hp hi).mark;
      below = moved (first_row_of m p) (words_in_row * i) below_in_row (row_outside m p (words_in_row * i + below_in_row)) ∙ (L.row p i hp hi).below;
    };
  }
    where
      plus_none : (x : ℕ) → x ≡ x + 0
      plus_none x = omega arith

      moved : (a b w : ℕ) → OutsideTables m (a + (b + w)) → word after (a + b + w) ≡ word before (a + b + w)
      moved a b w out = same (a + b + w) (subst (OutsideTables m) (omega arith) out)
