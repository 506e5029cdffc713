-- The sections and the tables together are the image of an empty fleet.
-- Assumes nothing.
use mathlib.Core.Path.{◌≡◌, ap, sym, ◌∙◌}
use mathlib.Core.Logic.{inl, inr}
use mathlib.Core.List.{List}
use Prim.Native.Nat.{ℕ, ◌+◌, ◌*◌, ◌≤◌, ◌<◌}
use native.Mathlib.Nat.{add-zero}
use native.Mathlib.Omega.{arith}
use Rattle.words.specs.Lists.{word}
use Rattle.roads.specs.Map.{Map, part_count, road_count}
use Rattle.parts.specs.Size.{size_of}
use Rattle.maps.specs.Sound.{Sound}
use Rattle.fleet.specs.State.{fresh_state}
use Rattle.image.specs.Places.{vertices_at, roads_at, tables_at, first_row_of}
use Rattle.image.specs.Image.{head_part, part_record, vertex_record, first_road_from, image}
use Rattle.image.specs.Records.{road_record}
use Rattle.image.proofs.Records.{vertices_start, roads_start, vans_start, tables_start, head_word, part_word_lem, vertex_word, road_word, table_word, shown_word, Address, in_head, in_parts, in_vertices, in_roads, in_vans, in_tables, in_rows, image_by_words}
use Rattle.opening_fresh.proofs.Fresh.{fresh_slots}
use Rattle.opening_rows.proofs.Places.{part_from}
use Rattle.opening_sections.specs.Sections.{Sections}
use Rattle.assembly.specs.Laid.{PartLaid, RoadLaid, RowLaid, LaidForTables, Filled}

module _ (m : Map) (start : ℕ) (mem : List ℕ) (stand : Sections m start mem) where
  abbrev target : List ℕ
  target = image m (fresh_state start)

  -- a word before the tables
  before : (a : ℕ) → a < tables_at m → word mem a ≡ word target a
  before a h = stand.front.at a (omega arith) h

  -- the sections before the tables end before them
  parts_before : (p : ℕ) → p < part_count m → 64 + 8 * p + 8 ≤ tables_at m
  parts_before p h = omega (arith, tables_start m, vans_start m, roads_start m)

  vertices_before : (v : ℕ) → v < m.vertices → vertices_at m + 8 * v + 8 ≤ tables_at m
  vertices_before v h = omega (arith, tables_start m, vans_start m, roads_start m, vertices_start m)

  roads_before : (r : ℕ) → r < road_count m → roads_at m + 4 * r + 4 ≤ tables_at m
  roads_before r h = omega (arith, tables_start m, vans_start m)

  laid_part : (p : ℕ) → p < part_count m → PartLaid m mem p
  unfolding part_record
  laid_part p h =
      let end = parts_before p h in
      record {
        size = before (64 + 8 * p + 1) (omega arith) ∙ part_word_lem m (fresh_state start) (fresh_slots start) p 1 h (omega arith);
        first_row = before (64 + 8 * p + 2) (omega arith) ∙ part_word_lem m (fresh_state start) (fresh_slots start) p 2 h (omega arith);
        table = before (64 + 8 * p + 3) (omega arith) ∙ part_word_lem m (fresh_state start) (fresh_slots start) p 3 h (omega arith);
      }

  laid_vertex : (v : ℕ) → v < m.vertices → word mem (vertices_at m + 8 * v + 2) ≡ first_road_from m v
  unfolding vertex_record
  laid_vertex v h = before (vertices_at m + 8 * v + 2) (omega (arith, vertices_before v h)) ∙ vertex_word m (fresh_state start) (fresh_slots start) v 2 h (omega arith)

  laid_road : (r : ℕ) → r < road_count m → RoadLaid m mem r
  unfolding road_record
  laid_road r h =
      let end = roads_before r h in
      record {
        from = ap (word mem) (sym (add-zero (roads_at m + 4 * r))) ∙ before (roads_at m + 4 * r + 0) (omega arith) ∙ road_word m (fresh_state start) (fresh_slots start) r 0 h (omega arith);
        to = before (roads_at m + 4 * r + 1) (omega arith) ∙ road_word m (fresh_state start) (fresh_slots start) r 1 h (omega arith);
        weight = before (roads_at m + 4 * r + 2) (omega arith) ∙ road_word m (fresh_state start) (fresh_slots start) r 2 h (omega arith);
      }

  laid_head : (word mem 2 ≡ m.vertices) × (word mem 3 ≡ road_count m) × (word mem 4 ≡ part_count m)
  unfolding head_part
  laid_head =
      let end : 64 ≤ tables_at m = omega (arith, tables_start m, vans_start m, roads_start m) in (
        before 2 (omega arith) ∙ head_word m (fresh_state start) (fresh_slots start) 2 (omega arith),
        before 3 (omega arith) ∙ head_word m (fresh_state start) (fresh_slots start) 3 (omega arith),
        before 4 (omega arith) ∙ head_word m (fresh_state start) (fresh_slots start) 4 (omega arith),
      )

  laid_row : (p i : ℕ) → p < part_count m → i < size_of m p → RowLaid m mem p i
  laid_row p i hp hi =
      record {
        mark = stand.rows p i 2 hp hi (omega arith) ∙ shown_word m (fresh_state start) (fresh_slots start) p i 2 hp hi (omega arith);
        below = stand.rows p i 3 hp hi (omega arith) ∙ shown_word m (fresh_state start) (fresh_slots start) p i 3 hp hi (omega arith);
      }

  -- what filling the tables reads
  pub sections_laid : Sound m → LaidForTables m mem
  sections_laid sound =
      record {
        sound = sound;
        fits = omega (arith, stand.long);
        vertices = laid_head.0;
        roads = laid_head.1;
        parts = laid_head.2;
        part = laid_part;
        first_road = laid_vertex;
        road = laid_road;
        row = laid_row;
      }

  -- and with the tables filled every word stands
  pub filled_image : (mem' : List ℕ) → Filled m mem mem' → mem' ≡ target
  filled_image mem' filled = image_by_words m (fresh_state start) (fresh_slots start) mem' (filled.sized ∙ stand.long) by
    where
      low : (a : ℕ) → a < tables_at m → word mem' a ≡ word target a
      low a h = filled.outside a (inl h) ∙ before a h

      by : (a : ℕ) → Address m a → word mem' a ≡ word target a
      by a (in_head h) = low a (omega (arith, tables_start m, vans_start m, roads_start m))
      by a (in_parts p w hp hw e) = low a (omega (arith, parts_before p hp))
      by a (in_vertices v w hv hw e) = low a (omega (arith, vertices_before v hv))
      by a (in_roads r w hr hw e) = low a (omega (arith, roads_before r hr))
      by a (in_vans i w hi hw e) = low a (omega (arith, tables_start m))
      by a (in_tables p i j hp hi hj e) =
          ap (word mem') e ∙ filled.distance p i j hp hi hj ∙ sym (table_word m (fresh_state start) (fresh_slots start) p i j hp hi hj) ∙ ap (word target) (sym e)
      by a (in_rows p i w hp hi hw e) =
          ap (word mem') e ∙ filled.outside (first_row_of m p + 4 * i + w) (inr (omega (arith, part_from m p))) ∙ stand.rows p i w hp hi hw ∙ ap (word target) (sym e)
