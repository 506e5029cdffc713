-- The sections, one after the other, agree with the image of an empty fleet.
-- Assumes nothing.
use mathlib.Core.Path.{◌≡◌, ap, sym, subst, ◌∙◌}
use mathlib.Core.Logic.{inl, inr}
use mathlib.Core.Bool.{true}
use mathlib.Core.List.{List, [], ◌∷◌, Memᴰ}
use Prim.Native.Nat.{ℕ, ◌+◌, ◌*◌, ◌≤◌, ◌<◌}
use native.Mathlib.Nat.{zero-add}
use native.Mathlib.Omega.{arith}
use lib.ListN.{length, replicate, get_or-replicate}
use lib.Seq.{sets, length-sets}
use Rattle.words.specs.Limits.{vans, head_words, head_mark}
use Rattle.words.specs.Lists.{word, up_to}
use Rattle.words.proofs.Sums.{in_record}
use Rattle.words.proofs.Stores.{stored_join}
use Rattle.words.proofs.Places.{entry_in, place_of_entry}
use Rattle.words.proofs.Lists.{keep_says}
use Rattle.layout.specs.Layout.{words_in_part, rows_in_part, words_in_vertex, words_in_road, words_in_van, words_in_row, parts_at, vertices_from, part_at, part_word}
use Rattle.roads.specs.Map.{Map, part_count, road_count}
use Rattle.parts.specs.Size.{row_vertices, size_of, need}
use Rattle.parts.proofs.Rows.{row_vertex_lem, rows_unique}
use Rattle.fleet.specs.State.{fresh_state}
use Rattle.image.specs.Places.{vertices_at, roads_at, vans_at, tables_at, first_row_of, row_at}
use Rattle.image.specs.Image.{head_record, head_part, part_record, image}
use Rattle.image.specs.Records.{row_vertex, road_record}
use Rattle.image.proofs.Length.{head_length}
use Rattle.image.proofs.Records.{vertices_start, roads_start, vans_start, tables_start, rows_start, rows_end, head_word, part_word_lem, vertex_word, road_word, van_word, shown_word}
use Rattle.records.specs.Cleared.{cleared}
use Rattle.records.specs.Agrees.{Agrees}
use Rattle.records.proofs.Agrees.{agrees_join, agrees_within, written_agrees, written_kept, stored_agrees, cleared_agrees, cleared_kept}
use Rattle.counts.specs.declared.Counts.{Counts}
use Rattle.places.specs.Place.{van_address}
use Rattle.opening_fresh.specs.Fresh.{fresh_vertex}
use Rattle.opening_fresh.proofs.Fresh.{fresh_slots, fresh_count, fresh_vertex_lem, fresh_row_lem, fresh_van}
use Rattle.opening_parts.specs.Parts.{PartsStand}
use Rattle.opening_rows.specs.Rows.{has_row, row_place}
use Rattle.opening_rows.proofs.Places.{rows_kept, place_row}
use Rattle.opening_sections.specs.Sections.{MapShown, NetStands, RowsDone, Sections}

-- the stores of `write_head`
pub head_stored : (mem p q : List ℕ) (used vertices roads parts start : ℕ) → p ≡ sets mem 0 (20481 ∷ used ∷ vertices ∷ roads ∷ parts ∷ start ∷ []) → q ≡ cleared p 6 58
    → q ≡ sets mem 0 (head_record used vertices roads parts start)
unfolding cleared
head_stored mem p q used vertices roads parts start e f =
    f ∙ ap (λ (l : List ℕ). sets l 6 (replicate 58 0)) e ∙ stored_join mem 0 (20481 ∷ used ∷ vertices ∷ roads ∷ parts ∷ start ∷ []) (replicate 58 0)

module _ (m : Map) (start : ℕ) where
  abbrev target : List ℕ
  target = image m (fresh_state start)

  head_is : head_record (need m) m.vertices (road_count m) (part_count m) start ≡ head_part m (fresh_state start)
  unfolding head_part
  head_is = ap (λ (k : ℕ). head_mark ∷ need m ∷ m.vertices ∷ road_count m ∷ part_count m ∷ k ∷ replicate 58 0) (sym (fresh_count start))

  head_agrees : (mem a : List ℕ) → a ≡ sets mem 0 (head_part m (fresh_state start)) → head_words ≤ length mem → Agrees target 0 head_words a
  head_agrees mem a e fits =
      let sized = head_length m (fresh_state start) in
      agrees_within target 0 (0 + length (head_part m (fresh_state start))) 0 head_words a (omega arith) (omega (arith, sized))
      (stored_agrees target mem a 0 (head_part m (fresh_state start)) e (omega (arith, sized)) (λ j h. ap (word target) (zero-add j) ∙ head_word m (fresh_state start) (fresh_slots start) j (omega (arith, sized))))

  parts_agree : (a b : List ℕ) → PartsStand m 0 a b → Agrees target 0 head_words a → Agrees target 0 (vertices_at m) b
  parts_agree a b w front =
      agrees_join target 0 head_words (vertices_at m) b
      (written_kept target parts_at words_in_part (part_count m) (part_record m) a b w 0 head_words (inl (omega arith)) front)
      (agrees_within target parts_at (vertices_from (part_count m)) parts_at (vertices_at m) b (omega arith) (omega (arith, vertices_start m))
      (written_agrees target parts_at words_in_part (part_count m) (part_record m) a b w (λ k i hk hi. part_word_lem m (fresh_state start) (fresh_slots start) k i hk hi)))

  net_agrees : (b c : List ℕ) → NetStands m b c → Agrees target 0 (vertices_at m) b → Agrees target 0 (vans_at m) c
  net_agrees b c net front =
      agrees_join target 0 (vertices_at m) (vans_at m) c
      (written_kept target (vertices_at m) 8 m.vertices (fresh_vertex m) net.between c net.vertices 0 (vertices_at m) (inl (omega arith))
      (written_kept target (roads_at m) 4 (road_count m) (road_record m) b net.between net.roads 0 (vertices_at m) (inl (omega (arith, roads_start m, vertices_start m))) front))
      (agrees_join target (vertices_at m) (roads_at m) (vans_at m) c
      (agrees_within target (vertices_at m) (vertices_at m + words_in_vertex * m.vertices) (vertices_at m) (roads_at m) c (omega arith) (omega (arith, roads_start m, vertices_start m))
      (written_agrees target (vertices_at m) 8 m.vertices (fresh_vertex m) net.between c net.vertices
      (λ k i hk hi. vertex_word m (fresh_state start) (fresh_slots start) k i hk hi ∙ ap (λ (l : List ℕ). word l i) (fresh_vertex_lem m start k))))
      (written_kept target (vertices_at m) 8 m.vertices (fresh_vertex m) net.between c net.vertices (roads_at m) (vans_at m) (inr (omega (arith, roads_start m, vertices_start m)))
      (agrees_within target (roads_at m) (roads_at m + words_in_road * road_count m) (roads_at m) (vans_at m) net.between (omega arith) (omega (arith, vans_start m))
      (written_agrees target (roads_at m) 4 (road_count m) (road_record m) b net.between net.roads (λ k i hk hi. road_word m (fresh_state start) (fresh_slots start) k i hk hi)))))

  -- no van is present
  van_none : (j : ℕ) → j < words_in_van * vans → word target (vans_at m + j) ≡ 0
  van_none j h =
      let found = in_record words_in_van vans j h in
      let place : vans_at m + j ≡ vans_at m + words_in_van * found.number + found.at = omega (arith, found.is_sum) in
      ap (word target) place
      ∙ van_word m (fresh_state start) (fresh_slots start) found.number found.at found.is_record_lem found.is_within
      ∙ ap (λ (l : List ℕ). word l found.at) (fresh_van m start found.number found.is_record_lem)
      ∙ get_or-replicate 8 found.at 0 0 found.is_within

  vans_agree : (c d : List ℕ) (n : ℕ) → n ≡ words_in_van * vans → d ≡ cleared c (vans_at m) n → tables_at m ≤ length c → Agrees target 0 (vans_at m) c → Agrees target 0 (tables_at m) d
  vans_agree c d n all e fits front =
      agrees_join target 0 (vans_at m) (tables_at m) d
      (cleared_kept target c d (vans_at m) n e 0 (vans_at m) (inl (omega arith)) front)
      (agrees_within target (vans_at m) (vans_at m + n) (vans_at m) (tables_at m) d (omega arith) (omega (arith, tables_start m, all))
      (cleared_agrees target c d (vans_at m) n e (omega (arith, tables_start m, all)) (λ j h. van_none j (omega (arith, all)))))

  -- the sections before the tables
  module _ (parents leaves body lifts sizes : List ℕ) (counts : Counts) (used : ℕ) (shown : MapShown m parents leaves body lifts sizes counts.vertices counts.roads counts.parts used) where
    pub front_stands : (mem a b c d : List ℕ) (at n : ℕ) → length mem ≡ used → a ≡ sets mem 0 (head_record used counts.vertices counts.roads counts.parts start) → PartsStand m 0 a b → NetStands m b c
        → at ≡ van_address counts 0 → n ≡ words_in_van * vans → d ≡ cleared c at n → Agrees target 0 (tables_at m) d
    front_stands mem a b c d at n long e w net place all f =
        vans_agree c d n all (f ∙ ap (λ (k : ℕ). cleared c k n) here) (omega (arith, same_length, shown.counted.need_is, rows_end m, rows_start m))
        (net_agrees b c net
        (parts_agree a b w (head_agrees mem a (e ∙ ap (sets mem 0) (same_head ∙ head_is)) (omega (arith, long, shown.counted.need_is, rows_end m, rows_start m, tables_start m)))))
      where
        here : at ≡ vans_at m
        here = omega (arith, place, vans_start m, roads_start m, shown.counted.part_count_lem, shown.counted.vertex_count_lem, shown.counted.road_count_lem)

        same_head : head_record used counts.vertices counts.roads counts.parts start ≡ head_record (need m) m.vertices (road_count m) (part_count m) start
        same_head = (λ i. head_record (shown.counted.need_is i) (shown.counted.vertex_count_lem i) (shown.counted.road_count_lem i) (shown.counted.part_count_lem i) start)

        same_length : length c ≡ used
        same_length =
            net.vertices.long ∙ net.roads.long ∙ w.long ∙ ap length e ∙ length-sets mem 0 (head_record used counts.vertices counts.roads counts.parts start) ∙ long

  -- the parts show where their rows begin
  pub first_row_stands : (d : List ℕ) → Agrees target 0 (tables_at m) d → (p : ℕ) → p < part_count m → part_word d p rows_in_part ≡ first_row_of m p
  unfolding part_record
  first_row_stands d front p h =
      front.at (part_at p + rows_in_part) (omega arith) (omega (arith, tables_start m, vans_start m, roads_start m)) ∙ part_word_lem m (fresh_state start) (fresh_slots start) p 2 h (omega arith)

  -- row i of part p
  row_stands : (d e : List ℕ) → RowsDone m d e → (p i w : ℕ) → p < part_count m → i < size_of m p → w < words_in_row → word e (first_row_of m p + words_in_row * i + w) ≡ word target (first_row_of m p + words_in_row * i + w)
  unfolding size_of row_at
  row_stands d e done p i w hp hi hw =
      ap (λ (k : ℕ). word e (k + w)) (sym place)
      ∙ done.rows.right p v w hp vertex has hw
      ∙ sym (shown_word m (fresh_state start) (fresh_slots start) p i w hp hi hw ∙ ap (λ (l : List ℕ). word l w) (fresh_row_lem m start p v))
    where
      v : ℕ
      v = row_vertex m p i

      in_rows : Memᴰ v (row_vertices m p)
      in_rows = entry_in (row_vertices m p) i 0 hi

      vertex : v < m.vertices
      vertex = row_vertex_lem m p v in_rows

      has : has_row m p v ≡ true
      has = (keep_says (has_row m p) (up_to m.vertices) v (subst (λ (l : List ℕ). Memᴰ v l) (rows_kept m p) in_rows)).1

      place : row_place m p v ≡ first_row_of m p + words_in_row * i
      place = sym (place_row m p v vertex has) ∙ ap (λ (k : ℕ). first_row_of m p + words_in_row * k) (place_of_entry (rows_unique m p) i hi)

  pub sections_stand : (d e : List ℕ) → length d ≡ need m → Agrees target 0 (tables_at m) d → RowsDone m d e → Sections m start e
  sections_stand d e long front done =
      record {
        long = done.rows.long ∙ long;
        front = record { at = λ a from to. done.rows.kept a (omega (arith, rows_start m)) ∙ front.at a from to };
        rows = row_stands d e done;
      }
