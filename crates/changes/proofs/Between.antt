-- A memory with the vans and lists of another fleet, all else as it was: it has the rows of the first fleet, and all else of the second.
-- Assumes nothing.
use mathlib.Core.Path.{◌≡◌, refl, sym, ap, ◌∙◌}
use mathlib.Core.List.{List}
use Prim.Native.Nat.{ℕ, zero, suc, ◌+◌, ◌*◌, ◌≤◌, ◌<◌}
use native.Mathlib.Omega.{arith}
use lib.ListN.{length, set, length-set}
use lib.Seq.{get_or-set_same, get_or-set_other}
use native.Mathlib.Decide.{ℕ_discrete}
use Rattle.words.specs.Limits.{vans, head_words}
use Rattle.words.specs.Lists.{word}
use Rattle.layout.specs.Layout.{count_in_head, words_in_vertex, vans_in_vertex, words_in_van}
use Rattle.roads.specs.Map.{Map}
use Rattle.places.specs.Place.{vertex_address, van_address}
use Rattle.fleet.specs.State.{Slot, absent, present, State, active, slot_of}
use Rattle.image.specs.Places.{vertices_at, vans_at, tables_at, rows_at, itself_at, table_of, first_row_of}
use Rattle.image.specs.Image.{head_part, vertex_record, image}
use Rattle.image.proofs.Length.{image_length}
use Rattle.image.proofs.Records.{vertices_start, roads_start, vans_start, tables_start, rows_start, rows_end, head_word, part_word_lem, vertex_word, road_word, van_word, table_word, shown_word, Address, in_head, in_parts, in_vertices, in_roads, in_vans, in_tables, in_rows, address, image_by_words}
use Rattle.van_lists.proofs.Links.{link_from, slot_words, van_record_lem}
use Rattle.van_lists.proofs.Parked.{Parked, field, OnlyVans}
use Rattle.road_lookup.proofs.Shown.{counts_of, vertex_place}
use Rattle.row_memory.specs.Old.{RowsOld}
use Rattle.changes.proofs.Reading.{van_place, vans_end, tables_within}

abbrev pub with_count : State → ℕ → State
with_count s count = record { count = count; vans = s.vans }

module _ (m : Map) (s t : State) (slots : length s.vans ≡ vans) (slots' : length t.vans ≡ vans) (same_count : s.count ≡ t.count)
    (after : List ℕ) (parked : Parked m (counts_of m) t after) (only : OnlyVans (counts_of m) (image m s) after) where
  before_vans : (a : ℕ) → a < vans_at m → ((v : ℕ) → v < m.vertices → a ≡ vertex_address (counts_of m) v + vans_in_vertex → ⊥) → word after a ≡ word (image m s) a
  before_vans a early no-first = only.other a no-first (λ x f hx hf e. omega (arith, roads_start m, vans_start m))

  past_vans : (a : ℕ) → tables_at m ≤ a → word after a ≡ word (image m s) a
  past_vans a past =
      only.other a (λ v hv e. omega (arith, vertices_start m, roads_start m, vans_start m, tables_start m)) (λ x f hx hf e. omega (arith, vans_end m))

  head_same : (a : ℕ) → a < head_words → word (image m s) a ≡ word (image m t) a
  unfolding head_part
  head_same a h = head_word m s slots a h ∙ ap (λ (c : ℕ). word (head_part m (record { count = c; vans = s.vans })) a) same_count ∙ sym (head_word m t slots' a h)

  -- a vertex's word, but for the list's first van and what the vertex shows of itself
  vertex_same : (v w : ℕ) → v < m.vertices → w < 8 → (w ≡ 4 → ⊥) → (w ≡ 5 → ⊥) → (w ≡ 6 → ⊥) → word (vertex_record m s v) w ≡ word (vertex_record m t v) w
  unfolding vertex_record
  vertex_same v zero hv hw no4 no5 no6 = refl
  vertex_same v (suc zero) hv hw no4 no5 no6 = refl
  vertex_same v (suc (suc zero)) hv hw no4 no5 no6 = refl
  vertex_same v (suc (suc (suc zero))) hv hw no4 no5 no6 = refl
  vertex_same v (suc (suc (suc (suc zero)))) hv hw no4 no5 no6 = absurd (no4 refl)
  vertex_same v (suc (suc (suc (suc (suc zero))))) hv hw no4 no5 no6 = absurd (no5 refl)
  vertex_same v (suc (suc (suc (suc (suc (suc zero)))))) hv hw no4 no5 no6 = absurd (no6 refl)
  vertex_same v (suc (suc (suc (suc (suc (suc (suc zero))))))) hv hw no4 no5 no6 = refl
  vertex_same v (suc (suc (suc (suc (suc (suc (suc (suc w)))))))) hv hw no4 no5 no6 = absurd (omega arith)

  in_vertex : (v w : ℕ) → v < m.vertices → w < 8 → (w ≡ 5 → ⊥) → (w ≡ 6 → ⊥) → word after (vertices_at m + words_in_vertex * v + w) ≡ word (image m t) (vertices_at m + words_in_vertex * v + w)
  unfolding vertex_record link_from
  in_vertex v w hv hw no5 no6 =
      elim (ℕ_discrete w 4) [
        | yes here ↦ rw here (ap (word after) (sym (vertex_place m v 4)) ∙ parked.first v hv ∙ sym (vertex_word m t slots' v 4 hv (omega arith)))
        | no other ↦
            before_vans (vertices_at m + words_in_vertex * v + w) (omega (arith, vertices_start m, roads_start m, vans_start m)) (λ u hu e. omega (arith, vertices_start m))
            ∙ vertex_word m s slots v w hv hw
            ∙ vertex_same v w hv hw other no5 no6
            ∙ sym (vertex_word m t slots' v w hv hw)
      ]

  in_van : (x w : ℕ) → x < vans → w < 8 → word after (vans_at m + words_in_van * x + w) ≡ word (image m t) (vans_at m + words_in_van * x + w)
  in_van x w hx hw =
      ap (word after) (sym (van_place m x w))
      ∙ field after (van_address (counts_of m) x) words_in_van (slot_words m t x (slot_of t x)) w hw (parked.van x hx)
      ∙ ap (λ (l : List ℕ). word l w) (sym (van_record_lem m t x))
      ∙ sym (van_word m t slots' x w hx hw)

  others : (a : ℕ) → a < rows_at m → ((v w : ℕ) → v < m.vertices → w < 2 → a ≡ itself_at m v + w → ⊥) → Address m a → word after a ≡ word (image m t) a
  unfolding itself_at first_row_of table_of
  others a early not_itself (in_head h) =
      before_vans a (omega (arith, roads_start m, vans_start m)) (λ u hu e. omega arith) ∙ head_same a h
  others a early not_itself (in_parts p w hp hw e) =
      before_vans a (omega (arith, roads_start m, vans_start m)) (λ u hu same. omega arith)
      ∙ ap (word (image m s)) e
      ∙ part_word_lem m s slots p w hp hw
      ∙ sym (ap (word (image m t)) e ∙ part_word_lem m t slots' p w hp hw)
  others a early not_itself (in_vertices v w hv hw e) =
      ap (word after) e ∙ in_vertex v w hv hw (λ five. not_itself v 0 hv (omega arith) (omega arith)) (λ six. not_itself v 1 hv (omega arith) (omega arith)) ∙ sym (ap (word (image m t)) e)
  others a early not_itself (in_roads r w hr hw e) =
      before_vans a (omega (arith, vans_start m)) (λ u hu same. omega (arith, roads_start m))
      ∙ ap (word (image m s)) e
      ∙ road_word m s slots r w hr hw
      ∙ sym (ap (word (image m t)) e ∙ road_word m t slots' r w hr hw)
  others a early not_itself (in_vans x w hx hw e) = ap (word after) e ∙ in_van x w hx hw ∙ sym (ap (word (image m t)) e)
  others a early not_itself (in_tables p i j hp hi hj e) =
      past_vans a (omega arith)
      ∙ ap (word (image m s)) e
      ∙ table_word m s slots p i j hp hi hj
      ∙ sym (ap (word (image m t)) e ∙ table_word m t slots' p i j hp hi hj)
  others a early not_itself (in_rows p i w hp hi hw e) = absurd (omega arith)

  pub rows_old : RowsOld m s t after
  unfolding itself_at
  rows_old =
      record {
        long = only.long ∙ image_length m s slots;
        rows = λ a h. past_vans a (omega (arith, rows_start m));
        itself = λ v w hv hw. before_vans (itself_at m v + w) (omega (arith, vertices_start m, roads_start m, vans_start m)) (λ u hu e. omega (arith, vertices_start m));
        others = λ a h not_itself. others a h not_itself (address m a (omega (arith, rows_end m)));
      }

-- the change count is word 5 of the head, and nothing else depends on it
module _ (m : Map) (s : State) (slots : length s.vans ≡ vans) (c : ℕ) where
  count_same : (a : ℕ) → (a ≡ 5 → ⊥) → Address m a → word (image m s) a ≡ word (image m (with_count s c)) a
  unfolding head_part vertex_record active link_from
  count_same a other (in_head h) = head_word m s slots a h ∙ by a h other ∙ sym (head_word m (with_count s c) slots a h)
    where
      by : (b : ℕ) → b < head_words → (b ≡ count_in_head → ⊥) → word (head_part m s) b ≡ word (head_part m (with_count s c)) b
      by zero h not5 = refl
      by (suc zero) h not5 = refl
      by (suc (suc zero)) h not5 = refl
      by (suc (suc (suc zero))) h not5 = refl
      by (suc (suc (suc (suc zero)))) h not5 = refl
      by (suc (suc (suc (suc (suc zero))))) h not5 = absurd (not5 refl)
      by (suc (suc (suc (suc (suc (suc b)))))) h not5 = refl
  count_same a other (in_parts p w hp hw e) = ap (word (image m s)) e ∙ part_word_lem m s slots p w hp hw ∙ sym (ap (word (image m (with_count s c))) e ∙ part_word_lem m (with_count s c) slots p w hp hw)
  count_same a other (in_vertices v w hv hw e) =
      ap (word (image m s)) e ∙ vertex_word m s slots v w hv hw ∙ sym (ap (word (image m (with_count s c))) e ∙ vertex_word m (with_count s c) slots v w hv hw)
  count_same a other (in_roads r w hr hw e) = ap (word (image m s)) e ∙ road_word m s slots r w hr hw ∙ sym (ap (word (image m (with_count s c))) e ∙ road_word m (with_count s c) slots r w hr hw)
  count_same a other (in_vans x w hx hw e) =
      ap (word (image m s)) e
      ∙ van_word m s slots x w hx hw
      ∙ ap (λ (l : List ℕ). word l w) (van_record_lem m s x ∙ again (slot_of s x) ∙ sym (van_record_lem m (with_count s c) x))
      ∙ sym (ap (word (image m (with_count s c))) e ∙ van_word m (with_count s c) slots x w hx hw)
    where
      again : (slot : Slot) → slot_words m s x slot ≡ slot_words m (with_count s c) x slot
      again absent = refl
      again (present v) = refl
  count_same a other (in_tables p i j hp hi hj e) = ap (word (image m s)) e ∙ table_word m s slots p i j hp hi hj ∙ sym (ap (word (image m (with_count s c))) e ∙ table_word m (with_count s c) slots p i j hp hi hj)
  count_same a other (in_rows p i w hp hi hw e) = ap (word (image m s)) e ∙ shown_word m s slots p i w hp hi hw ∙ sym (ap (word (image m (with_count s c))) e ∙ shown_word m (with_count s c) slots p i w hp hi hw)

  pub count_image : set (image m s) 5 c ≡ image m (with_count s c)
  unfolding head_part
  count_image =
      image_by_words m (with_count s c) slots (set (image m s) 5 c) (length-set (image m s) 5 c ∙ image_length m s slots)
      (λ a at.
      elim (ℕ_discrete a 5) [
        | yes here ↦ rw here (get_or-set_same (image m s) 5 c 0 (omega (arith, image_length m s slots, roads_start m, vans_start m, tables_start m, tables_within m)) ∙ sym (head_word m (with_count s c) slots 5 (omega arith)))
        | no other ↦ get_or-set_other (image m s) 5 a c 0 other ∙ count_same a other at
      ])
