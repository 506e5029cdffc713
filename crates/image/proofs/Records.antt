-- The image word by word: what stands at each address, and that this is all.
-- Assumes nothing.
use mathlib.Core.Path.{◌≡◌, refl, ap, ap₂, sym, subst, ◌∙◌}
use mathlib.Core.List.{List, [], ◌∷◌, ◌++◌}
use Prim.Native.Nat.{ℕ, zero, suc, ◌+◌, ◌-◌, ◌*◌, ◌≤◌, ◌<◌}
use native.Mathlib.Nat.{zero-add, add-zero, mul-zero, mul-suc, mul_comm}
use native.Mathlib.Decide.{dec_lt}
use native.Mathlib.Omega.{arith}
use lib.ListN.{length, get_or, drop, length-append, get_or-append}
use lib.Seq.{get_or-append-add, ext_get_or}
use Rattle.words.specs.Limits.{head_words, vans}
use Rattle.words.specs.Lists.{up_to, word, place_in, link, gather}
use Rattle.words.proofs.Lists.{count_from_length, sum_same, gather_number}
use Rattle.words.proofs.Sums.{InRecord, in_record, InSum, in_sum}
use Rattle.words.proofs.Places.{entry_in, place_of_entry}
use Rattle.layout.specs.Layout.{words_in_part, words_in_vertex, words_in_road, words_in_van, words_in_row, part_at, vertices_from, roads_from}
use Rattle.roads.specs.Map.{Road, Map, part_count, road_count, no_road}
use Rattle.roads.specs.Dist.{dist}
use Rattle.parts.specs.Size.{row_vertices, size_of, table_words_below, table_words, rows_below, row_count, need}
use Rattle.parts.proofs.Rows.{rows_unique}
use Rattle.rows.specs.Row.{row_of}
use Rattle.fleet.specs.State.{Slot, absent, State, active}
use Rattle.image.specs.Places.{vertices_at, roads_at, vans_at, tables_at, rows_at, table_of, first_row_of, distance_at, row_at}
use Rattle.image.specs.Image.{head_part, part_record, ends_at, vertex_record, road_records, van_record, next_van, van_records, table_record, row_record, part_below, row_below, row_records, before_tables, image}
use Rattle.image.specs.Records.{row_vertex, road_record, van_words}
use Rattle.image.proofs.Length.{roads_length, head_length, parts_length, vertices_length, image_length, van_length}
use Rattle.image.proofs.Words.{before_length, distance_word, row_word_lem}

-- word w of record x, where records of `size` words stand for the numbers below n
record_word : (f : ℕ → List ℕ) (size : ℕ) (sized : (x : ℕ) → length (f x) ≡ size) (n x w : ℕ) → x < n → w < size
    → (size * x + w < length (gather f (up_to n))) × (word (gather f (up_to n)) (size * x + w) ≡ word (f x) w)
record_word f size sized n x w hx hw =
    subst (λ (k : ℕ). (k + w < length (gather f (up_to n))) × (word (gather f (up_to n)) (k + w) ≡ word (f x) w))
    (sum_same size (up_to x) ∙ ap (λ (k : ℕ). size * k) (count_from_length 0 x))
    (gather_number f (λ y. size) sized n x w hx hw)

-- word w of record k, where records of n words stand one after the other, each made of an entry, its number and the entries after it
module _ {A : Type 0} (n : ℕ) (one : ℕ → A → List A → List ℕ) (every : ℕ → List A → List ℕ) (next : (i : ℕ) (x : A) (xs : List A) → every i (x ∷ xs) ≡ one i x xs ++ every (suc i) xs)
    (sized : (i : ℕ) (x : A) (xs : List A) → length (one i x xs) ≡ n) (d : A) where
  laid_word : (i : ℕ) (xs : List A) (k w : ℕ) → k < length xs → w < n → word (every i xs) (n * k + w) ≡ word (one (i + k) (get_or xs k d) (drop (suc k) xs)) w
  laid_word i [] k w h hw = absurd (omega arith)
  laid_word i (x ∷ xs) zero w h hw =
      let start : n * 0 + w ≡ w = omega (arith, mul-zero n) in
      ap₂ word (next i x xs) start
      ∙ get_or-append (one i x xs) (every (suc i) xs) 0 w (omega (arith, sized i x xs))
      ∙ ap (λ (j : ℕ). word (one j x xs) w) (sym (add-zero i))
  laid_word i (x ∷ xs) (suc k) w h hw =
      let after : n * suc k + w ≡ length (one i x xs) + (n * k + w) = omega (arith, mul-suc n k, sized i x xs) in
      let over : suc i + k ≡ i + suc k = omega arith in
      ap₂ word (next i x xs) after
      ∙ get_or-append-add (one i x xs) (every (suc i) xs) (n * k + w) 0
      ∙ laid_word (suc i) xs k w (omega arith) hw
      ∙ ap (λ (j : ℕ). word (one j (get_or xs k d) (drop (suc k) xs)) w) over

-- word w of road r, in roads of which the first has number i
roads_word : (i : ℕ) (rs : List Road) (r w : ℕ) → r < length rs → w < words_in_road
    → word (road_records i rs) (words_in_road * r + w)
    ≡ word ((get_or rs r no_road).from ∷ (get_or rs r no_road).to ∷ (get_or rs r no_road).weight ∷ link (ends_at (get_or rs r no_road).to) (suc (i + r)) (drop (suc r) rs) ∷ []) w
unfolding road_records
roads_word = laid_word words_in_road (λ i x rest. x.from ∷ x.to ∷ x.weight ∷ link (ends_at x.to) (suc i) rest ∷ []) road_records (λ i x rest. refl) (λ i x rest. refl) no_road

-- word w of van k, in slots of which the first is that of van i
vans_word : (m : Map) (i : ℕ) (slots : List Slot) (k w : ℕ) → k < length slots → w < words_in_van
    → word (van_records m i slots) (words_in_van * k + w) ≡ word (van_record (get_or slots k absent) (next_van m (get_or slots k absent) (suc (i + k)) (drop (suc k) slots))) w
unfolding van_records
vans_word m = laid_word words_in_van (λ i x rest. van_record x (next_van m x (suc i) rest)) (van_records m) (λ i x rest. refl) (λ i x rest. van_length x (next_van m x (suc i) rest)) absent

-- The sections, one after the other.
module _ (m : Map) where
  pub vertices_start : vertices_at m ≡ vertices_from (part_count m)
  unfolding vertices_at
  vertices_start = refl

  pub roads_start : roads_at m ≡ roads_from (part_count m) m.vertices
  unfolding roads_at
  roads_start = refl

  pub vans_start : vans_at m ≡ roads_at m + words_in_road * road_count m
  unfolding vans_at roads_at
  vans_start = refl

  pub tables_start : tables_at m ≡ vans_at m + words_in_van * vans
  unfolding tables_at vans_at
  tables_start = refl

  pub rows_start : rows_at m ≡ tables_at m + table_words m
  unfolding rows_at
  rows_start = refl

  pub rows_end : rows_at m + words_in_row * row_count m ≡ need m
  unfolding rows_at tables_at vans_at roads_at vertices_at need
  rows_end = omega arith

module _ (m : Map) (s : State) (slots : length s.vans ≡ vans) where
  -- what stands before the vertices, the roads, the vans, the tables
  to_vertices : List ℕ
  to_vertices = head_part m s ++ gather (part_record m) (up_to (part_count m))

  to_roads : List ℕ
  to_roads = to_vertices ++ gather (vertex_record m s) (up_to m.vertices)

  to_vans : List ℕ
  to_vans = to_roads ++ road_records 0 m.roads

  to_rows : List ℕ
  to_rows = (before_tables m s) ++ gather (table_record m) (up_to (part_count m))

  to_vertices_length : length to_vertices ≡ vertices_at m
  unfolding to_vertices
  to_vertices_length = omega (arith, length-append (head_part m s) (gather (part_record m) (up_to (part_count m))), head_length m s, parts_length m, vertices_start m)

  to_roads_length : length to_roads ≡ roads_at m
  unfolding to_roads
  to_roads_length = omega (arith, length-append to_vertices (gather (vertex_record m s) (up_to m.vertices)), to_vertices_length, vertices_length m s, vertices_start m, roads_start m)

  to_vans_length : length to_vans ≡ vans_at m
  unfolding to_vans
  to_vans_length = omega (arith, length-append to_roads (road_records 0 m.roads), to_roads_length, roads_length 0 m.roads, vans_start m)

  -- a word before the rows, before the tables, .. is read there
  from_rows : (i : ℕ) → i < length to_rows → word (image m s) i ≡ word to_rows i
  unfolding image to_rows before_tables to_vans to_roads to_vertices
  from_rows i h = get_or-append to_rows (gather (row_records m s) (up_to (part_count m))) 0 i h

  from_tables : (i : ℕ) → i < tables_at m → word (image m s) i ≡ word (before_tables m s) i
  unfolding to_rows
  from_tables i h =
      let tables : List ℕ = gather (table_record m) (up_to (part_count m)) in
      from_rows i (omega (arith, length-append (before_tables m s) tables, before_length m s slots)) ∙ get_or-append (before_tables m s) tables 0 i (omega (arith, before_length m s slots))

  from_vans : (i : ℕ) → i < vans_at m → word (image m s) i ≡ word to_vans i
  unfolding before_tables to_vans to_roads to_vertices
  from_vans i h = from_tables i (omega (arith, tables_start m)) ∙ get_or-append to_vans (van_records m 0 s.vans) 0 i (omega (arith, to_vans_length))

  from_roads : (i : ℕ) → i < roads_at m → word (image m s) i ≡ word to_roads i
  unfolding to_vans
  from_roads i h = from_vans i (omega (arith, vans_start m)) ∙ get_or-append to_roads (road_records 0 m.roads) 0 i (omega (arith, to_roads_length))

  from_vertices : (i : ℕ) → i < vertices_at m → word (image m s) i ≡ word to_vertices i
  unfolding to_roads
  from_vertices i h =
      from_roads i (omega (arith, vertices_start m, roads_start m)) ∙ get_or-append to_vertices (gather (vertex_record m s) (up_to m.vertices)) 0 i (omega (arith, to_vertices_length))

  pub head_word : (i : ℕ) → i < head_words → word (image m s) i ≡ word (head_part m s) i
  unfolding to_vertices
  head_word i h =
      from_vertices i (omega (arith, vertices_start m)) ∙ get_or-append (head_part m s) (gather (part_record m) (up_to (part_count m))) 0 i (omega (arith, head_length m s))

  pub part_word_lem : (p w : ℕ) → p < part_count m → w < words_in_part → word (image m s) (part_at p + w) ≡ word (part_record m p) w
  unfolding to_vertices part_record
  part_word_lem p w hp hw =
      let found = record_word (part_record m) words_in_part (λ x. sized x) (part_count m) p w hp hw in
      from_vertices (part_at p + w) (omega (arith, vertices_start m))
      ∙ ap (word to_vertices) (at (head_length m s))
      ∙ get_or-append-add (head_part m s) (gather (part_record m) (up_to (part_count m))) (words_in_part * p + w) 0
      ∙ found.1
    where
      sized : (x : ℕ) → length (part_record m x) ≡ words_in_part
      sized x = refl

      at : length (head_part m s) ≡ head_words → part_at p + w ≡ length (head_part m s) + (words_in_part * p + w)
      at e = omega arith

  pub vertex_word : (v w : ℕ) → v < m.vertices → w < words_in_vertex → word (image m s) (vertices_at m + words_in_vertex * v + w) ≡ word (vertex_record m s v) w
  unfolding to_roads vertex_record
  vertex_word v w hv hw =
      let found = record_word (vertex_record m s) words_in_vertex (λ x. sized x) m.vertices v w hv hw in
      from_roads (vertices_at m + words_in_vertex * v + w) (omega (arith, vertices_start m, roads_start m))
      ∙ ap (word to_roads) (at to_vertices_length)
      ∙ get_or-append-add to_vertices (gather (vertex_record m s) (up_to m.vertices)) (words_in_vertex * v + w) 0
      ∙ found.1
    where
      sized : (x : ℕ) → length (vertex_record m s x) ≡ words_in_vertex
      sized x = refl

      at : length to_vertices ≡ vertices_at m → vertices_at m + words_in_vertex * v + w ≡ length to_vertices + (words_in_vertex * v + w)
      at e = omega arith

  pub road_word : (r w : ℕ) → r < road_count m → w < words_in_road → word (image m s) (roads_at m + words_in_road * r + w) ≡ word (road_record m r) w
  unfolding to_vans road_record
  road_word r w hr hw =
      from_vans (roads_at m + words_in_road * r + w) (omega (arith, vans_start m))
      ∙ ap (word to_vans) (at to_roads_length)
      ∙ get_or-append-add to_roads (road_records 0 m.roads) (words_in_road * r + w) 0
      ∙ roads_word 0 m.roads r w hr hw
      ∙ ap (λ (k : ℕ). word ((get_or m.roads r no_road).from ∷ (get_or m.roads r no_road).to ∷ (get_or m.roads r no_road).weight ∷ link (ends_at (get_or m.roads r no_road).to) (suc k) (drop (suc r) m.roads) ∷ []) w) (zero-add r)
    where
      at : length to_roads ≡ roads_at m → roads_at m + words_in_road * r + w ≡ length to_roads + (words_in_road * r + w)
      at e = omega arith

  pub van_word : (i w : ℕ) → i < vans → w < words_in_van → word (image m s) (vans_at m + words_in_van * i + w) ≡ word (van_words m s i) w
  unfolding before_tables van_words to_vans to_roads to_vertices
  van_word i w hi hw =
      from_tables (vans_at m + words_in_van * i + w) (omega (arith, tables_start m))
      ∙ ap (word (before_tables m s)) (at to_vans_length)
      ∙ get_or-append-add to_vans (van_records m 0 s.vans) (words_in_van * i + w) 0
      ∙ vans_word m 0 s.vans i w (omega (arith, slots)) hw
      ∙ ap (λ (n : ℕ). word (van_record (get_or s.vans i absent) (next_van m (get_or s.vans i absent) (suc n) (drop (suc i) s.vans))) w) (zero-add i)
    where
      at : length to_vans ≡ vans_at m → vans_at m + words_in_van * i + w ≡ length to_vans + (words_in_van * i + w)
      at e = omega arith

  -- the place of row i's vertex is i
  place_of : (p i : ℕ) → i < size_of m p → place_in (row_vertex m p i) (row_vertices m p) ≡ i
  unfolding size_of
  place_of p i hi = place_of_entry (rows_unique m p) i hi

  pub table_word : (p i j : ℕ) → p < part_count m → i < size_of m p → j < size_of m p
      → word (image m s) (table_of m p + (size_of m p * i + j)) ≡ dist m (row_vertex m p i) (row_vertex m p j)
  unfolding distance_at size_of
  table_word p i j hp hi hj =
      ap (word (image m s)) (at (place_of p i hi) (place_of p j hj))
      ∙ (distance_word m s slots p hp (row_vertex m p i) (row_vertex m p j) (entry_in (row_vertices m p) i 0 hi) (entry_in (row_vertices m p) j 0 hj)).1
    where
      at : {a b : ℕ} → a ≡ i → b ≡ j → table_of m p + (size_of m p * i + j) ≡ table_of m p + a * size_of m p + b
      at {a} {b} e f = omega (arith, ap (λ (k : ℕ). k * size_of m p) e, mul_comm i (size_of m p))

  pub shown_word : (p i w : ℕ) → p < part_count m → i < size_of m p → w < words_in_row
      → word (image m s) (first_row_of m p + words_in_row * i + w)
      ≡ word (row_record (row_of m (active m s) p (row_vertex m p i)) (row_vertex m p i) (part_below m p (row_vertex m p i)) (row_below m p (row_vertex m p i))) w
  unfolding row_at size_of
  shown_word p i w hp hi hw =
      ap (λ (k : ℕ). word (image m s) (first_row_of m p + words_in_row * k + w)) (sym (place_of p i hi)) ∙ (row_word_lem m s slots p hp (row_vertex m p i) (entry_in (row_vertices m p) i 0 hi) w hw).1

-- Every address below the need is in one section.
pub data Address (m : Map) (a : ℕ) : Type 0 where
  in_head : a < head_words → Address m a
  in_parts : (p w : ℕ) → p < part_count m → w < words_in_part → a ≡ part_at p + w → Address m a
  in_vertices : (v w : ℕ) → v < m.vertices → w < words_in_vertex → a ≡ vertices_at m + words_in_vertex * v + w → Address m a
  in_roads : (r w : ℕ) → r < road_count m → w < words_in_road → a ≡ roads_at m + words_in_road * r + w → Address m a
  in_vans : (i w : ℕ) → i < vans → w < words_in_van → a ≡ vans_at m + words_in_van * i + w → Address m a
  in_tables : (p i j : ℕ) → p < part_count m → i < size_of m p → j < size_of m p → a ≡ table_of m p + (size_of m p * i + j) → Address m a
  in_rows : (p i w : ℕ) → p < part_count m → i < size_of m p → w < words_in_row → a ≡ first_row_of m p + words_in_row * i + w → Address m a

module _ (m : Map) (a : ℕ) where
  table_address : tables_at m ≤ a → a < rows_at m → Address m a
  unfolding table_words table_of table_words_below
  table_address low high =
      let o : ℕ = a - tables_at m in
      let t : InSum (λ q. size_of m q * size_of m q) (part_count m) o = in_sum (λ q. size_of m q * size_of m q) (part_count m) o (omega (arith, rows_start m)) in
      let e : InRecord (size_of m t.part) (size_of m t.part) t.at = in_record (size_of m t.part) (size_of m t.part) t.at t.is_within in
      in_tables t.part e.number e.at t.is_part e.is_record_lem e.is_within (omega (arith, t.is_sum, e.is_sum))

  row_address : rows_at m ≤ a → a < need m → Address m a
  unfolding row_count first_row_of rows_below
  row_address low high =
      let n : InRecord words_in_row (row_count m) (a - rows_at m) = in_record words_in_row (row_count m) (a - rows_at m) (omega (arith, rows_end m)) in
      let t : InSum (size_of m) (part_count m) n.number = in_sum (size_of m) (part_count m) n.number n.is_record_lem in
      in_rows t.part t.at n.at t.is_part t.is_within n.is_within (omega (arith, n.is_sum, t.is_sum))

  pub address : a < need m → Address m a
  address high = by₁ (dec_lt a head_words) (dec_lt a (vertices_at m)) (dec_lt a (roads_at m)) (dec_lt a (vans_at m)) (dec_lt a (tables_at m)) (dec_lt a (rows_at m))
    where
      record_at : (n start count : ℕ) → start ≤ a → a < start + n * count → InRecord n count (a - start)
      record_at n start count low below = in_record n count (a - start) (omega arith)

      by₁ : Dec (a < head_words) → Dec (a < vertices_at m) → Dec (a < roads_at m) → Dec (a < vans_at m) → Dec (a < tables_at m) → Dec (a < rows_at m) → Address m a
      by₁ (yes h) v r n t w = in_head h
      by₁ (no l) (yes h) r n t w =
          let e : InRecord words_in_part (part_count m) (a - head_words) = record_at words_in_part head_words (part_count m) (omega (arith, l)) (omega (arith, vertices_start m)) in
          in_parts e.number e.at e.is_record_lem e.is_within (omega (arith, e.is_sum, l))
      by₁ (no l) (no k) (yes h) n t w =
          let e : InRecord words_in_vertex m.vertices (a - vertices_at m) = record_at words_in_vertex (vertices_at m) m.vertices (omega (arith, k)) (omega (arith, vertices_start m, roads_start m)) in
          in_vertices e.number e.at e.is_record_lem e.is_within (omega (arith, e.is_sum, k))
      by₁ (no l) (no k) (no j) (yes h) t w =
          let e : InRecord words_in_road (road_count m) (a - roads_at m) = record_at words_in_road (roads_at m) (road_count m) (omega (arith, j)) (omega (arith, vans_start m)) in
          in_roads e.number e.at e.is_record_lem e.is_within (omega (arith, e.is_sum, j))
      by₁ (no l) (no k) (no j) (no i) (yes h) w =
          let e : InRecord words_in_van vans (a - vans_at m) = record_at words_in_van (vans_at m) vans (omega (arith, i)) (omega (arith, tables_start m)) in
          in_vans e.number e.at e.is_record_lem e.is_within (omega (arith, e.is_sum, i))
      by₁ (no l) (no k) (no j) (no i) (no g) (yes h) = table_address (omega (arith, g)) h
      by₁ (no l) (no k) (no j) (no i) (no g) (no f) = row_address (omega (arith, f)) high

-- So a memory of as many words as the need that agrees with the image at each of them is the image.
pub image_by_words : (m : Map) (s : State) → length s.vans ≡ vans → (mem : List ℕ) → length mem ≡ need m → ((a : ℕ) → Address m a → word mem a ≡ word (image m s) a) → mem ≡ image m s
image_by_words m s slots mem long same = ext_get_or 0 mem (image m s) (long ∙ sym (image_length m s slots)) (λ a h. same a (address m a (omega (arith, long))))
