-- A memory with the rows of one fleet and all else of another becomes the image of the second, when one vertex became active or inactive between them.
-- Assumes nothing.
use mathlib.Core.Path.{◌≡◌, refl, sym, ◌∙◌, ap}
use mathlib.Core.Logic.{◌⊎◌, inl, inr, ⊎_elim, ◌≢◌}
use mathlib.Core.Bool.{Bool, cond}
use mathlib.Core.List.{List}
use Prim.Native.Nat.{ℕ, zero, suc, ◌+◌, ◌-◌, ◌*◌, ◌≤◌, ◌<◌}
use native.Mathlib.Nat.{add-zero}
use native.Mathlib.Decide.{ℕ_discrete, dec_lt}
use native.Mathlib.Omega.{arith}
use lib.ListN.{length}
use Rattle.words.specs.Limits.{vans}
use Rattle.words.specs.Lists.{word}
use Rattle.words.proofs.Sums.{InRecord, in_record}
use Rattle.layout.specs.Layout.{parts_in_head, size_in_part, rows_in_part, table_in_part, words_in_vertex, itself_in_vertex, words_in_row, vertex_in_row, distance_in_row, below_in_row, vertices_from, part_at}
use Rattle.roads.specs.Map.{Map, part_count}
use Rattle.parts.specs.Tree.{leaf_of}
use Rattle.parts.specs.Size.{size_of, need}
use Rattle.parts.proofs.Tree.{holds_says}
use Rattle.maps.specs.Sound.{Sound}
use Rattle.maps.proofs.Distances.{sound_net, sound_tree, few_rows}
use Rattle.rows.specs.declared.Row.{Row}
use Rattle.rows.specs.Row.{empty_row, itself, row_of}
use Rattle.rows.proofs.Elsewhere.{row_elsewhere}
use Rattle.fleet.specs.State.{State, active}
use Rattle.image.specs.Places.{vertices_at, roads_at, rows_at, itself_at, table_of, first_row_of}
use Rattle.image.specs.Image.{head_part, part_record, vertex_record, image}
use Rattle.image.specs.Records.{row_vertex}
use Rattle.image.proofs.Length.{image_length}
use Rattle.image.proofs.Records.{vertices_start, roads_start, vans_start, tables_start, rows_start, rows_end, head_word, part_word_lem, vertex_word, table_word, shown_word, Address, in_head, in_parts, in_vertices, in_roads, in_vans, in_tables, in_rows, image_by_words}
use Rattle.row_changes.specs.Switch.{Switched}
use Rattle.row_words.specs.Words.{row_in, shown}
use Rattle.row_refresh.specs.Model.{refreshed_up, vertex_at, own_row, switched}
use Rattle.row_memory.specs.Old.{RowsOld}
use Rattle.row_memory.specs.Laid.{Few, LaidForRows, RowsShow}
use Rattle.row_memory.specs.Refreshed.{Refreshed}
use Rattle.row_memory.proofs.Apart.{rows_first, table_before, part_before, itself_before, early, beside}
use Rattle.row_memory.proofs.Offered.{shown_row, shown_others, shown_length}
use Rattle.row_memory.proofs.Up.{refreshed_up_lem}

-- a sound map has few vertices, and few rows in each part
few : (m : Map) → Sound m → Few m
few m sound = record { vertices = sound.vertices.1; rows = few_rows m sound }

-- The image shows what it must.
module _ (m : Map) (s : State) (slots : length s.vans ≡ vans) where
  image_own : (u : ℕ) → u < m.vertices → row_in (image m s) (itself_at m u) ≡ itself (active m s) u
  unfolding itself_at vertex_record
  image_own u hu =
      let a : word (image m s) (vertices_at m + words_in_vertex * u + itself_in_vertex) ≡ (itself (active m s) u).vertex = vertex_word m s slots u itself_in_vertex hu (omega arith) in
      let b : word (image m s) (vertices_at m + words_in_vertex * u + itself_in_vertex + 1) ≡ (itself (active m s) u).distance = ap (word (image m s)) (six (vertices_at m + words_in_vertex * u)) ∙ vertex_word m s slots u 6 hu (omega arith) in
      λ t. record { vertex = a t; distance = b t }
    where
      six : (k : ℕ) → k + 5 + 1 ≡ k + 6
      six k = omega arith

  image_rows : (p : ℕ) → p < part_count m → RowsShow m (active m s) (image m s) p
  image_rows p hp j hj =
      let a : word (image m s) (first_row_of m p + words_in_row * j) ≡ (row_of m (active m s) p (row_vertex m p j)).vertex =
      ap (word (image m s)) (sym (add-zero (first_row_of m p + words_in_row * j))) ∙ shown_word m s slots p j vertex_in_row hp hj (omega arith)
      in
      let b : word (image m s) (first_row_of m p + words_in_row * j + distance_in_row) ≡ (row_of m (active m s) p (row_vertex m p j)).distance = shown_word m s slots p j distance_in_row hp hj (omega arith) in
      λ t. record { vertex = a t; distance = b t }

  image_laid : LaidForRows m (active m s) (image m s)
  unfolding part_record
  image_laid =
      record {
        parent = λ p hp. ap (word (image m s)) (sym (add-zero (part_at p))) ∙ part_word_lem m s slots p 0 hp (omega arith);
        size = λ p hp. part_word_lem m s slots p 1 hp (omega arith);
        rows = λ p hp. part_word_lem m s slots p 2 hp (omega arith);
        table = λ p hp. part_word_lem m s slots p 3 hp (omega arith);
        own = image_own;
        entry = λ p i j hp hi hj. table_word m s slots p i j hp hi hj;
        below = λ p i hp hi. shown_word m s slots p i 3 hp hi (omega arith);
        long = omega (arith, rows_end m, image_length m s slots);
      }

-- words 2 and 3 of a row are those of the map
row_still : (m : Map) (s t : State) → length s.vans ≡ vans → length t.vans ≡ vans → (p i w : ℕ) → p < part_count m → i < size_of m p → w < words_in_row → 2 ≤ w
    → word (image m s) (first_row_of m p + words_in_row * i + w) ≡ word (image m t) (first_row_of m p + words_in_row * i + w)
row_still m s t slots slots' p i zero hp hi hw high = absurd (omega arith)
row_still m s t slots slots' p i (suc zero) hp hi hw high = absurd (omega arith)
row_still m s t slots slots' p i (suc (suc zero)) hp hi hw high = shown_word m s slots p i 2 hp hi (omega arith) ∙ sym (shown_word m t slots' p i 2 hp hi (omega arith))
row_still m s t slots slots' p i (suc (suc (suc zero))) hp hi hw high = shown_word m s slots p i 3 hp hi (omega arith) ∙ sym (shown_word m t slots' p i 3 hp hi (omega arith))
row_still m s t slots slots' p i (suc (suc (suc (suc w)))) hp hi hw high = absurd (omega arith)

-- The rows alone are those of fleet s.
record Half (m : Map) (s t : State) (mem : List ℕ) : Type 0 where
  long : length mem ≡ need m
  new : (a : ℕ) → a < rows_at m → word mem a ≡ word (image m t) a
  old : (a : ℕ) → rows_at m ≤ a → word mem a ≡ word (image m s) a

module _ (m : Map) (s t : State) (slots : length s.vans ≡ vans) (slots' : length t.vans ≡ vans) (mem : List ℕ) (half : Half m s t mem) where
  laid_new : LaidForRows m (active m t) (image m t)
  laid_new = image_laid m t slots'

  half_laid : LaidForRows m (active m t) mem
  half_laid =
      record {
        parent = λ p hp. half.new (part_at p) (omega (arith, part_before m p hp)) ∙ laid_new.parent p hp;
        size = λ p hp. half.new (part_at p + size_in_part) (omega (arith, part_before m p hp)) ∙ laid_new.size p hp;
        rows = λ p hp. half.new (part_at p + rows_in_part) (omega (arith, part_before m p hp)) ∙ laid_new.rows p hp;
        table = λ p hp. half.new (part_at p + table_in_part) (omega (arith, part_before m p hp)) ∙ laid_new.table p hp;
        own =
            λ u hu.
            let a : word mem (itself_at m u) ≡ word (image m t) (itself_at m u) = half.new (itself_at m u) (omega (arith, itself_before m u hu)) in
            let b : word mem (itself_at m u + distance_in_row) ≡ word (image m t) (itself_at m u + distance_in_row) = half.new (itself_at m u + distance_in_row) (omega (arith, itself_before m u hu)) in
            (λ i. record { vertex = a i; distance = b i }) ∙ laid_new.own u hu;
        entry = λ p i j hp hi hj. half.new (table_of m p + (size_of m p * i + j)) (table_before m p hp i j hi hj) ∙ laid_new.entry p i j hp hi hj;
        below = λ p i hp hi. half.old (first_row_of m p + words_in_row * i + below_in_row) (omega (arith, rows_first m p hp)) ∙ (image_laid m s slots).below p i hp hi;
        long = omega (arith, rows_end m, half.long);
      }

  half_rows : (p : ℕ) → p < part_count m → RowsShow m (active m s) mem p
  half_rows p hp j hj =
      let a : word mem (first_row_of m p + words_in_row * j) ≡ word (image m s) (first_row_of m p + words_in_row * j) = half.old (first_row_of m p + words_in_row * j) (omega (arith, rows_first m p hp)) in
      let b : word mem (first_row_of m p + words_in_row * j + distance_in_row) ≡ word (image m s) (first_row_of m p + words_in_row * j + distance_in_row) = half.old (first_row_of m p + words_in_row * j + distance_in_row) (omega (arith, rows_first m p hp)) in
      (λ i. record { vertex = a i; distance = b i }) ∙ image_rows m s slots p hp j hj

  -- rows that show what they must for t, and all else as it was, make the image of t
  is_image : (out : List ℕ) → Refreshed m (active m t) mem out → out ≡ image m t
  is_image out done = image_by_words m t slots' out (done.long ∙ half.long) by
    where
      front : (a : ℕ) → a < rows_at m → word out a ≡ word (image m t) a
      front a h = done.others a (λ p hp. early m p hp a h) ∙ half.new a h

      row : (p i w : ℕ) → p < part_count m → i < size_of m p → w < words_in_row → word out (first_row_of m p + words_in_row * i + w) ≡ word (image m t) (first_row_of m p + words_in_row * i + w)
      row p i zero hp hi hw = ap (word out) (add-zero (first_row_of m p + words_in_row * i)) ∙ ap (λ (k : Row). k.vertex) (done.shows p hp i hi ∙ sym (image_rows m t slots' p hp i hi)) ∙ ap (word (image m t)) (sym (add-zero (first_row_of m p + words_in_row * i)))
      row p i (suc zero) hp hi hw = ap (λ (k : Row). k.distance) (done.shows p hp i hi ∙ sym (image_rows m t slots' p hp i hi))
      row p i (suc (suc w)) hp hi hw =
          done.others (first_row_of m p + words_in_row * i + suc (suc w)) (λ q hq. beside m q hq p i (suc (suc w)) (first_row_of m p + words_in_row * i + suc (suc w)) hp hi hw (inr (omega arith)) refl)
          ∙ half.old (first_row_of m p + words_in_row * i + suc (suc w)) (omega (arith, rows_first m p hp))
          ∙ row_still m s t slots slots' p i (suc (suc w)) hp hi hw (omega arith)

      by : (a : ℕ) → Address m a → word out a ≡ word (image m t) a
      by a (in_head h) = front a (omega (arith, vertices_start m, roads_start m, vans_start m, tables_start m, rows_start m))
      by a (in_parts p w hp hw e) = front a (omega (arith, vertices_start m, roads_start m, vans_start m, tables_start m, rows_start m))
      by a (in_vertices v w hv hw e) = front a (omega (arith, vertices_start m, roads_start m, vans_start m, tables_start m, rows_start m))
      by a (in_roads r w hr hw e) = front a (omega (arith, vans_start m, tables_start m, rows_start m))
      by a (in_vans i w hi hw e) = front a (omega (arith, tables_start m, rows_start m))
      by a (in_tables p i j hp hi hj e) = front a (omega (arith, table_before m p hp i j hi hj))
      by a (in_rows p i w hp hi hw e) = ap (word out) e ∙ row p i w hp hi hw ∙ ap (word (image m t)) (sym e)

-- Which words show of a vertex whether it is active.
record OwnWord (m : Map) (a : ℕ) : Type 0 where
  vertex : ℕ
  which : ℕ
  is_vertex : vertex < m.vertices
  is_one : which < 2
  at : a ≡ itself_at m vertex + which

own_or_not : (m : Map) (a : ℕ) → OwnWord m a ⊎ ((u w : ℕ) → u < m.vertices → w < 2 → a ≡ itself_at m u + w → ⊥)
unfolding itself_at
own_or_not m a = by (dec_lt a (vertices_at m)) (dec_lt a (roads_at m))
  where
    by : Dec (a < vertices_at m) → Dec (a < roads_at m) → OwnWord m a ⊎ ((u w : ℕ) → u < m.vertices → w < 2 → a ≡ vertices_at m + words_in_vertex * u + itself_in_vertex + w → ⊥)
    by (yes low) r = inr (λ u w hu hw e. omega arith)
    by (no high) (no past) = inr (λ u w hu hw e. omega (arith, past, vertices_start m, roads_start m))
    by (no high) (yes within-section) = in_section (in_record words_in_vertex m.vertices (a - vertices_at m) (omega (arith, high, vertices_start m, roads_start m)))
      where
        in_section : InRecord words_in_vertex m.vertices (a - vertices_at m) → OwnWord m a ⊎ ((u w : ℕ) → u < m.vertices → w < 2 → a ≡ vertices_at m + words_in_vertex * u + itself_in_vertex + w → ⊥)
        in_section r = by_word (dec_lt r.at 5) (dec_lt r.at 7)
          where
            by_word : Dec (r.at < 5) → Dec (r.at < 7) → OwnWord m a ⊎ ((u w : ℕ) → u < m.vertices → w < 2 → a ≡ vertices_at m + words_in_vertex * u + itself_in_vertex + w → ⊥)
            by_word (yes early-word) k = inr (λ u w hu hw e. omega (arith, high, r.is_sum))
            by_word (no past) (no last) = inr (λ u w hu hw e. omega (arith, high, past, last, r.is_sum, r.is_within))
            by_word (no past) (yes own) =
                inl (record { vertex = r.number; which = r.at - 5; is_vertex = r.is_record_lem; is_one = omega (arith, past, own); at = omega (arith, high, past, own, r.is_sum) })

itself_same : (before after : ℕ → Bool) (u : ℕ) → before u ≡ after u → itself before u ≡ itself after u
unfolding itself
itself_same before after u same = ap (λ (b : Bool). cond b (record { vertex = u; distance = 0 }) empty_row) same

module _ (m : Map) (s t : State) (slots : length s.vans ≡ vans) (slots' : length t.vans ≡ vans) where
  -- a vertex that is as active as it was shows the same of itself
  own_same : (u w : ℕ) → u < m.vertices → w < 2 → active m s u ≡ active m t u → word (image m s) (itself_at m u + w) ≡ word (image m t) (itself_at m u + w)
  own_same u zero hu hw same =
      ap (word (image m s)) (add-zero (itself_at m u))
      ∙ ap (λ (k : Row). k.vertex) (image_own m s slots u hu ∙ itself_same (active m s) (active m t) u same ∙ sym (image_own m t slots' u hu))
      ∙ ap (word (image m t)) (sym (add-zero (itself_at m u)))
  own_same u (suc zero) hu hw same = ap (λ (k : Row). k.distance) (image_own m s slots u hu ∙ itself_same (active m s) (active m t) u same ∙ sym (image_own m t slots' u hu))
  own_same u (suc (suc w)) hu hw same = absurd (omega arith)

  module _ (mem : List ℕ) (old : RowsOld m s t mem) where
    -- No vertex became active or inactive: the memory is the image of t as it stands.
    pub image_unswitched : ((u : ℕ) → u < m.vertices → active m s u ≡ active m t u) → mem ≡ image m t
    image_unswitched same =
        is_image m s t slots slots' mem half mem
        (record { shows = λ p hp j hj. half_rows m s t slots slots' mem half p hp j hj ∙ row_elsewhere m (active m s) (active m t) p (row_vertex m p j) (λ u inside. same u (holds_says m p u inside).0); others = λ a out. refl; long = refl })
      where
        half : Half m s t mem
        half =
            record {
              long = old.long;
              new = λ a h. ⊎_elim (λ o. ap (word mem) o.at ∙ old.itself o.vertex o.which o.is_vertex o.is_one ∙ own_same o.vertex o.which o.is_vertex o.is_one (same o.vertex o.is_vertex) ∙ ap (word (image m t)) (sym o.at)) (λ away. old.others a h away) (own_or_not m a);
              old = old.rows;
            }

    module _ (v : ℕ) (hv : v < m.vertices) (is : Bool) (switch : Switched v is (active m s) (active m t)) where
      -- v shows of itself what it is now
      written : List ℕ
      written = shown mem (itself_at m v) (own_row v is)

      own_is : own_row v is ≡ itself (active m t) v
      unfolding itself
      own_is = ap (λ (b : Bool). cond b (record { vertex = v; distance = 0 }) empty_row) (sym switch.here)

      written_row : row_in written (itself_at m v) ≡ row_in (image m t) (itself_at m v)
      unfolding written
      written_row =
          shown_row mem (itself_at m v) (own_row v is) (omega (arith, itself_before m v hv, rows_end m, old.long)) ∙ own_is ∙ sym (image_own m t slots' v hv)

      elsewhere : (a : ℕ) → (a ≡ itself_at m v → ⊥) → (a ≡ itself_at m v + distance_in_row → ⊥) → a < rows_at m → word mem a ≡ word (image m t) a
      elsewhere a p q h = ⊎_elim own (λ away. old.others a h away) (own_or_not m a)
        where
          other : (o : OwnWord m a) → o.vertex ≢ v
          other o same = by (dec_lt o.which 1)
            where
              place : a ≡ itself_at m v + o.which
              place = o.at ∙ ap (λ (k : ℕ). itself_at m k + o.which) same

              by : Dec (o.which < 1) → ⊥
              by (yes first) = p (omega (arith, place, first))
              by (no second) = q (omega (arith, place, second, o.is_one))

          own : OwnWord m a → word mem a ≡ word (image m t) a
          own o =
              ap (word mem) o.at
              ∙ old.itself o.vertex o.which o.is_vertex o.is_one
              ∙ own_same o.vertex o.which o.is_vertex o.is_one (switch.elsewhere o.vertex (other o))
              ∙ ap (word (image m t)) (sym o.at)

      half_written : Half m s t written
      unfolding written
      half_written =
          record {
            long = shown_length mem (itself_at m v) (own_row v is) ∙ old.long;
            new = λ a h. by a h (ℕ_discrete a (itself_at m v)) (ℕ_discrete a (itself_at m v + distance_in_row));
            old = λ a h. shown_others mem (itself_at m v) (own_row v is) a (λ e. omega (arith, itself_before m v hv)) (λ e. omega (arith, itself_before m v hv)) ∙ old.rows a h;
          }
        where
          by : (a : ℕ) → a < rows_at m → Dec (a ≡ itself_at m v) → Dec (a ≡ itself_at m v + distance_in_row) → word written a ≡ word (image m t) a
          by a h (yes e) d = ap (word written) e ∙ ap (λ (k : Row). k.vertex) written_row ∙ ap (word (image m t)) (sym e)
          by a h (no n) (yes e) = ap (word written) e ∙ ap (λ (k : Row). k.distance) written_row ∙ ap (word (image m t)) (sym e)
          by a h (no n) (no k) = shown_others mem (itself_at m v) (own_row v is) a n k ∙ elsewhere a n k h

      -- the memory leads to v's record and to its leaf
      parts_word : word mem parts_in_head ≡ part_count m
      unfolding itself_at head_part
      parts_word =
          old.others 4 (omega (arith, vertices_start m, roads_start m, vans_start m, tables_start m, rows_start m)) (λ u w hu hw e. omega (arith, vertices_start m)) ∙ head_word m t slots' 4 (omega arith)

      record_at : vertex_at mem v ≡ vertices_at m + words_in_vertex * v
      record_at = ap (λ (k : ℕ). vertices_from k + words_in_vertex * v) parts_word ∙ ap (λ (k : ℕ). k + words_in_vertex * v) (sym (vertices_start m))

      own_at : vertex_at mem v + itself_in_vertex ≡ itself_at m v
      unfolding itself_at
      own_at = ap (λ (k : ℕ). k + 5) record_at

      leaf_word : word mem (vertex_at mem v) ≡ leaf_of m v
      unfolding itself_at vertex_record
      leaf_word =
          ap (word mem) record_at
          ∙ old.others (vertices_at m + words_in_vertex * v) (omega (arith, vertices_start m, roads_start m, vans_start m, tables_start m, rows_start m)) (λ u w hu hw e. omega arith)
          ∙ ap (word (image m t)) (sym (add-zero (vertices_at m + words_in_vertex * v)))
          ∙ vertex_word m t slots' v 0 hv (omega arith)

      -- v alone became active or inactive: `switch` makes the image of t.
      pub image_switched : Sound m → switched mem v is ≡ image m t
      unfolding switched written
      image_switched sound =
          (λ i. refreshed_up 16 (shown mem (own_at i) (own_row v is)) (leaf_word i) v is)
          ∙ is_image m s t slots slots' written half_written (refreshed_up 16 written (leaf_of m v) v is)
          (refreshed_up_lem m (sound_net m sound) (sound_tree m sound) (few m sound) v hv (active m s) (active m t) is switch 16 (sound.part (leaf_of m v) (sound.vertex v hv).0).level written
          (half_laid m s t slots slots' written half_written) (half_rows m s t slots slots' written half_written))
