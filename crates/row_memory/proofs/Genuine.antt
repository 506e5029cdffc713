-- The refresh of one part, in the memory of a map and a fleet.
-- Assumes nothing.
use mathlib.Core.Path.{◌≡◌, refl, sym, ◌∙◌, ap, subst⁻¹}
use mathlib.Core.Logic.{inl, inr, ⊎_elim, ◌≢◌}
use mathlib.Core.Bool.{Bool, true, false, cond}
use mathlib.Core.List.{List, [], ◌∷◌, map, foldr, Memᴰ}
use Prim.Native.Nat.{ℕ, zero, suc, ◌+◌, ◌*◌, ◌<◌}
use native.Mathlib.Omega.{arith}
use lib.ListN.{length, get_or}
use lib.Dec.{eqb}
use borrow.Author.Tests.{le-leb}
use Rattle.words.specs.Limits.{FAR}
use Rattle.words.specs.Lists.{word, count_from, place_in}
use Rattle.words.proofs.Lists.{place_in_lem}
use Rattle.words.proofs.Places.{entry_in}
use Rattle.layout.specs.Layout.{size_in_part, rows_in_part, table_in_part, words_in_row, distance_in_row, below_in_row, part_at}
use Rattle.roads.specs.Map.{Map, part_count}
use Rattle.roads.specs.Dist.{dist}
use Rattle.roads.proofs.Trail.{Net}
use Rattle.roads.proofs.Laws.{dist_triangle}
use Rattle.parts.specs.Tree.{parent_of, child_of, is_leaf, vertices_of}
use Rattle.parts.specs.Border.{borders}
use Rattle.parts.specs.Size.{row_vertices, size_of}
use Rattle.parts.proofs.Rows.{row_vertex_lem}
use Rattle.parts.proofs.Down.{Tree, boundary_row, children_says, border_child}
use Rattle.rows.specs.declared.Row.{Row}
use Rattle.rows.specs.Row.{empty_row, itself, nearer, row_of}
use Rattle.rows.specs.Refresh.{onward}
use Rattle.rows.proofs.Order.{RowLe}
use Rattle.image.specs.Places.{rows_at, itself_at, table_of, first_row_of, row_at}
use Rattle.image.specs.Image.{row_below}
use Rattle.image.specs.Records.{row_vertex}
use Rattle.row_changes.specs.Switch.{Switched}
use Rattle.row_changes.specs.Source.{source, candidate, row_anew, row_met}
use Rattle.row_changes.proofs.Best.{row_shown, row_closed}
use Rattle.row_changes.proofs.Refresh.{row_met_lem, row_left}
use Rattle.row_words.specs.Words.{row_in, source_in}
use Rattle.row_refresh.specs.Model.{showing, changed, touches, refreshed, touched}
use Rattle.row_arrivals.specs.Arrival.{led}
use Rattle.part_words.specs.Part.{rows_in, fits}
use Rattle.row_memory.specs.Kept.{Kept}
use Rattle.row_memory.specs.Laid.{Few, LaidForRows, RowsShow}
use Rattle.row_memory.proofs.Apart.{rows_last, table_last, table_before, part_before, itself_before, early, beside}
use Rattle.row_memory.proofs.Offered.{Plain}
use Rattle.row_memory.proofs.OnePart.{Ready, Triangle, RowsClosed, arrived_rows, arrived_none}
use Rattle.row_memory.proofs.Departure.{Fits, departed_rows, departed_none}

-- A fold over the entries' numbers.
module _ {B : Type 0} where
  fold_later : (f : ℕ → B → B) (s : B) (a n : ℕ) → foldr f s (count_from (suc a) n) ≡ foldr (λ i. f (suc i)) s (count_from a n)
  fold_later f s a zero = refl
  fold_later f s a (suc n) = ap (f (suc a)) (fold_later f s (suc a) n)

  module _ {A : Type 0} where
    fold_numbers : (f : A → B → B) (s : B) (d : A) (xs : List A) → foldr (λ i. f (get_or xs i d)) s (count_from 0 (length xs)) ≡ foldr f s xs
    fold_numbers f s d [] = refl
    fold_numbers f s d (x ∷ xs) = ap (f x) (fold_later (λ i. f (get_or (x ∷ xs) i d)) s 0 (length xs) ∙ fold_numbers f s d xs)

    fold_map : (g : B → B → B) (f : A → B) (s : B) (xs : List A) → foldr (λ x. g (f x)) s xs ≡ foldr g s (map f xs)
    fold_map g f s [] = refl
    fold_map g f s (x ∷ xs) = ap (g (f x)) (fold_map g f s xs)

module _ (m : Map) (net : Net m) (tree : Tree m) (p : ℕ) (hp : p < part_count m) where
  module _ {mem after : List ℕ} (kept : Kept (first_row_of m p) (size_of m p) mem after) where
    at_early : (a x : ℕ) → a < rows_at m → word mem a ≡ x → word after a ≡ x
    at_early a x h e = kept.outside a (early m p hp a h) ∙ e

    pub laid_kept : {isActive : ℕ → Bool} → LaidForRows m isActive mem → LaidForRows m isActive after
    laid_kept {isActive} laid =
        record {
          parent = λ q hq. at_early (part_at q) (parent_of m q) (omega (arith, part_before m q hq)) (laid.parent q hq);
          size = λ q hq. at_early (part_at q + size_in_part) (size_of m q) (omega (arith, part_before m q hq)) (laid.size q hq);
          rows = λ q hq. at_early (part_at q + rows_in_part) (first_row_of m q) (omega (arith, part_before m q hq)) (laid.rows q hq);
          table = λ q hq. at_early (part_at q + table_in_part) (table_of m q) (omega (arith, part_before m q hq)) (laid.table q hq);
          own = λ u hu. own u hu ∙ laid.own u hu;
          entry = λ q i j hq hi hj. at_early (table_of m q + (size_of m q * i + j)) _ (table_before m q hq i j hi hj) (laid.entry q i j hq hi hj);
          below = λ q i hq hi. kept.outside _ (beside m p hp q i 3 (first_row_of m q + words_in_row * i + below_in_row) hq hi (omega arith) (inr (omega arith)) refl) ∙ laid.below q i hq hi;
          long = omega (arith, laid.long, kept.long);
        }
      where
        own : (u : ℕ) → u < m.vertices → row_in after (itself_at m u) ≡ row_in mem (itself_at m u)
        own u hu =
            let a = kept.outside (itself_at m u) (early m p hp _ (omega (arith, itself_before m u hu))) in
            let b = kept.outside (itself_at m u + distance_in_row) (early m p hp _ (omega (arith, itself_before m u hu))) in
            λ t. record { vertex = a t; distance = b t }

    pub others_kept : (isActive : ℕ → Bool) (q : ℕ) → q < part_count m → q ≢ p → RowsShow m isActive mem q → RowsShow m isActive after q
    others_kept isActive q hq other shows j hj =
        let a : word after (first_row_of m q + words_in_row * j) ≡ word mem (first_row_of m q + words_in_row * j) =
        kept.outside _ (beside m p hp q j 0 (first_row_of m q + words_in_row * j) hq hj (omega arith) (inl other) (omega arith))
        in
        let b : word after (first_row_of m q + words_in_row * j + distance_in_row) ≡ word mem (first_row_of m q + words_in_row * j + distance_in_row) =
        kept.outside _ (beside m p hp q j 1 (first_row_of m q + words_in_row * j + distance_in_row) hq hj (omega arith) (inl other) refl)
        in
        (λ t. record { vertex = a t; distance = b t }) ∙ shows j hj

  -- the vertex of row i
  module _ (i : ℕ) (hi : i < size_of m p) where
    pub row_in_lem : Memᴰ (row_vertex m p i) (row_vertices m p)
    unfolding size_of
    row_in_lem = entry_in (row_vertices m p) i 0 hi

    real : row_vertex m p i < m.vertices
    real = row_vertex_lem m p (row_vertex m p i) row_in_lem

  module _ (isActive : ℕ → Bool) where
    -- the rows of all later parts, p's children among them, show what they must
    abbrev pub LaterShow : List ℕ → Type 0
    LaterShow mem = (c : ℕ) → c < part_count m → p < c → RowsShow m isActive mem c

    child_row : (mem : List ℕ) → LaterShow mem → (b : ℕ) → Memᴰ b (borders m p) → row_in mem (row_at m (child_of m p b) b) ≡ row_of m isActive (child_of m p b) b
    unfolding row_at size_of
    child_row mem later b border =
        let c : ℕ = child_of m p b in
        let found = border_child m net tree p b border in
        let child = children_says m p c found.0 in
        let place = place_in_lem b (row_vertices m c) (boundary_row m net tree c b found.1) in
        later c child.0 (omega (arith, tree.falls c (omega (arith, child.2)) child.0, child.1)) (place_in b (row_vertices m c)) place.0 ∙ ap (row_of m isActive c) place.1

    source_shown : (mem : List ℕ) → LaidForRows m isActive mem → LaterShow mem → (i : ℕ) → i < size_of m p → source_in mem (first_row_of m p + words_in_row * i) ≡ source m isActive p (row_vertex m p i)
    unfolding source row_below row_vertices
    source_shown mem laid later i hi = ap (row_in mem) (laid.below p i hp hi) ∙ by (is_leaf m p) (row_in_lem i hi)
      where
        b : ℕ
        b = row_vertex m p i

        by : (leaf : Bool) → Memᴰ b (cond leaf (vertices_of m p) (borders m p))
            → row_in mem (cond leaf (itself_at m b) (row_at m (child_of m p b) b)) ≡ cond leaf (itself isActive b) (row_of m isActive (child_of m p b) b)
        by true h = laid.own b (real i hi)
        by false h = child_row mem later b h

    pub ready : (mem : List ℕ) → LaidForRows m isActive mem → LaterShow mem
        → Ready (first_row_of m p) (size_of m p) (table_of m p) (λ i. source m isActive p (row_vertex m p i)) (λ i j. dist m (row_vertex m p i) (row_vertex m p j)) mem
    ready mem laid later =
        record {
          facts =
              λ after kept.
              let laid' = laid_kept kept laid in
              let later' : LaterShow after = λ c hc above. others_kept kept isActive c hc (λ same. omega arith) (later c hc above) in
              record { source = λ i hi. source_shown after laid' later' i hi; entry = λ i j hi hj. laid'.entry p i j hp hi hj };
          fits = omega (arith, rows_last m p hp, laid.long);
        }

  -- A row that shows what it must is empty or shows a vertex that reaches.
  row_plain : (isActive : ℕ → Bool) (r : ℕ) → Plain (row_of m isActive p r)
  row_plain isActive r =
      ⊎_elim inl (λ some. inr (subst⁻¹ (λ (k : Row). k.distance < FAR) some.2 some.1.reaches)) (row_shown m isActive p r)

  triangle : Triangle (size_of m p) (λ i j. dist m (row_vertex m p i) (row_vertex m p j))
  triangle i k j hi hk hj = dist_triangle m net (row_vertex m p i) (real i hi) (row_vertex m p k) (row_vertex m p j) (real k hk)

  -- v became active or inactive
  module _ (v : ℕ) (hv : v < m.vertices) (before after : ℕ → Bool) (few : Few m) (mem : List ℕ) (laid : LaidForRows m after mem) (later : LaterShow after mem)
      (shows : RowsShow m before mem p) where
    size_here : rows_in mem p ≡ size_of m p
    size_here = omega (arith, laid.size p hp, few.rows p hp)

    -- the part's record leads to its rows and its table
    within_memory : fits mem (word mem (part_at p + rows_in_part)) (word mem (part_at p + table_in_part)) (rows_in mem p) ≡ true
    within_memory =
        (λ t. fits mem (laid.rows p hp t) (laid.table p hp t) (size_here t))
        ∙ rw (
          le-leb (first_row_of m p + words_in_row * size_of m p) (length mem) (omega (arith, rows_last m p hp, laid.long)),
          le-leb (table_of m p + size_of m p * size_of m p) (length mem) (omega (arith, table_last m p hp, laid.long)),
        )

    here : (is : Bool) → refreshed mem p v is ≡ changed mem (first_row_of m p) (table_of m p) (size_of m p) v is
    unfolding refreshed
    here is = rw within_memory (λ t. changed mem (laid.rows p hp t) (laid.table p hp t) (size_here t) v is)

    here_touched : (is : Bool) → touched mem p v is ≡ touches mem (first_row_of m p) (table_of m p) (size_of m p) v is
    unfolding touched
    here_touched is = rw within_memory (λ t. touches mem (laid.rows p hp t) (laid.table p hp t) (size_here t) v is)

    -- where no row may have changed, the memory is as it was
    pub untouched : (is : Bool) → touched mem p v is ≡ false → refreshed mem p v is ≡ mem
    unfolding touches changed
    untouched true none =
        here true
        ∙ arrived_none (first_row_of m p) (size_of m p) (table_of m p) (λ i. empty_row) (λ i j. 0) v (led (showing mem (first_row_of m p) (size_of m p) v true) mem (first_row_of m p)) mem (sym (here_touched true) ∙ none)
    untouched false none = here false ∙ departed_none mem (first_row_of m p) (table_of m p) (size_of m p) v (sym (here_touched false) ∙ none)

    closed : RowsClosed (first_row_of m p) (size_of m p) (table_of m p) (λ i. source m after p (row_vertex m p i)) (λ i j. dist m (row_vertex m p i) (row_vertex m p j)) mem
    closed i j hi hj =
        subst⁻¹ (λ (k : Row). RowLe k (onward (row_in mem (first_row_of m p + words_in_row * i)) (dist m (row_vertex m p i) (row_vertex m p j)))) (shows j hj)
        (subst⁻¹ (λ (k : Row). RowLe (row_of m before p (row_vertex m p j)) (onward k (dist m (row_vertex m p i) (row_vertex m p j)))) (shows i hi)
        (row_closed m net before p (row_vertex m p i) (row_vertex m p j) (real i hi)))

    pub arrived_here : Switched v true before after → Kept (first_row_of m p) (size_of m p) mem (refreshed mem p v true) × RowsShow m after (refreshed mem p v true) p
    unfolding row_met candidate size_of changed
    arrived_here switch =
        let done =
        arrived_rows (first_row_of m p) (size_of m p) (table_of m p) (λ i. source m after p (row_vertex m p i)) (λ i j. dist m (row_vertex m p i) (row_vertex m p j)) v (few.rows p hp) triangle mem (ready after mem laid later)
        (λ j hj. subst⁻¹ Plain (shows j hj) (row_plain before (row_vertex m p j))) closed
        in
        subst⁻¹ (λ (l : List ℕ). Kept (first_row_of m p) (size_of m p) mem l × RowsShow m after l p) (here true) (
          done.kept,
          λ j hj.
              done.shows j hj
              ∙ fold_numbers (λ b best. cond (eqb (source m after p b).vertex v) (nearer (candidate m after p (row_vertex m p j) b) best) best) _ 0 (row_vertices m p)
              ∙ ap (row_met m after p v (row_vertex m p j)) (shows j hj)
              ∙ sym (row_met_lem m v switch hv net tree p hp (row_vertex m p j) (row_in_lem j hj)),
        )

    -- a source shows one of the map's vertices, or none
    source_fits : Fits (size_of m p) (λ i. source m after p (row_vertex m p i))
    unfolding source itself
    source_fits i hi = by (is_leaf m p)
      where
        b : ℕ
        b = row_vertex m p i

        own : (is : Bool) → (cond is (record { vertex = b; distance = 0 }) empty_row).vertex < 65536
        own true = omega (arith, real i hi, few.vertices)
        own false = omega arith

        shown : (q : ℕ) → (row_of m after q b).vertex < 65536
        shown q =
            ⊎_elim (λ none. subst⁻¹ (λ (k : Row). k.vertex < 65536) none (omega arith)) (λ some. subst⁻¹ (λ (k : Row). k.vertex < 65536) some.2 (omega (arith, some.1.vertex, few.vertices)))
            (row_shown m after q b)

        by : (leaf : Bool) → (cond leaf (cond (after b) (record { vertex = b; distance = 0 }) empty_row) (row_of m after (child_of m p b) b)).vertex < 65536
        by true = own (after b)
        by false = shown (child_of m p b)

    pub departed_here : Switched v false before after → Kept (first_row_of m p) (size_of m p) mem (refreshed mem p v false) × RowsShow m after (refreshed mem p v false) p
    unfolding row_anew candidate size_of changed
    departed_here switch =
        let done =
        departed_rows (first_row_of m p) (size_of m p) (table_of m p) (λ i. source m after p (row_vertex m p i)) (λ i j. dist m (row_vertex m p i) (row_vertex m p j)) source_fits v mem (ready after mem laid later)
        in
        let again : (j : ℕ) → foldr (λ n best. nearer (candidate m after p (row_vertex m p j) (row_vertex m p n)) best) empty_row (count_from 0 (size_of m p)) ≡ row_anew m after p (row_vertex m p j) =
        λ j.
        fold_numbers (λ b best. nearer (candidate m after p (row_vertex m p j) b) best) empty_row 0 (row_vertices m p)
        ∙ fold_map nearer (candidate m after p (row_vertex m p j)) empty_row (row_vertices m p)
        in
        subst⁻¹ (λ (l : List ℕ). Kept (first_row_of m p) (size_of m p) mem l × RowsShow m after l p) (here false) (
          done.kept,
          λ j hj.
              done.shows j hj
              ∙ (λ t. cond (eqb (shows j hj t).vertex v) (again j t) (shows j hj t))
              ∙ sym (row_left m v switch net tree p hp (row_vertex m p j) (row_in_lem j hj)),
        )
