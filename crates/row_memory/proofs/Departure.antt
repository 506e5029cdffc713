-- What a departure does to the rows of one part, in any memory whose words show the part's sources and its table.
-- Assumes nothing.
use mathlib.Core.Path.{◌≡◌, refl, sym, ◌∙◌, ap, subst, subst⁻¹}
use mathlib.Core.Logic.{inl}
use mathlib.Core.Bool.{Bool, true, false, cond, true≢false}
use mathlib.Core.List.{List, [], ◌∷◌, map, Memᴰ}
use Prim.Native.Nat.{ℕ, zero, suc, ◌+◌, ◌*◌, ◌≤◌, ◌<◌, min}
use native.Mathlib.Decide.{dec_lt}
use native.Mathlib.Omega.{arith}
use lib.ListN.{length}
use lib.Dec.{eqb, ltb}
use borrow.Author.Tests.{lt-ltb, le-ltb}
use Rattle.words.specs.Limits.{FAR}
use Rattle.words.specs.Lists.{word, up_to, count_from, keep}
use Rattle.words.proofs.Lists.{count_from_below, keep_says}
use Rattle.layout.specs.Layout.{words_in_row}
use Rattle.rows.specs.declared.Row.{Row}
use Rattle.rows.specs.Row.{empty_row, nearer}
use Rattle.rows.specs.Refresh.{onward}
use Rattle.row_changes.proofs.Order.{met, met_turn, met_kept}
use Rattle.row_words.specs.Words.{row_in, shown, source_in}
use Rattle.row_refresh.specs.Model.{shows_in, showing, departed}
use Rattle.row_departures.specs.declared.Source.{Source}
use Rattle.row_departures.specs.Departure.{filled, keyed, far_key, unkeyed, source_of, gathered, renewed, remade}
use Rattle.row_memory.specs.Kept.{Kept}
use Rattle.row_memory.proofs.Offered.{Plain, onward_plain, nearer_plain, nearer_empty, shown_row, OneRow, kept_self, kept_trans, one_shown, one_self}
use Rattle.row_memory.proofs.Keys.{KeyOf, key_none, key_nearer}
use Rattle.row_memory.proofs.OnePart.{Facts, Ready, Swept, swept_none, swept_step, seen_from, Rows}

-- no source shows a vertex that a key has no room for
abbrev pub Fits : ℕ → (ℕ → Row) → Type 0
Fits size from = (i : ℕ) → i < size → (from i).vertex < 65536

-- Where no row shows v, none is made anew.
pub departed_none : (mem : List ℕ) (rows table size v : ℕ) → ltb 0 (length (showing mem rows size v false)) ≡ false → departed mem rows table size v ≡ mem
unfolding remade renewed
departed_none mem rows table size v none = by (showing mem rows size v false) none
  where
    by : (numbers : List ℕ) → ltb 0 (length numbers) ≡ false → remade numbers mem rows table size ≡ mem
    by [] e = refl
    by (i ∷ numbers) e = absurd (true≢false (sym (lt-ltb 0 (length (i ∷ numbers)) (omega arith)) ∙ e))

module _ (rows size table : ℕ) (from : ℕ → Row) (far : ℕ → ℕ → ℕ) (fits : Fits size from) where
  abbrev seen : ℕ → ℕ → Row
  seen = seen_from rows size table from far

  -- the row j made anew
  abbrev pub anew : ℕ → Row
  anew j = met (seen j) (seen j) (λ n. true) empty_row (count_from 0 size)

  module _ (first after : List ℕ) (facts : Facts rows size table from far first) (j : ℕ) (entry : (i : ℕ) → i < size → word after (table + (size * i + j)) ≡ far i j) where
    gathered_at : (numbers : List ℕ) → ((i : ℕ) → Memᴰ i numbers → i < size) → (row : Row) (key : ℕ) → KeyOf row key
        → KeyOf (met (seen j) (seen j) (λ n. true) row numbers) (gathered (map (source_of first rows size) numbers) after (table + j) key)
    unfolding gathered
    gathered_at [] within row key k = k
    gathered_at (i ∷ numbers) within row key k =
        subst⁻¹ (λ (n : ℕ). KeyOf (met (seen j) (seen j) (λ n. true) row (i ∷ numbers)) (gathered (map (source_of first rows size) numbers) after (table + j) (min key n))) same
        (subst (λ (r : Row). KeyOf r (gathered (map (source_of first rows size) numbers) after (table + j) (min key (keyed (from i) + far i j * 65536))))
        (met_turn (seen j) (seen j) (λ n. true) row i numbers)
        (gathered_at numbers (λ n h. within n (Memᴰ.tail h)) (nearer (seen j i) row) (min key (keyed (from i) + far i j * 65536)) (key_nearer (from i) row (far i j) key (fits i hi) k)))
      where
        hi : i < size
        hi = within i (Memᴰ.head refl)

        place : (a : ℕ) → table + j + a ≡ table + (a + j)
        place a = omega arith

        same : (source_of first rows size i).key + word after (table + j + size * i) * 65536 ≡ keyed (from i) + far i j * 65536
        same t = keyed (facts.source i hi t) + (ap (word after) (place (size * i)) ∙ entry i hi) t * 65536

  -- the sources that are not empty are enough
  met_plain : (j : ℕ) (numbers : List ℕ) → Plain (met (seen j) (seen j) (λ n. true) empty_row numbers)
  met_plain j [] = inl refl
  met_plain j (i ∷ numbers) = nearer_plain (seen j i) (met (seen j) (seen j) (λ n. true) empty_row numbers) (onward_plain (from i) (far i j)) (met_plain j numbers)

  module _ (first : List ℕ) (facts : Facts rows size table from far first) where
    abbrev reaching : ℕ → Bool
    reaching i = ltb (source_in first (rows + words_in_row * i)).distance FAR

    number : (i : ℕ) → Memᴰ i (up_to size) → i < size
    number i h = omega (arith, count_from_below 0 size i h)

    needless : (j i : ℕ) → Memᴰ i (up_to size) → reaching i ≡ false → (ys : List ℕ)
        → nearer (seen j i) (met (seen j) (seen j) (λ n. true) empty_row ys) ≡ met (seen j) (seen j) (λ n. true) empty_row ys
    unfolding onward
    needless j i h e ys = by (dec_lt ((from i).distance + far i j) FAR)
      where
        row : Row
        row = met (seen j) (seen j) (λ n. true) empty_row ys

        none : ltb (from i).distance FAR ≡ false
        none = ap (λ (s : Row). ltb s.distance FAR) (sym (facts.source i (number i h))) ∙ e

        by : Dec ((from i).distance + far i j < FAR) → nearer (onward (from i) (far i j)) row ≡ row
        by (yes near) = absurd (true≢false (sym (lt-ltb (from i).distance FAR (omega arith)) ∙ none))
        by (no away) = ap (λ (r : Row). nearer r row) (rw (le-ltb ((from i).distance + far i j) FAR (omega (arith, away)))) ∙ nearer_empty row (met_plain j ys)

    made : (after : List ℕ) (j : ℕ) → ((i : ℕ) → i < size → word after (table + (size * i + j)) ≡ far i j)
        → unkeyed (gathered (map (source_of first rows size) (filled first rows size)) after (table + j) far_key) ≡ anew j
    unfolding filled
    made after j entry =
        (gathered_at first after facts j entry (keep reaching (up_to size)) (λ i h. number i (keep_says reaching (up_to size) i h).0) empty_row far_key key_none).shows
        ∙ met_kept (seen j) (seen j) (λ n. true) empty_row reaching (up_to size) (needless j)

  -- what makes a row anew, whatever the part's own rows show
  abbrev Gathers : List ℕ → List Source → Type 0
  Gathers first sources = (after : List ℕ) → Kept rows size first after → (j : ℕ) → j < size → unkeyed (gathered sources after (table + j) far_key) ≡ anew j

  module _ (chosen : ℕ → Bool) (first : List ℕ) (sources : List Source) (gathers : Gathers first sources) where
    -- a row after a departure
    abbrev left_by : ℕ → Row → Row
    left_by j row = cond (chosen j) (anew j) row

    renewed_from : (left i : ℕ) (mem : List ℕ) → i + left ≡ size → rows + words_in_row * size ≤ length mem → Kept rows size first mem
        → Swept rows size table from far left_by i mem (renewed (keep chosen (count_from i left)) mem sources rows table)
    unfolding renewed
    renewed_from zero i mem all long kept = swept_none rows size table from far left_by mem i (omega arith)
    renewed_from (suc left) i mem all long kept =
        by (chosen i) refl (renewed_from left (suc i) next (omega arith) (omega (arith, one.kept.long)) (kept_trans rows size kept one.kept))
        (renewed_from left (suc i) mem (omega arith) long kept)
      where
        hi : i < size
        hi = omega arith

        next : List ℕ
        next = shown mem (rows + words_in_row * i) (unkeyed (gathered sources mem (table + i) far_key))

        is_anew : row_in next (rows + words_in_row * i) ≡ anew i
        is_anew = shown_row mem (rows + words_in_row * i) (unkeyed (gathered sources mem (table + i) far_key)) (omega arith) ∙ gathers mem kept i hi

        one : OneRow rows size i mem next
        one = one_shown rows size i hi mem (unkeyed (gathered sources mem (table + i) far_key))

        rest : List ℕ
        rest = keep chosen (count_from (suc i) left)

        by : (b : Bool) → chosen i ≡ b → Swept rows size table from far left_by (suc i) next (renewed rest next sources rows table)
            → Swept rows size table from far left_by (suc i) mem (renewed rest mem sources rows table)
            → Swept rows size table from far left_by i mem (renewed (cond b (i ∷ rest) rest) mem sources rows table)
        by true e later still =
            swept_step rows size table from far left_by i mem next (renewed rest next sources rows table) one
            (is_anew ∙ sym (ap (λ (b : Bool). cond b (anew i) (row_in mem (rows + words_in_row * i))) e)) later
        by false e later still =
            swept_step rows size table from far left_by i mem mem (renewed rest mem sources rows table) (one_self rows size i hi mem)
            (sym (ap (λ (b : Bool). cond b (anew i) (row_in mem (rows + words_in_row * i))) e)) still

  pub departed_rows : (v : ℕ) (mem : List ℕ) → Ready rows size table from far mem
      → Rows rows size table from far (λ j. cond (eqb (row_in mem (rows + words_in_row * j)).vertex v) (anew j) (row_in mem (rows + words_in_row * j))) mem (departed mem rows table size v)
  unfolding remade showing shows_in
  departed_rows v mem ready =
      let whole =
      renewed_from (λ i. eqb (word mem (rows + words_in_row * i)) v) mem (map (source_of mem rows size) (filled mem rows size)) gathers size 0 mem (omega arith) ready.fits (kept_self rows size mem)
      in
      record { kept = whole.kept; shows = λ j h. whole.shows j (omega arith) h }
    where
      gathers : Gathers mem (map (source_of mem rows size) (filled mem rows size))
      gathers after kept j hj = made mem (ready.facts mem (kept_self rows size mem)) after j (λ i hi. (ready.facts after kept).entry i j hi hj)
