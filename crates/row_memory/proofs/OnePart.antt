-- What an arrival does to the rows of one part, in any memory whose words show the part's sources and its table.
-- Assumes nothing.
use mathlib.Core.Path.{◌≡◌, refl, sym, ◌∙◌, ap, subst⁻¹}
use mathlib.Core.Logic.{⊎_elim}
use mathlib.Core.Bool.{Bool, true, false, ◌&&◌, ◌||◌, cond, true≢false}
use mathlib.Core.List.Memᴰ
use mathlib.Core.List.{List, [], ◌∷◌, Memᴰ}
use Prim.Native.Nat.{ℕ, zero, suc, ◌+◌, ◌*◌, ◌≤◌, ◌<◌}
use native.Mathlib.Decide.{ℕ_discrete}
use native.Mathlib.Omega.{arith}
use lib.ListN.{length}
use lib.Dec.{eqb}
use borrow.Author.Tests.{eqb-true}
use Rattle.words.specs.Lists.{word, up_to, count_from, keep}
use Rattle.words.proofs.Lists.{count_from_below, keep_says, up_to_has}
use Rattle.layout.specs.Layout.{words_in_row}
use Rattle.rows.specs.declared.Row.{Row}
use Rattle.rows.specs.Row.{comes_before, nearer}
use Rattle.rows.specs.Refresh.{onward}
use Rattle.rows.proofs.Order.{RowLe, le_trans, nearer_is}
use Rattle.row_changes.proofs.Order.{onward_le, onward_twice, nearer_kept, not_before, met, met_turn, met_kept, met_again}
use Rattle.row_words.specs.Words.{row_in, source_in}
use Rattle.row_arrivals.specs.Arrival.{offered, spread, is_news, met as metIn, arrived, any_news, lead, led}
use Rattle.row_refresh.specs.Model.{shows_in, showing}
use Rattle.row_arrivals.proofs.Sources.{lead_within, news_kept}
use Rattle.row_memory.specs.Kept.{Kept}
use Rattle.row_memory.proofs.Offered.{Plain, onward_plain, nearer_plain, offered_row, OneRow, kept_self, kept_trans, one_offered}

-- Row i has the source `from i`, and the table has the distance `far i j` from row i to row j.
pub record Facts (rows size table : ℕ) (from : ℕ → Row) (far : ℕ → ℕ → ℕ) (mem : List ℕ) : Type 0 where
  pub source : (i : ℕ) → i < size → source_in mem (rows + words_in_row * i) ≡ from i
  pub entry : (i j : ℕ) → i < size → j < size → word mem (table + (size * i + j)) ≡ far i j

-- So it is whatever the part's own rows show; and the rows are all within the memory.
pub record Ready (rows size table : ℕ) (from : ℕ → Row) (far : ℕ → ℕ → ℕ) (mem : List ℕ) : Type 0 where
  pub facts : (after : List ℕ) → Kept rows size mem after → Facts rows size table from far after
  pub fits : rows + words_in_row * size ≤ length mem

-- the source n was offered to row i alone
record Offer (rows size : ℕ) (row : Row) (i : ℕ) (mem after : List ℕ) : Type 0 where
  one : OneRow rows size i mem after
  shows : row_in after (rows + words_in_row * i) ≡ nearer row (row_in mem (rows + words_in_row * i))

-- a way over another row's vertex is no shorter
abbrev pub Triangle : ℕ → (ℕ → ℕ → ℕ) → Type 0
Triangle size far = (i k j : ℕ) → i < size → k < size → j < size → far i j ≤ far i k + far k j

module _ (rows size table : ℕ) (from : ℕ → Row) (far : ℕ → ℕ → ℕ) where
  -- the source of row n, seen from row j
  abbrev pub seen_from : ℕ → ℕ → Row
  seen_from j n = onward (from n) (far n j)

  -- every row is empty or shows a vertex that reaches
  abbrev pub PlainRows : List ℕ → Type 0
  PlainRows mem = (j : ℕ) → j < size → Plain (row_in mem (rows + words_in_row * j))

  -- no row comes later than another one seen from there
  abbrev pub RowsClosed : List ℕ → Type 0
  RowsClosed mem = (i j : ℕ) → i < size → j < size → RowLe (row_in mem (rows + words_in_row * j)) (onward (row_in mem (rows + words_in_row * i)) (far i j))

  ready_kept : {mem after : List ℕ} → Kept rows size mem after → Ready rows size table from far mem → Ready rows size table from far after
  ready_kept kept ready = record { facts = λ a k. ready.facts a (kept_trans rows size kept k); fits = omega (arith, ready.fits, kept.long) }

  module _ (n i : ℕ) (hn : n < size) (hi : i < size) where
    offer_step : (mem : List ℕ) (to at v x : ℕ) → to ≡ rows + words_in_row * i → at ≡ table + (size * n + i) → v ≡ (from n).vertex → x ≡ (from n).distance
        → Ready rows size table from far mem → Plain (row_in mem (rows + words_in_row * i)) → Offer rows size (seen_from i n) i mem (offered mem to v x (word mem at))
    offer_step mem to at v x p q r s ready plain =
        subst⁻¹ (Offer rows size (seen_from i n) i mem) same
        (record {
          one = one_offered rows size i hi mem (from n).vertex (from n).distance (far n i);
          shows = offered_row mem (rows + words_in_row * i) (from n).vertex (from n).distance (far n i) (omega (arith, ready.fits)) plain;
        })
      where
        d : word mem at ≡ far n i
        d = ap (word mem) q ∙ (ready.facts mem (kept_self rows size mem)).entry n i hn hi

        same : offered mem to v x (word mem at) ≡ offered mem (rows + words_in_row * i) (from n).vertex (from n).distance (far n i)
        same t = offered mem (p t) (r t) (s t) (d t)

  -- The rows from i on were gone through: each became what `turn` makes of it, and those before it stayed.
  pub record Swept (turn : ℕ → Row → Row) (i : ℕ) (mem after : List ℕ) : Type 0 where
    pub kept : Kept rows size mem after
    pub below : (j : ℕ) → j < i → row_in after (rows + words_in_row * j) ≡ row_in mem (rows + words_in_row * j)
    pub shows : (j : ℕ) → i ≤ j → j < size → row_in after (rows + words_in_row * j) ≡ turn j (row_in mem (rows + words_in_row * j))

  module _ (turn : ℕ → Row → Row) where
    pub swept_none : (mem : List ℕ) (i : ℕ) → size ≤ i → Swept turn i mem mem
    swept_none mem i past = record { kept = kept_self rows size mem; below = λ j h. refl; shows = λ j low hj. absurd (omega arith) }

    -- one row more
    pub swept_step : (i : ℕ) (mem middle after : List ℕ) → OneRow rows size i mem middle → row_in middle (rows + words_in_row * i) ≡ turn i (row_in mem (rows + words_in_row * i)) → Swept turn (suc i) middle after
        → Swept turn i mem after
    swept_step i mem middle after one turns rest =
        record {
          kept = kept_trans rows size one.kept rest.kept;
          below = λ j h. rest.below j (omega arith) ∙ one.others j (omega arith);
          shows = λ j low hj. by j hj (ℕ_discrete j i) low;
        }
      where
        by : (j : ℕ) → j < size → Dec (j ≡ i) → i ≤ j → row_in after (rows + words_in_row * j) ≡ turn j (row_in mem (rows + words_in_row * j))
        by j hj (yes same) low = subst⁻¹ (λ (k : ℕ). row_in after (rows + words_in_row * k) ≡ turn k (row_in mem (rows + words_in_row * k))) same (rest.below i (omega arith) ∙ turns)
        by j hj (no other) low = rest.shows j (omega (arith, other)) hj ∙ ap (turn j) (one.others j other)

  module _ (n : ℕ) (hn : n < size) (v x : ℕ) (r : v ≡ (from n).vertex) (s : x ≡ (from n).distance) where
    -- a row that the source of row n is offered to
    abbrev turned_by : ℕ → Row → Row
    turned_by j row = nearer (seen_from j n) row

    spread_rows : (left i : ℕ) (mem : List ℕ) (to at : ℕ) → i + left ≡ size → to ≡ rows + words_in_row * i → at ≡ table + (size * n + i) → Ready rows size table from far mem
        → ((j : ℕ) → i ≤ j → j < size → Plain (row_in mem (rows + words_in_row * j))) → Swept turned_by i mem (spread left mem to at v x)
    unfolding spread
    spread_rows zero i mem to at all p q ready plain = swept_none turned_by mem i (omega arith)
    spread_rows (suc left) i mem to at all p q ready plain =
        let first = offer_step n i hn (omega arith) mem to at v x p q r s ready (plain i (omega arith) (omega arith)) in
        swept_step turned_by i mem (offered mem to v x (word mem at)) (spread left (offered mem to v x (word mem at)) (to + words_in_row) (at + 1) v x) first.one first.shows
        (spread_rows left (suc i) (offered mem to v x (word mem at)) (to + words_in_row) (at + 1) (omega arith) (omega arith) (omega arith) (ready_kept first.one.kept ready)
        (λ j low hj. subst⁻¹ Plain (first.one.others j (omega arith)) (plain j (omega arith) hj)))

  -- Each row shows what `shown` says.
  pub record Rows (shown : ℕ → Row) (mem after : List ℕ) : Type 0 where
    pub kept : Kept rows size mem after
    pub shows : (j : ℕ) → j < size → row_in after (rows + words_in_row * j) ≡ shown j

  module _ (v : ℕ) where
    abbrev pub shows_it : ℕ → Bool
    shows_it n = eqb (from n).vertex v

    -- a row after the source n was met
    abbrev turned : ℕ → ℕ → Row → Row
    turned j n row = cond (shows_it n) (nearer (seen_from j n) row) row

    -- a source that comes no earlier than its own row is of no use to any row
    no_use : (n : ℕ) → n < size → (mem : List ℕ) → RowsClosed mem → comes_before (from n) (row_in mem (rows + words_in_row * n)) ≡ false
        → (j : ℕ) → j < size → row_in mem (rows + words_in_row * j) ≡ nearer (seen_from j n) (row_in mem (rows + words_in_row * j))
    no_use n hn mem closed late j hj =
        let here : Row = row_in mem (rows + words_in_row * n) in
        let there : Row = row_in mem (rows + words_in_row * j) in
        sym
        (nearer_kept (seen_from j n) there
        (le_trans there (onward here (far n j)) (seen_from j n) (closed n j hn hj) (onward_le here (from n) (far n j) (not_before (from n) here late))))

    met_rows : (n : ℕ) → n < size → (mem : List ℕ) (row line : ℕ) → row ≡ rows + words_in_row * n → line ≡ table + size * n → Ready rows size table from far mem → PlainRows mem → RowsClosed mem
        → Rows (λ j. turned j n (row_in mem (rows + words_in_row * j))) mem (metIn mem rows size v row line)
    unfolding metIn is_news
    met_rows n hn mem row line p q ready plain closed =
        subst⁻¹ (λ (s : Row). Rows (λ j. turned j n (row_in mem (rows + words_in_row * j))) mem (cond (eqb s.vertex v && comes_before s (row_in mem row)) (spread size mem rows line v s.distance) mem)) source
        (subst⁻¹ (λ (k : ℕ). Rows (λ j. turned j n (row_in mem (rows + words_in_row * j))) mem (cond (eqb (from n).vertex v && comes_before (from n) (row_in mem k)) (spread size mem rows line v (from n).distance) mem)) p
        (by (shows_it n) refl (comes_before (from n) (row_in mem (rows + words_in_row * n))) refl))
      where
        source : source_in mem row ≡ from n
        source = ap (source_in mem) p ∙ (ready.facts mem (kept_self rows size mem)).source n hn

        by : (b : Bool) → shows_it n ≡ b → (c : Bool) → comes_before (from n) (row_in mem (rows + words_in_row * n)) ≡ c
            → Rows (λ j. cond b (nearer (seen_from j n) (row_in mem (rows + words_in_row * j))) (row_in mem (rows + words_in_row * j))) mem (cond (b && c) (spread size mem rows line v (from n).distance) mem)
        by false e c f = record { kept = kept_self rows size mem; shows = λ j h. refl }
        by true e false f = record { kept = kept_self rows size mem; shows = λ j h. no_use n hn mem closed f j h }
        by true e true f =
            let whole =
            spread_rows n hn v (from n).distance (sym (eqb-true (from n).vertex v e)) refl size 0 mem rows line (omega arith) (omega arith) (omega arith) ready (λ j low hj. plain j hj)
            in
            record { kept = whole.kept; shows = λ j h. whole.shows j (omega arith) h }

    turned_plain : (j n : ℕ) (row : Row) → Plain row → Plain (turned j n row)
    turned_plain j n row plain = by (shows_it n)
      where
        by : (b : Bool) → Plain (cond b (nearer (seen_from j n) row) row)
        by true = nearer_plain (seen_from j n) row (onward_plain (from n) (far n j)) plain
        by false = plain

    turned_closed : Triangle size far → (n : ℕ) → n < size → (mem after : List ℕ) → RowsClosed mem → ((j : ℕ) → j < size → row_in after (rows + words_in_row * j) ≡ turned j n (row_in mem (rows + words_in_row * j))) → RowsClosed after
    turned_closed triangle n hn mem after closed turns i j hi hj =
        subst⁻¹ (λ (k : Row). RowLe k (onward (row_in after (rows + words_in_row * i)) (far i j))) (turns j hj)
        (subst⁻¹ (λ (k : Row). RowLe (turned j n there) (onward k (far i j))) (turns i hi) (by (shows_it n)))
      where
        here : Row
        here = row_in mem (rows + words_in_row * i)

        there : Row
        there = row_in mem (rows + words_in_row * j)

        new : Row
        new = nearer (seen_from j n) there

        by : (b : Bool) → RowLe (cond b new there) (onward (cond b (nearer (seen_from i n) here) here) (far i j))
        by false = closed i j hi hj
        by true =
            ⊎_elim
            (λ e.
            subst⁻¹ (λ (k : Row). RowLe new (onward k (far i j))) e
            (le_trans new (seen_from j n) (onward (seen_from i n) (far i j)) (nearer_is (seen_from j n) there).left (onward_twice (from n) (far n j) (far n i) (far i j) (triangle n i j hn hi hj))))
            (λ e.
            subst⁻¹ (λ (k : Row). RowLe new (onward k (far i j))) e
            (le_trans new there (onward here (far i j)) (nearer_is (seen_from j n) there).right (closed i j hi hj)))
            (nearer_is (seen_from i n) here).one

    -- v arrived: the sources of the rows with these numbers were met
    arrived_at : Triangle size far → (numbers : List ℕ) → ((i : ℕ) → Memᴰ i numbers → i < size) → (mem : List ℕ) → Ready rows size table from far mem → PlainRows mem → RowsClosed mem
        → Rows (λ j. met (seen_from j) (seen_from j) shows_it (row_in mem (rows + words_in_row * j)) numbers) mem (arrived numbers mem rows table size v)
    unfolding arrived
    arrived_at triangle [] within mem ready plain closed = record { kept = kept_self rows size mem; shows = λ j h. refl }
    arrived_at triangle (n ∷ numbers) within mem ready plain closed =
        let hn = within n (Memᴰ.head refl) in
        let first = met_rows n hn mem (rows + words_in_row * n) (table + size * n) refl refl ready plain closed in
        let middle : List ℕ = metIn mem rows size v (rows + words_in_row * n) (table + size * n) in
        let rest =
        arrived_at triangle numbers (λ i h. within i (Memᴰ.tail h)) middle (ready_kept first.kept ready)
        (λ j h. subst⁻¹ Plain (first.shows j h) (turned_plain j n (row_in mem (rows + words_in_row * j)) (plain j h)))
        (turned_closed triangle n hn mem middle closed first.shows)
        in
        record {
          kept = kept_trans rows size first.kept rest.kept;
          shows =
              λ j h.
              rest.shows j h
              ∙ ap (λ (row : Row). met (seen_from j) (seen_from j) shows_it row numbers) (first.shows j h)
              ∙ met_turn (seen_from j) (seen_from j) shows_it (row_in mem (rows + words_in_row * j)) n numbers;
        }

    -- all sources that show v are, and the others change nothing
    pub arrived_rows : size ≤ 128 → Triangle size far → (mem : List ℕ) → Ready rows size table from far mem → PlainRows mem → RowsClosed mem
        → Rows (λ j. met (seen_from j) (seen_from j) shows_it (row_in mem (rows + words_in_row * j)) (count_from 0 size)) mem (arrived (led (showing mem rows size v true) mem rows) mem rows table size v)
    unfolding showing shows_in led arrived
    arrived_rows few triangle mem ready plain closed = by (keep brings (up_to size)) refl
      where
        brings : ℕ → Bool
        brings i = eqb (source_in mem (rows + words_in_row * i)).vertex v

        number : (i : ℕ) → Memᴰ i (up_to size) → i < size
        number i h = omega (arith, count_from_below 0 size i h)

        row_met : ℕ → List ℕ → Row
        row_met j = met (seen_from j) (seen_from j) shows_it (row_in mem (rows + words_in_row * j))

        needless : (j i : ℕ) → Memᴰ i (up_to size) → brings i ≡ false → (ys : List ℕ) → turned j i (row_met j ys) ≡ row_met j ys
        needless j i h e ys =
            ap (λ (b : Bool). cond b (nearer (seen_from j i) (row_met j ys)) (row_met j ys)) (ap (λ (s : Row). eqb s.vertex v) (sym ((ready.facts mem (kept_self rows size mem)).source i (number i h))) ∙ e)

        all_met : (j : ℕ) → row_met j (keep brings (up_to size)) ≡ row_met j (up_to size)
        all_met j = met_kept (seen_from j) (seen_from j) shows_it (row_in mem (rows + words_in_row * j)) brings (up_to size) (needless j)

        within : (i : ℕ) → Memᴰ i (keep brings (up_to size)) → i < size
        within i h = number i (keep_says brings (up_to size) i h).0

        by : (numbers : List ℕ) → keep brings (up_to size) ≡ numbers → Rows (λ j. row_met j (up_to size)) mem (arrived (led numbers mem rows) mem rows table size v)
        by [] e = record { kept = kept_self rows size mem; shows = λ j h. ap (row_met j) (sym e) ∙ all_met j }
        by (n ∷ numbers) e =
            let inside : (i : ℕ) → Memᴰ i (n ∷ numbers) → i < size = λ i h. within i (subst⁻¹ (λ (l : List ℕ). Memᴰ i l) e h) in
            let first : ℕ = lead (n ∷ numbers) mem rows in
            let hf : first < size = lead_within mem rows size few (omega (arith, inside n (Memᴰ.head refl))) (n ∷ numbers) inside in
            let done =
            arrived_at triangle (first ∷ n ∷ numbers) (λ i h. ⊎_elim (λ same. subst⁻¹ (λ (k : ℕ). k < size) same hf) (inside i) (Memᴰ.cases_cons h)) mem ready plain closed
            in
            record {
              kept = done.kept;
              shows =
                  λ j h.
                  done.shows j h
                  ∙ ap (turned j first) (ap (row_met j) (sym e) ∙ all_met j)
                  ∙ met_again (seen_from j) (seen_from j) shows_it (row_in mem (rows + words_in_row * j)) first (up_to size) (up_to_has size first hf);
            }

    -- No source was offered: the memory is as it was.
    pub arrived_none : (numbers mem : List ℕ) → any_news false numbers mem rows table size v ≡ false → arrived numbers mem rows table size v ≡ mem
    unfolding arrived any_news metIn
    arrived_none [] mem e = refl
    arrived_none (i ∷ numbers) mem e = by (is_news mem v (rows + words_in_row * i)) refl e (arrived_none numbers mem)
      where
        spreads : List ℕ
        spreads = spread size mem rows (table + size * i) v (source_in mem (rows + words_in_row * i)).distance

        by : (b : Bool) → is_news mem v (rows + words_in_row * i) ≡ b → any_news (b || false) numbers (cond b spreads mem) rows table size v ≡ false
            → (any_news false numbers mem rows table size v ≡ false → arrived numbers mem rows table size v ≡ mem) → arrived numbers (cond b spreads mem) rows table size v ≡ mem
        by true f g later = absurd (true≢false (sym (news_kept rows table size v numbers spreads) ∙ g))
        by false f g later = later g
