-- One part more, before those after it.
-- Assumes nothing.
use mathlib.Core.Path.{◌≡◌, refl, ap, ap₂, sym, subst, ◌∙◌}
use mathlib.Core.Bool.{Bool, true, false, ◌&&◌, cond}
use mathlib.Core.List.{List, ◌∷◌, ◌++◌, Memᴰ}
use Prim.Native.Nat.{ℕ, suc, ◌+◌, ◌*◌, ◌-◌, ◌^◌, ◌≤◌, ◌<◌, min}
use native.Mathlib.Nat.{mul-le-mul_left}
use native.Mathlib.Decide.{ℕ_discrete}
use native.Mathlib.Omega.{arith}
use lib.ListN.{length, set, length-set, get_or-eq_default}
use lib.Seq.{sets, get_or-set_same, get_or-set_other}
use lib.Dec.{eqb, ltb}
use borrow.Author.Tests.{eq-eqb, ne_eqb, lt-ltb, le-ltb}
use Rattle.words.specs.Lists.{word, count_from, up_to, keep, first_or}
use Rattle.words.proofs.Lists.{count_from_below, keep_same}
use Rattle.words.proofs.Places.{count_from_from}
use Rattle.words.proofs.Sums.{sum_last}
use Rattle.words.proofs.Ranks.{keep_none, keep_split}
use Rattle.layout.specs.Layout.{words_in_part, words_in_row, parts_at, part_at}
use Rattle.roads.specs.Map.{Map, part_count}
use Rattle.parts.specs.Tree.{parent_of, children}
use Rattle.parts.specs.Size.{size_of, table_words_below, table_words, rows_below, row_count}
use Rattle.image.specs.Places.{rows_at, tables_at, table_of, first_row_of}
use Rattle.image.specs.Image.{next_sibling, part_record}
use Rattle.image.proofs.Records.{rows_start, rows_end}
use Rattle.records.specs.Written.{Written}
use Rattle.records.proofs.Written.{written_none, written_down}
use Rattle.opening_parts.specs.Parts.{part_words, Sized, PartsReady, PartsStand}

-- the square of a number below 2^16
pub square_fits : (x : ℕ) → x < 65536 → x * x < 4294967296
square_fits x h = omega (arith, mul-le-mul_left {m = x} {n = 65535} x (omega arith))

-- what ends at `end` and takes n words, n of them before it
back : (n end start : ℕ) → n < 4294967296 → n ≤ end → start ≡ end - min n (2 ^ 32 - 1) → start + n ≡ end
back n end start fits h e = omega arith

-- c is a child of q
abbrev pub child_test : Map → ℕ → ℕ → Bool
child_test m q c = ltb 0 c && eqb (parent_of m c) q

-- the first child of q with a number from p on, 0 where there is none
unfoldable pub first_from : Map → ℕ → ℕ → ℕ
first_from m q p = first_or 0 (keep (child_test m q) (count_from p (part_count m - p)))

-- what a test that fails below a keeps
keep_from : (test : ℕ → Bool) (a n : ℕ) → a ≤ n → ((i : ℕ) → i < a → test i ≡ false) → keep test (up_to n) ≡ keep test (count_from a (n - a))
keep_from test a n h fails =
    keep_split test a n h ∙ ap (λ (l : List ℕ). l ++ keep test (count_from a (n - a))) (keep_none test (up_to a) (λ i k. fails i (omega (arith, count_from_below 0 a i k))))

-- the loop's state before part p
pub record Families (m : Map) (p : ℕ) (cs : List ℕ) (table row : ℕ) : Type 0 where
  pub first : (q : ℕ) → q < length cs → word cs q ≡ first_from m q p
  pub table_at : table ≡ table_of m p
  pub row_at_lem : row ≡ first_row_of m p

module _ (m : Map) (parents sizes : List ℕ) (parts tablesEnd rowsEnd : ℕ) (cs₀ mem₀ : List ℕ) (ready : PartsReady m parents sizes parts tablesEnd rowsEnd cs₀ mem₀) where
  pub families_none : Families m parts cs₀ tablesEnd rowsEnd
  unfolding first_from table_of first_row_of table_words row_count
  families_none =
      record {
        first = λ q h. ready.none q h ∙ ap (λ (k : ℕ). first_or 0 (keep (child_test m q) (count_from parts k))) (let none : 0 ≡ part_count m - parts = omega (arith, ready.count) in none);
        table_at = ready.tables ∙ rows_start m ∙ ap (λ (k : ℕ). tables_at m + table_words_below m k) (sym ready.count);
        row_at_lem = ready.rows ∙ sym (rows_end m) ∙ ap (λ (k : ℕ). rows_at m + words_in_row * rows_below m k) (sym ready.count);
      }

  pub parts_none : PartsStand m parts mem₀ mem₀
  parts_none = subst (λ (k : ℕ). Written parts_at words_in_part parts k (part_record m) mem₀ mem₀) ready.count (written_none parts_at words_in_part (part_record m) parts mem₀)

  module _ (p next size table table' row row' parent child sibling at : ℕ) (cs cs' mem mem' : List ℕ) (more : next ≡ p + 1) (some : p < parts) (long : length cs ≡ length cs₀) (old : Families m next cs table row)
      (is-size : size ≡ word sizes p) (table_before : table' ≡ table - min (size * size) (2 ^ 32 - 1)) (row_before : row' ≡ row - min (size * words_in_row) (2 ^ 32 - 1))
      (is-parent : parent ≡ word parents p) (is_child : child ≡ word cs p) (is-sibling : sibling ≡ word cs parent) (adopts : cs' ≡ set cs parent p)
      (is_at : at ≡ part_at p) (stored : mem' ≡ sets mem at (part_words parent size row' table' child sibling)) where
    here : p < part_count m
    here = omega (arith, ready.count)

    later : next ≡ suc p
    later = omega arith

    size_is : size ≡ size_of m p
    size_is = is-size ∙ ready.sizes_shown p here

    size_small : size < 65536
    size_small = omega (arith, size_is, ready.small p here)

    parent_is : parent ≡ parent_of m p
    parent_is = is-parent ∙ ready.parents_shown p here

    table_step : table_of m next ≡ table_of m p + size * size
    unfolding table_of table_words_below
    table_step = omega (arith, ap (table_of m) later, sum_last (λ q. size_of m q * size_of m q) p, ap (λ (k : ℕ). k * k) size_is)

    row_step : first_row_of m next ≡ first_row_of m p + words_in_row * size
    unfolding first_row_of rows_below
    row_step = omega (arith, ap (first_row_of m) later, sum_last (size_of m) p, size_is)

    table_is : table' ≡ table_of m p
    table_is = omega (arith, table_step, old.table_at, back (size * size) table table' (square_fits size size_small) (omega (arith, table_step, old.table_at)) table_before)

    row_is : row' ≡ first_row_of m p
    row_is = omega (arith, row_step, old.row_at_lem, back (size * words_in_row) row row' (omega (arith, size_small)) (omega (arith, row_step, old.row_at_lem)) row_before)

    first_later : (q : ℕ) → q < length cs → word cs q ≡ first_from m q (suc p)
    first_later q h = old.first q h ∙ ap (first_from m q) later

    -- the children of a part have higher numbers
    child_is : child ≡ first_or 0 (children m p)
    unfolding children first_from
    child_is =
        is_child
        ∙ first_later p (omega (arith, long, ready.wide, ready.few, here))
        ∙ ap (first_or 0) (sym (keep_from (child_test m p) (suc p) (part_count m) (omega (arith, here)) none_below))
      where
        by_number : (c : ℕ) → c < suc p → Dec (c ≡ 0) → child_test m p c ≡ false
        by_number c h (yes root) = ap (λ (b : Bool). b && eqb (parent_of m c) p) (le-ltb 0 c (omega arith))
        by_number c h (no other) =
            ap (λ (b : Bool). b && eqb (parent_of m c) p) (lt-ltb 0 c (omega (arith, other)))
            ∙ ne_eqb (parent_of m c) p (λ e. omega (arith, ready.falls c (omega (arith, other)) (omega (arith, here))))

        none_below : (c : ℕ) → c < suc p → child_test m p c ≡ false
        none_below c h = by_number c h (ℕ_discrete c 0)

    sibling_test : ℕ → Bool
    sibling_test q = ltb p q && eqb (parent_of m q) (parent_of m p)

    -- the next sibling is the first child of the parent with a higher number
    sibling_from : next_sibling m p ≡ first_or 0 (keep (child_test m (parent_of m p)) (count_from (suc p) (part_count m - suc p)))
    unfolding next_sibling sibling_test
    sibling_from =
        ap (first_or 0)
        (keep_from sibling_test (suc p) (part_count m) (omega (arith, here)) (λ q h. ap (λ (b : Bool). b && eqb (parent_of m q) (parent_of m p)) (le-ltb p q (omega arith)))
        ∙ keep_same sibling_test (child_test m (parent_of m p)) (count_from (suc p) (part_count m - suc p))
        (λ q h.
        let above = count_from_from (suc p) (part_count m - suc p) q h in
        ap₂ (λ (a b : Bool). a && eqb (parent_of m q) (parent_of m p)) (lt-ltb p q (omega (arith, above)) ∙ sym (lt-ltb 0 q (omega (arith, above)))) (lt-ltb p q (omega (arith, above)))))

    sibling_is : sibling ≡ next_sibling m p
    unfolding first_from
    sibling_is = is-sibling ∙ ap (word cs) parent_is ∙ by (ℕ_discrete p 0) ∙ sym sibling_from
      where
        -- nobody's parent is the root's
        none_here : (q : ℕ) → Memᴰ q (count_from (suc p) (part_count m - suc p)) → p ≡ 0 → child_test m (parent_of m p) q ≡ false
        none_here q h root =
            let above = count_from_from (suc p) (part_count m - suc p) q h in
            let below = count_from_below (suc p) (part_count m - suc p) q h in
            let less = ready.falls q (omega (arith, above)) (omega (arith, below, here)) in
            ap (λ (b : Bool). b && eqb (parent_of m q) (parent_of m p)) (lt-ltb 0 q (omega (arith, above)))
            ∙ ne_eqb (parent_of m q) (parent_of m p) (λ e. omega (arith, less, below, here, ready.few, ready.root, ap (parent_of m) root))

        by : Dec (p ≡ 0) → word cs (parent_of m p) ≡ first_or 0 (keep (child_test m (parent_of m p)) (count_from (suc p) (part_count m - suc p)))
        by (yes root) =
            get_or-eq_default cs 0 (omega (arith, long, ready.wide, ready.root, ap (parent_of m) root))
            ∙ ap (first_or 0) (sym (keep_none (child_test m (parent_of m p)) (count_from (suc p) (part_count m - suc p)) (λ q h. none_here q h root)))
        by (no other) = first_later (parent_of m p) (omega (arith, long, ready.wide, ready.few, here, ready.falls p (omega (arith, other)) here))

    same_record : part_words parent size row' table' child sibling ≡ part_record m p
    unfolding part_record
    same_record = (λ i. part_words (parent_is i) (size_is i) (row_is i) (table_is i) (child_is i) (sibling_is i))

    sized : length (part_record m p) ≡ words_in_part
    unfolding part_record
    sized = refl

    parts_more : PartsStand m next mem₀ mem → PartsStand m p mem₀ mem'
    parts_more w =
        written_down parts_at words_in_part (part_record m) p next (part_count m) mem₀ mem mem' more here sized (omega (arith, ready.room, w.long, here)) w
        (stored ∙ ap₂ (sets mem) is_at same_record)

    -- p in front of the children of its parent
    first_now : (q : ℕ) → q < length cs' → word cs' q ≡ first_from m q p
    unfolding first_from
    first_now q h = by (ℕ_discrete q parent) (ℕ_discrete p 0)
      where
        in_room : q < length cs
        in_room = omega (arith, ap length adopts, length-set cs parent p)

        from_p : keep (child_test m q) (count_from p (part_count m - p)) ≡ cond (child_test m q p) (p ∷ keep (child_test m q) (count_from (suc p) (part_count m - suc p))) (keep (child_test m q) (count_from (suc p) (part_count m - suc p)))
        from_p = ap (λ (k : ℕ). keep (child_test m q) (count_from p k)) (let one : part_count m - p ≡ suc (part_count m - suc p) = omega (arith, here) in one)

        no_child : child_test m q p ≡ false → first_from m q (suc p) ≡ first_or 0 (keep (child_test m q) (count_from p (part_count m - p)))
        no_child e =
            sym (ap (first_or 0) (from_p ∙ ap (λ (b : Bool). cond b (p ∷ keep (child_test m q) (count_from (suc p) (part_count m - suc p))) (keep (child_test m q) (count_from (suc p) (part_count m - suc p)))) e))

        by : Dec (q ≡ parent) → Dec (p ≡ 0) → word cs' q ≡ first_or 0 (keep (child_test m q) (count_from p (part_count m - p)))
        by (yes same) (yes root) = absurd (omega (arith, in_room, long, ready.wide, same, parent_is, ready.root, ap (parent_of m) root))
        by (yes same) (no real) =
            ap (λ (l : List ℕ). word l q) adopts
            ∙ ap (word (set cs parent p)) same
            ∙ get_or-set_same cs parent p 0 (omega (arith, in_room, same))
            ∙ sym
            (ap (first_or 0)
            (from_p
            ∙ ap (λ (b : Bool). cond b (p ∷ keep (child_test m q) (count_from (suc p) (part_count m - suc p))) (keep (child_test m q) (count_from (suc p) (part_count m - suc p))))
            (ap₂ (λ (a b : Bool). a && b) (lt-ltb 0 p (omega (arith, real))) (eq-eqb (parent_of m p) q (sym parent_is ∙ sym same)))))
        by (no other) d =
            ap (λ (l : List ℕ). word l q) adopts
            ∙ get_or-set_other cs parent q p 0 other
            ∙ first_later q in_room
            ∙ no_child (not-both (ltb 0 p) (eqb (parent_of m p) q) (ne_eqb (parent_of m p) q (λ e. other (sym e ∙ sym parent_is))))
          where
            not-both : (a b : Bool) → b ≡ false → (a && b) ≡ false
            not-both true b e = e
            not-both false b e = refl

    -- part p written
    pub part_more : PartsStand m next mem₀ mem → Families m p cs' table' row' × PartsStand m p mem₀ mem'
    part_more w = (record { first = first_now; table_at = table_is; row_at_lem = row_is }, parts_more w)

-- Only the rows.
module _ (m : Map) (sizes : List ℕ) (parts rowsEnd : ℕ) (given : Sized m sizes parts rowsEnd) where
  pub rows_last : rowsEnd ≡ first_row_of m parts
  unfolding first_row_of row_count
  rows_last = given.rows ∙ sym (rows_end m) ∙ ap (λ (k : ℕ). rows_at m + words_in_row * rows_below m k) (sym given.count)

  pub rows_back : (p next size row row' : ℕ) → next ≡ p + 1 → p < parts → size ≡ word sizes p → row' ≡ row - min (size * words_in_row) (2 ^ 32 - 1) → row ≡ first_row_of m next → row' ≡ first_row_of m p
  unfolding first_row_of rows_below
  rows_back p next size row row' more some is-size before at =
      let here : p < part_count m = omega (arith, given.count) in
      let size_is : size ≡ size_of m p = is-size ∙ given.shown p here in
      let later : next ≡ suc p = omega arith in
      let one_on : first_row_of m next ≡ first_row_of m p + words_in_row * size = omega (arith, ap (first_row_of m) later, sum_last (size_of m) p, size_is) in
      omega (arith, at, one_on, back (size * words_in_row) row row' (omega (arith, size_is, given.small p here)) (omega (arith, at, one_on)) before)

  pub rows_first : (row : ℕ) → row ≡ first_row_of m 0 → row ≡ rows_at m
  unfolding first_row_of rows_below
  rows_first row at = omega (arith, at)
