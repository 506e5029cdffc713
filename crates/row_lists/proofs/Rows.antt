-- The words of the rows, cut out of the memory and read.
-- Assumes nothing.
use mathlib.Core.Path.{◌≡◌, sym, ◌∙◌, ap, subst}
use mathlib.Core.Bool.{Bool, true, false, cond, true≢false}
use mathlib.Core.List.{List}
use Prim.Native.Nat.{ℕ, suc, ◌+◌, ◌*◌, ◌%◌, ◌≤◌, ◌<◌}
use native.Mathlib.Omega.{arith}
use lib.ListN.{length, drop, take, length-take, length-drop}
use lib.Seq.{get_or-take, get_or-drop}
use lib.Dec.{eqb}
use Rattle.layout.specs.Layout.{rows_in_part, table_in_part, part_word}
use Rattle.words.specs.Lists.{word}
use Rattle.words.specs.Ranks.{rank}
use Rattle.words.proofs.Ranks.{rank_kept, rank_left}
use Rattle.part_words.specs.Part.{rows_in, lies_within}
use Rattle.part_words.proofs.Fits.{fits_pass}
use Rattle.row_lists.specs.Rows.{near_at, Apart, Fits, shows_own}

-- the words of a part's rows, and word w of row i among them
module _ (mem : List ℕ) (first size : ℕ) {rows : List ℕ} (cut : rows ≡ take (4 * size) (drop first mem)) where
  pub rows_fit : first + 4 * size ≤ length mem → length rows ≡ 4 * size
  rows_fit h = ap length cut ∙ simp (length-take, length-drop) (omega arith)

  pub row_read : (i w : ℕ) → i < size → w < 4 → word rows (4 * i + w) ≡ word mem (first + 4 * i + w)
  row_read i w h k =
      ap (λ (l : List ℕ). word l (4 * i + w)) cut ∙ get_or-take (4 * size) (drop first mem) (4 * i + w) 0 (omega arith) ∙ get_or-drop first mem (4 * i + w) 0 ∙ ap (word mem) (omega arith)

module _ (mem : List ℕ) (first : ℕ) (dx : List ℕ) (i : ℕ) {owner : ℕ} (isOwner : owner ≡ word mem (first + 4 * i + 2)) where
  pub near_read : {d : ℕ} → d ≡ word dx (owner % 65536) → d ≡ near_at mem first dx i
  near_read isNear = isNear ∙ ap (λ (k : ℕ). word dx (k % 65536)) isOwner

-- a row that shows its own vertex, read
pub own_read : (mem : List ℕ) (first i : ℕ) {near : ℕ} → near ≡ word mem (first + 4 * i + 1) → eqb near 0 ≡ shows_own mem first i
unfolding shows_own
own_read mem first i isNear = ap (λ (k : ℕ). eqb k 0) isNear

-- one row more is counted
pub count_more : (mem : List ℕ) (first i n : ℕ) {near n' : ℕ} → near ≡ word mem (first + 4 * i + 1) → n ≡ rank (shows_own mem first) i → n' ≡ cond (eqb near 0) (n + 1) n → n' ≡ rank (shows_own mem first) (i + 1)
unfolding shows_own
count_more mem first i n {near} {n'} isNear so isCount = by (eqb near 0) isCount (ap (λ (k : ℕ). eqb k 0) isNear)
  where
    next : rank (shows_own mem first) (i + 1) ≡ rank (shows_own mem first) (suc i)
    next = ap (rank (shows_own mem first)) (omega arith)

    by : (b : Bool) → n' ≡ cond b (n + 1) n → b ≡ shows_own mem first i → n' ≡ rank (shows_own mem first) (i + 1)
    by true e is = omega (arith, e, next, rank_kept (shows_own mem first) i (sym is))
    by false e is = omega (arith, e, next, rank_left (shows_own mem first) i (sym is))

-- a part that fits lies within the memory
pub fits_within : {mem : List ℕ} {p : ℕ} → Fits mem p → lies_within mem p ≡ true
fits_within {mem} {p} f = fits_pass mem (part_word mem p rows_in_part) (part_word mem p table_in_part) (rows_in mem p) f.rows f.table

pub fits_out : {mem : List ℕ} {p : ℕ} → lies_within mem p ≡ false → Fits mem p → ⊥
fits_out out f = true≢false (sym (fits_within f) ∙ out)

-- under the names of a part's words
pub apart_named : (mem : List ℕ) {first first' size size' : ℕ} → first ≡ first' → size ≡ size' → Apart mem first size → Apart mem first' size'
apart_named mem {first} {size' = size'} f s a = subst (λ (k : ℕ). Apart mem k size') f (subst (λ (k : ℕ). Apart mem first k) s a)
