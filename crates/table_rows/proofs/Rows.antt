-- How far the loops over the rows of a table have come, and a table that is lent and put back.
-- Assumes nothing.
use mathlib.Core.Path.{◌≡◌, refl, sym, ap, ◌∙◌}
use mathlib.Core.Logic.{◌⊎◌, inl, inr, ⊎_elim, ◌≢◌}
use mathlib.Core.List.{List}
use Prim.Native.Nat.{ℕ, ◌+◌, ◌*◌, ◌-◌, ◌≤◌, ◌<◌, min}
use native.Mathlib.Nat.{mul-le-mul_left, mul-suc, eq-or-lt_of_le}
use native.Mathlib.Decide.{dec_lt, ℕ_discrete}
use native.Mathlib.Omega.{arith}
use Rattle.std.proofs.lemmas.List.{places, get_or-replicate}
use borrow.Author.Rules.{rules}
use borrow.Rule.Slice.PartMut.{put_mid, same_len_mid}
use borrow.Author.Tests.{eq-eqb, ne_eqb}
use lib.ListN.{length, get_or, set, take, drop, replicate, length-take, length-drop, length-replicate, length-set}
use lib.Seq.{get_or-take, get_or-drop, get_or-set_same, get_or-set_other}
use Rattle.words.specs.Limits.{most_borders, FAR}
use Rattle.table_rows.specs.Flat.{entry, through, blank, Holds, RowIs, Begins, StartsWith, Becomes, Tried}

-- ---- a part of a list put back

module _ (words : List ℕ) (from to : ℕ) (rising : from ≤ to) (inside : to ≤ length words) where
  pub part_length : length (take (to - from) (drop from words)) ≡ to - from
  part_length = simp (length-take, length-drop) (omega arith)

  pub part_at : (i : ℕ) → from + i < to → get_or (take (to - from) (drop from words)) i 0 ≡ get_or words (from + i) 0
  part_at i h = get_or-take (to - from) (drop from words) i 0 (omega arith) ∙ get_or-drop from words i 0

  module _ (new : List ℕ) where
    put_before : (i : ℕ) → i < from → get_or (put_mid from (to - from) words new) i 0 ≡ get_or words i 0
    put_before i h = search (rules, places)

    module _ (sized : length new ≡ to - from) where
      put_at : (i : ℕ) → from + i < to → get_or (put_mid from (to - from) words new) (from + i) 0 ≡ get_or new i 0
      put_at i h = search (rules, places)

      put_after : (i : ℕ) → to ≤ i → get_or (put_mid from (to - from) words new) i 0 ≡ get_or words i 0
      put_after i h = search (rules, places)

      pub put_outside : (i : ℕ) → (i < from) ⊎ (to ≤ i) → get_or (put_mid from (to - from) words new) i 0 ≡ get_or words i 0
      put_outside i out = ⊎_elim (put_before i) (put_after i) out

      pub put_length : length (put_mid from (to - from) words new) ≡ length words
      put_length = same_len_mid from (to - from) words new (sized ∙ sym part_length)

-- ---- the rows of a table

-- a row ends before a later one starts
pub rows_apart : (n : ℕ) {a i : ℕ} → a < i → n * a + n ≤ n * i
rows_apart n {a} h = rw mul-suc at (mul-le-mul_left n h)

-- at row i of `count` rows, n words wide: the rows above have the words of `F`, the others are as at the start
pub record Filling (count n : ℕ) (F : ℕ → ℕ → ℕ) (start words : List ℕ) (i : ℕ) : Type 0 where
  pub fits : n * count ≤ length start
  pub sized : length words ≡ length start
  pub done : (a b : ℕ) → a < i → b < n → entry n words a b ≡ F a b
  pub left : (a b : ℕ) → i ≤ a → a < count → b < n → entry n words a b ≡ entry n start a b

module _ {count n : ℕ} {F : ℕ → ℕ → ℕ} {start words : List ℕ} {i : ℕ} (s : Filling count n F start words i) where
  pub filling_room : i < count → n * i + n ≤ length words
  filling_room h = omega (arith, rows_apart n h, s.fits, s.sized)

  pub filled : count ≤ i → Holds count n words F
  filled h = record { sized = omega (arith, s.fits, s.sized); each = λ a b ha hb. s.done a b (omega arith) hb }

  -- row i, as it is lent
  pub filling_length : i < count → length (take (n * i + n - n * i) (drop (n * i) words)) ≡ n
  filling_length h = part_length words (n * i) (n * i + n) (omega arith) (filling_room h) ∙ omega arith

  pub filling_at : i < count → (b : ℕ) → b < n → get_or (take (n * i + n - n * i) (drop (n * i) words)) b 0 ≡ entry n start i b
  filling_at h b hb = part_at words (n * i) (n * i + n) (omega arith) (filling_room h) b (omega arith) ∙ s.left i b (omega arith) h hb

  -- row i has the words of `F`, and no word outside it has changed
  filling_next : i < count → {after : List ℕ} → length after ≡ length words → ((b : ℕ) → b < n → get_or after (n * i + b) 0 ≡ F i b) →
      ((x : ℕ) → (x < n * i) ⊎ (n * i + n ≤ x) → get_or after x 0 ≡ get_or words x 0) → Filling count n F start after (i + 1)
  filling_next h long own others = record {
    fits = s.fits;
    sized = long ∙ s.sized;
    done = λ a b ha hb. elim (eq-or-lt_of_le ha) [
      | inl q ↦
          let same : a ≡ i = omega arith in
          rw same (own b hb)
      | inr l ↦
          let above : a < i = omega arith in
          others (n * a + b) (inl (omega (arith, rows_apart n above))) ∙ s.done a b above hb
    ];
    left = λ a b ha hn hb.
        let below : i < a = omega arith in
        others (n * a + b) (inr (omega (arith, rows_apart n below))) ∙ s.left a b (omega arith) hn hb;
  }

  pub filling_step : i < count → {new : List ℕ} → RowIs n (F i) new → Filling count n F start (put_mid (n * i) (n * i + n - n * i) words new) (i + 1)
  filling_step h {new} f =
      let inside = filling_room h in
      let sized : length new ≡ n * i + n - n * i = omega (arith, f.sized) in
      filling_next h (put_length words (n * i) (n * i + n) (omega arith) inside new sized)
      (λ b hb. put_at words (n * i) (n * i + n) (omega arith) inside new sized b (omega arith) ∙ f.each b hb)
      (put_outside words (n * i) (n * i + n) (omega arith) inside new sized)

  -- one word of row i is written, and the others have the words of `F` from the start
  pub filling_one : i < count → (j : ℕ) → j < n → {v : ℕ} → v ≡ F i j → ((b : ℕ) → b < n → b ≢ j → entry n start i b ≡ F i b) → Filling count n F start (set words (n * i + j) v) (i + 1)
  filling_one h j hj {v} e kept =
      filling_next h (length-set words (n * i + j) v) (λ b hb. own b hb (ℕ_discrete b j))
      (λ x out. get_or-set_other words (n * i + j) x v 0 (λ same. ⊎_elim (λ below. omega arith) (λ above. omega arith) out))
    where
      own : (b : ℕ) → b < n → Dec (b ≡ j) → get_or (set words (n * i + j) v) (n * i + b) 0 ≡ F i b
      own b hb (yes same) = rw same (get_or-set_same words (n * i + j) v 0 (omega (arith, filling_room h)) ∙ e)
      own b hb (no other) =
          get_or-set_other words (n * i + j) (n * i + b) v 0 (λ same. other (omega arith))
          ∙ s.left i b (omega arith) h hb ∙ kept b hb other

-- ---- one node tried

module _ {n k : ℕ} {start words : List ℕ} {i : ℕ} (s : Filling n n (through k (entry n start)) start words i) where
  module _ (hi : i < n) (hk : k < n) where
    module _ {row : List ℕ} (copied : StartsWith n k start row) where
      pub relaxed_row : {new : List ℕ} →
          Begins (length (take (n * i + n - n * i) (drop (n * i) words))) (λ j. min (get_or (take (n * i + n - n * i) (drop (n * i) words)) j 0) (get_or words (n * i + k) 0 + get_or row j 0)) (take (n * i + n - n * i) (drop (n * i) words)) new →
          RowIs n (through k (entry n start) i) new
      unfolding through
      relaxed_row e = record {
        sized = e.sized ∙ filling_length s hi;
        each = λ b hb. e.each b (omega (arith, filling_length s hi)) ∙ rw (filling_at s hi b hb, copied.each b hb, s.left i k (omega arith) hi hk);
      }

-- ---- a table blanked

module _ {n : ℕ} {start words : List ℕ} {i : ℕ} (s : Filling n n blank start words i) where
  -- 0 is written on the diagonal, where FAR stands everywhere at the start
  pub blanked_row : i < n → (long : ℕ) → start ≡ replicate long FAR → Filling n n blank start (set words (n * i + i) 0) (i + 1)
  unfolding blank
  blanked_row h long far =
      filling_one s h i h (rw (eq-eqb i i refl))
      (λ b hb other. rw (ne_eqb i b (λ same. other (sym same))) (all_far (n * i + b) (omega (arith, rows_apart n h, s.fits))))
    where
      all_far : (x : ℕ) → x < length start → get_or start x 0 ≡ FAR
      all_far x hx = rw far (get_or-replicate long x FAR 0 (omega (arith, ap length far, length-replicate long FAR)))

-- places in two rows differ, and two places in one row
pub places_differ : (n a b i j : ℕ) → b < n → j < n → n * a + b ≡ n * i + j → (a ≡ i) × (b ≡ j)
places_differ n a b i j hb hj e = elim (order a i) [
  | inl same ↦ (same, omega (arith, ap (λ (k : ℕ). n * k) same))
  | inr apart ↦ absurd (⊎_elim (λ less. omega (arith, rows_apart n less)) (λ more. omega (arith, rows_apart n more)) apart)
]
  where
    order : (a i : ℕ) → (a ≡ i) ⊎ ((a < i) ⊎ (i < a))
    order a i = elim (dec_lt a i) [
      | yes less ↦ inr (inl less)
      | no more ↦ elim (dec_lt i a) [
        | yes less ↦ inr (inr less)
        | no same ↦ inl (omega (arith, more, same))
      ]
    ]

-- ---- a table that is lent and put back

module _ (mem : List ℕ) (at n : ℕ) (T : (ℕ → ℕ → ℕ) → ℕ → ℕ → ℕ) (fits : at + n * n ≤ length mem) (new : List ℕ)
    (sized : length new ≡ length (take (at + n * n - at) (drop at mem))) where
  lent : length (take (at + n * n - at) (drop at mem)) ≡ at + n * n - at
  lent = part_length mem at (at + n * n) (omega arith) fits

  pub lent_length : length (put_mid at (at + n * n - at) mem new) ≡ length mem
  lent_length = put_length mem at (at + n * n) (omega arith) fits new (sized ∙ lent)

  pub becomes : ((i j : ℕ) → i < n → j < n → entry n new i j ≡ T (λ a b. get_or mem (at + (n * a + b)) 0) i j) → Becomes at n T mem (put_mid at (at + n * n - at) mem new)
  becomes each = record {
    outside = put_outside mem at (at + n * n) (omega arith) fits new (sized ∙ lent);
    each = λ i j hi hj. put_at mem at (at + n * n) (omega arith) fits new (sized ∙ lent) (n * i + j) (omega (arith, rows_apart n hi)) ∙ each i j hi hj;
  }

-- the lent part has the table's words
pub lent_at : (mem : List ℕ) (at n : ℕ) → at + n * n ≤ length mem → (i j : ℕ) → i < n → j < n →
    entry n (take (at + n * n - at) (drop at mem)) i j ≡ get_or mem (at + (n * i + j)) 0
lent_at mem at n fits i j hi hj = part_at mem at (at + n * n) (omega arith) fits (n * i + j) (omega (arith, rows_apart n hi))

pub through_same : (n k : ℕ) (S T : ℕ → ℕ → ℕ) → k < n → ((i j : ℕ) → i < n → j < n → S i j ≡ T i j) → (i j : ℕ) → i < n → j < n → through k S i j ≡ through k T i j
unfolding through
through_same n k S T hk same i j hi hj = rw (same i j hi hj, same i k hi hk, same k j hk hj)

-- ---- what is left in the memory

pub square_few : {n : ℕ} → n ≤ most_borders → n * n ≤ 16384
square_few {n} h = omega (arith, mul-le-mul_left n h)

module _ (mem : List ℕ) (at n : ℕ) (fits : at + n * n ≤ length mem) (new : List ℕ)
    (same : length new ≡ length (take (at + n * n - at) (drop at mem))) where
  pub tried_there : {k : ℕ} → k < n → Holds n n new (through k (entry n (take (at + n * n - at) (drop at mem)))) → Tried at n k mem (put_mid at (at + n * n - at) mem new)
  tried_there {k} hk H = record {
    sized = lent_length mem at n (through k) fits new same;
    tried = λ _ _ _. becomes mem at n (through k) fits new same
        (λ i j hi hj. H.each i j hi hj ∙ through_same n k (entry n (take (at + n * n - at) (drop at mem))) (λ a b. get_or mem (at + (n * a + b)) 0) hk (lent_at mem at n fits) i j hi hj);
  }
