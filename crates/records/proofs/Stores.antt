-- The stores of `put_words` and of `clear` are a run of stores.
-- Assumes nothing.
use Rattle.std.proofs.Common.{◌≡◌, ℕ, zero, suc, ◌+◌, ◌-◌, ◌<◌, ◌≤◌, List, [], ◌∷◌, ◌++◌, length, set, drop, take, refl, sym, ap, ap₂, ◌∙◌, min, arith, length-set, append_assoc}
use native.Mathlib.Decide.{dec_lt}
use lib.ListN.{get_or, replicate, length-replicate}
use lib.Seq.{sets, sets-eq, drop-cons, set_out}
use borrow.Rule.Slice.PartMut.{put_mid}
use Rattle.std.proofs.lemmas.Slice.{put_mid-paste}
use Rattle.std.proofs.lemmas.List.Edits.{paste_all}
use Rattle.records.specs.Cleared.{cleared}

-- the words from number i on, where that one was stored first
pub words_more : (mem words : List ℕ) (at i : ℕ) {mem' : List ℕ} {place : ℕ} → mem' ≡ set mem place (get_or words i 0) → place ≡ at + i → i < length words
    → sets mem' (at + (i + 1)) (drop (i + 1) words) ≡ sets mem (at + i) (drop i words)
words_more mem words at i stored here h =
    let next : at + (i + 1) ≡ suc (at + i) = omega arith in
    let one : i + 1 ≡ suc i = omega arith in
    ap (λ (m : List ℕ). sets m (at + (i + 1)) (drop (i + 1) words)) (stored ∙ ap (λ (k : ℕ). set mem k (get_or words i 0)) here)
    ∙ ap₂ (λ (k : ℕ) (ws : List ℕ). sets (set mem (at + i) (get_or words i 0)) k ws) next (ap (λ (k : ℕ). drop k words) one)
    ∙ sym (ap (sets mem (at + i)) (drop-cons words i 0 h))

-- past the end nothing is stored
pub sets_past : (words mem : List ℕ) (at : ℕ) → length mem ≤ at → sets mem at words ≡ mem
sets_past [] mem at h = refl
sets_past (x ∷ words) mem at h = sets_past words (set mem at x) (suc at) (omega (arith, length-set mem at x)) ∙ set_out mem at x h

-- so of n words 0 as many are stored as have room
fewer : (k n : ℕ) (mem : List ℕ) (at : ℕ) → k ≤ n → length mem ≤ at + k → sets mem at (replicate n 0) ≡ sets mem at (replicate k 0)
fewer zero n mem at h full = sets_past (replicate n 0) mem at (omega arith)
fewer (suc k) zero mem at h full = absurd (omega arith)
fewer (suc k) (suc n) mem at h full = fewer k n (set mem at 0) (suc at) (omega arith) (omega (arith, length-set mem at 0))

-- a filled part of the memory
pub clear_fill : (mem mid : List ℕ) (at n start count : ℕ) → start ≡ min at (length mem) → count ≡ min n (length mem - start) → mid ≡ replicate count 0 → put_mid start (start + count - start) mem mid ≡ cleared mem at n
unfolding cleared
clear_fill mem mid at n start count s c f =
    put_mid-paste start (start + count - start) mem mid (replicate count 0) count f (omega arith) (sym (length-replicate {A = ℕ} count 0))
    ∙ paste_all mem start (replicate count 0) count (sym (length-replicate {A = ℕ} count 0))
    ∙ sym (append_assoc (take start mem) (replicate count 0) (drop (start + count) mem))
    ∙ ap (λ (k : ℕ). take start mem ++ replicate count 0 ++ drop (start + k) mem) (sym (length-replicate {A = ℕ} count 0))
    ∙ sym (sets-eq (replicate count 0) mem start (omega (arith, length-replicate {A = ℕ} count 0)))
    ∙ sym (short (dec_lt (length mem) at))
  where
    short : Dec (length mem < at) → sets mem at (replicate n 0) ≡ sets mem start (replicate count 0)
    short (yes past) = sets_past (replicate n 0) mem at (omega arith) ∙ sym (sets_past (replicate count 0) mem start (omega arith))
    short (no within) = by (dec_lt count n)
      where
        here : at ≡ start
        here = omega (arith, within)

        by : Dec (count < n) → sets mem at (replicate n 0) ≡ sets mem start (replicate count 0)
        by (yes less) = fewer count n mem at (omega arith) (omega (arith, within)) ∙ ap (λ (k : ℕ). sets mem k (replicate count 0)) here
        by (no all) = ap₂ (λ (k l : ℕ). sets mem k (replicate l 0)) here (let same : n ≡ count = omega (arith, all) in same)
