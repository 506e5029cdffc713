-- Sections that agree with a target, one after the other.
-- Assumes nothing.
use mathlib.Core.Path.{◌≡◌, ap, sym, ◌∙◌}
use mathlib.Core.Logic.{◌⊎◌, inl, inr}
use mathlib.Core.List.{List}
use Prim.Native.Nat.{ℕ, ◌+◌, ◌*◌, ◌-◌, ◌≤◌, ◌<◌}
use native.Mathlib.Decide.{dec_lt}
use native.Mathlib.Omega.{arith}
use lib.ListN.{length, replicate, length-replicate, get_or-replicate}
use lib.Seq.{sets}
use Rattle.words.specs.Lists.{word}
use Rattle.words.proofs.Sums.{in_record, record_within}
use Rattle.words.proofs.Stores.{stored_in, stored_out}
use Rattle.records.specs.Cleared.{cleared}
use Rattle.records.specs.Written.{InRecords, Written}
use Rattle.records.specs.Agrees.{Agrees}

module _ (target : List ℕ) where
  pub agrees_join : (low middle high : ℕ) (mem : List ℕ) → Agrees target low middle mem → Agrees target middle high mem → Agrees target low high mem
  agrees_join low middle high mem p q =
      record { at = λ a from to. elim (dec_lt a middle) [ yes below ↦ p.at a from below | no above ↦ q.at a (omega (arith, above)) to ] }

  pub agrees_within : (low high low' high' : ℕ) (mem : List ℕ) → low ≤ low' → high' ≤ high → Agrees target low high mem → Agrees target low' high' mem
  agrees_within low high low' high' mem from to p = record { at = λ a above below. p.at a (omega arith) (omega arith) }

  -- the records written agree
  pub written_agrees : (base size n : ℕ) (record_of : ℕ → List ℕ) (start mem : List ℕ) → Written base size 0 n record_of start mem
      → ((k w : ℕ) → k < n → w < size → word target (base + size * k + w) ≡ word (record_of k) w) → Agrees target base (base + size * n) mem
  written_agrees base size n record_of start mem w is =
      record {
        at = λ a from to.
            let found = in_record size n (a - base) (omega arith) in
            let place : a ≡ base + size * found.number + found.at = omega (arith, found.is_sum) in
            ap (word mem) place
            ∙ w.right found.number found.at (omega arith) found.is_record_lem found.is_within
            ∙ sym (is found.number found.at found.is_record_lem found.is_within)
            ∙ ap (word target) (sym place);
      }

  -- and what agreed before or after them still does
  pub written_kept : (base size n : ℕ) (record_of : ℕ → List ℕ) (start mem : List ℕ) → Written base size 0 n record_of start mem → (low high : ℕ) → (high ≤ base) ⊎ (base + size * n ≤ low)
      → Agrees target low high start → Agrees target low high mem
  written_kept base size n record_of start mem w low high away p = record { at = λ a from to. w.kept a (λ within. apart a from to within away) ∙ p.at a from to }
    where
      apart : (a : ℕ) → low ≤ a → a < high → InRecords base size 0 n a → (high ≤ base) ⊎ (base + size * n ≤ low) → ⊥
      apart a from to x (inl before) = omega (arith, x.place)
      apart a from to x (inr after) = omega (arith, x.place, record_within size n x.number x.at x.to x.inside)

  -- a run of stores
  pub stored_agrees : (mem mem' : List ℕ) (at : ℕ) (xs : List ℕ) → mem' ≡ sets mem at xs → at + length xs ≤ length mem → ((j : ℕ) → j < length xs → word target (at + j) ≡ word xs j)
      → Agrees target at (at + length xs) mem'
  stored_agrees mem mem' at xs e fits is =
      record {
        at = λ a from to.
            let place : a ≡ at + (a - at) = omega arith in
            ap (λ (l : List ℕ). word l a) e
            ∙ ap (word (sets mem at xs)) place
            ∙ stored_in mem at xs (a - at) (omega arith) fits
            ∙ sym (is (a - at) (omega arith))
            ∙ ap (word target) (sym place);
      }

  pub stored_kept : (mem mem' : List ℕ) (at : ℕ) (xs : List ℕ) → mem' ≡ sets mem at xs → (low high : ℕ) → (high ≤ at) ⊎ (at + length xs ≤ low) → Agrees target low high mem → Agrees target low high mem'
  stored_kept mem mem' at xs e low high away p =
      record { at = λ a from to. ap (λ (l : List ℕ). word l a) e ∙ stored_out mem at xs a (λ j h place. apart a from to j h place away) ∙ p.at a from to }
    where
      apart : (a : ℕ) → low ≤ a → a < high → (j : ℕ) → j < length xs → a ≡ at + j → (high ≤ at) ⊎ (at + length xs ≤ low) → ⊥
      apart a from to j h place (inl before) = omega arith
      apart a from to j h place (inr after) = omega arith

  -- n words 0
  pub cleared_agrees : (mem mem' : List ℕ) (at n : ℕ) → mem' ≡ cleared mem at n → at + n ≤ length mem → ((j : ℕ) → j < n → word target (at + j) ≡ 0) → Agrees target at (at + n) mem'
  unfolding cleared
  cleared_agrees mem mem' at n e fits is =
      let all : length {A = ℕ} (replicate n 0) ≡ n = length-replicate {A = ℕ} n 0 in
      let whole = stored_agrees mem mem' at (replicate n 0) e (omega (arith, all)) (λ j h. let k : j < n = omega (arith, all) in is j k ∙ sym (get_or-replicate n j 0 0 k)) in
      record { at = λ a from to. whole.at a from (omega (arith, all)) }

  pub cleared_kept : (mem mem' : List ℕ) (at n : ℕ) → mem' ≡ cleared mem at n → (low high : ℕ) → (high ≤ at) ⊎ (at + n ≤ low) → Agrees target low high mem → Agrees target low high mem'
  unfolding cleared
  cleared_kept mem mem' at n e low high away p = stored_kept mem mem' at (replicate n 0) e low high (by away) p
    where
      by : (high ≤ at) ⊎ (at + n ≤ low) → (high ≤ at) ⊎ (at + length {A = ℕ} (replicate n 0) ≤ low)
      by (inl before) = inl before
      by (inr after) = inr (omega (arith, length-replicate {A = ℕ} n 0))
