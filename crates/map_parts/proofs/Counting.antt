-- The loop that counts how often each number comes.
-- Assumes nothing.
use mathlib.Core.Path.{◌≡◌, sym, ap, ap₂, ◌∙◌}
use mathlib.Core.Bool.{Bool, true, false, cond}
use mathlib.Core.List.{List}
use Prim.Native.Nat.{ℕ, suc, ◌+◌, ◌-◌, ◌<◌, ◌≤◌}
use native.Mathlib.Decide.{ℕ_discrete, dec_lt}
use native.Mathlib.Omega.{arith}
use lib.ListN.{length, get_or, set, length-set}
use lib.Seq.{get_or-set_same, get_or-set_other, set_out}
use lib.Dec.{eqb}
use borrow.Author.Tests.{eq-eqb, ne_eqb}
use Rattle.words.specs.Limits.{most_parts}
use Rattle.words.specs.Lists.{count_from, word, keep}
use Rattle.map_parts.specs.Tally.{bumped, tallied, Tallied}

-- The loop's state at number i: what is counted and what is left to count make the whole count.
pub record Counting (numbers : List ℕ) (n i : ℕ) (counts : List ℕ) : Type 0 where
  pub reached : i ≤ n
  pub room : length counts ≡ most_parts
  pub few : (p : ℕ) → get_or counts p 0 ≤ i
  pub each : (p : ℕ) → p < most_parts → get_or counts p 0 + tallied numbers i (n - i) p ≡ tallied numbers 0 n p

module _ (numbers : List ℕ) (n i p : ℕ) (h : i < n) where
  counted : (b : Bool) → eqb (word numbers i) p ≡ b → tallied numbers i (n - i) p ≡ cond b (suc (tallied numbers (i + 1) (n - (i + 1)) p)) (tallied numbers (i + 1) (n - (i + 1)) p)
  unfolding tallied
  counted b e =
      let more : n - i ≡ suc (n - (i + 1)) = omega arith in
      let next : suc i ≡ i + 1 = omega arith in
      ap (λ (k : ℕ). tallied numbers i k p) more ∙ by b e ∙ ap (λ (k : ℕ). cond b (suc (tallied numbers k (n - (i + 1)) p)) (tallied numbers k (n - (i + 1)) p)) next
    where
      by : (b : Bool) → eqb (word numbers i) p ≡ b
          → length (keep (λ k. eqb (word numbers k) p) (count_from i (suc (n - (i + 1))))) ≡ cond b (suc (length (keep (λ k. eqb (word numbers k) p) (count_from (suc i) (n - (i + 1)))))) (length (keep (λ k. eqb (word numbers k) p) (count_from (suc i) (n - (i + 1)))))
      by true e = rw e
      by false e = rw e

module _ {numbers : List ℕ} {n : ℕ} where
  pub counting_start : {counts : List ℕ} → length counts ≡ most_parts → ((p : ℕ) → get_or counts p 0 ≡ 0) → Counting numbers n 0 counts
  counting_start room clear =
      record {
        reached = omega arith;
        room = room;
        few = λ p. omega (arith, clear p);
        each = λ p h. ap₂ (λ (x k : ℕ). x + tallied numbers 0 k p) (clear p) (let whole : n - 0 ≡ n = omega arith in whole) ∙ omega arith;
      }

  -- number i is that of a part
  counting_hit : {counts : List ℕ} (i k : ℕ) → Counting numbers n i counts → i < n → k ≡ word numbers i → k < most_parts
      → Counting numbers n (i + 1) (set counts k (get_or counts k 0 + 1))
  counting_hit {counts} i k s h is part =
      record {
        reached = omega arith;
        room = length-set counts k _ ∙ s.room;
        few = λ p. few p (ℕ_discrete p k);
        each = λ p hp. each p hp (ℕ_discrete p k);
      }
    where
      here : get_or (set counts k (get_or counts k 0 + 1)) k 0 ≡ get_or counts k 0 + 1
      here = get_or-set_same counts k _ 0 (omega (arith, s.room))

      few : (p : ℕ) → Dec (p ≡ k) → get_or (set counts k (get_or counts k 0 + 1)) p 0 ≤ i + 1
      few p (yes same) = rw same (omega (arith, here, s.few k))
      few p (no other) = omega (arith, get_or-set_other counts k p (get_or counts k 0 + 1) 0 other, s.few p)

      each : (p : ℕ) → p < most_parts → Dec (p ≡ k) → get_or (set counts k (get_or counts k 0 + 1)) p 0 + tallied numbers (i + 1) (n - (i + 1)) p ≡ tallied numbers 0 n p
      each p hp (yes same) = rw same (omega (arith, here, s.each k part, counted numbers n i k h true (eq-eqb _ k (sym is))))
      each p hp (no other) =
          omega (arith, get_or-set_other counts k p (get_or counts k 0 + 1) 0 other, s.each p hp, counted numbers n i p h false (ne_eqb _ p (λ e. other (sym e ∙ sym is))))

  -- number i is none
  counting_miss : {counts : List ℕ} (i k : ℕ) → Counting numbers n i counts → i < n → k ≡ word numbers i → most_parts ≤ k → Counting numbers n (i + 1) counts
  counting_miss {counts} i k s h is none =
      record {
        reached = omega arith;
        room = s.room;
        few = λ p. omega (arith, s.few p);
        each = λ p hp. omega (arith, s.each p hp, counted numbers n i p h false (ne_eqb _ p (λ e. absurd (omega arith))));
      }

  -- number i is counted
  pub counting_step : {counts after : List ℕ} (i k : ℕ) → Counting numbers n i counts → i < n → k ≡ word numbers i → after ≡ bumped counts k → Counting numbers n (i + 1) after
  unfolding bumped
  counting_step {counts} i k s h is moved = rw moved (by (dec_lt k most_parts))
    where
      by : Dec (k < most_parts) → Counting numbers n (i + 1) (set counts k (get_or counts k 0 + 1))
      by (yes part) = counting_hit i k s h is part
      by (no none) = rw (set_out counts k (get_or counts k 0 + 1) (omega (arith, s.room, none))) (counting_miss i k s h is (omega (arith, none)))

  pub counting_done : {counts : List ℕ} (i : ℕ) → Counting numbers n i counts → n ≤ i → Tallied numbers n counts
  unfolding tallied
  counting_done {counts} i s h =
      record {
        room = s.room;
        few = λ p. omega (arith, s.few p, s.reached);
        each = λ p hp. (let none : n - i ≡ 0 = omega arith in omega (arith, ap (λ (k : ℕ). tallied numbers i k p) none)) ∙ s.each p hp;
      }
