-- The way up from a leaf that counts a vertex for each part that it is a border of; and the loop over the vertices.
-- Assumes nothing.
use mathlib.Core.Path.{◌≡◌, refl, sym, ap, subst, ◌∙◌}
use mathlib.Core.Bool.{Bool, cond}
use mathlib.Core.List.{List, map}
use Prim.Native.Nat.{ℕ, zero, suc, ◌+◌, ◌*◌, ◌-◌, ◌<◌, ◌≤◌}
use native.Mathlib.Decide.{ℕ_discrete, dec_lt}
use native.Mathlib.Omega.{arith}
use lib.ListN.{length, get_or, set, length-set}
use lib.Seq.{get_or-set_same, get_or-set_other, set_out}
use lib.Dec.{eqb}
use borrow.Author.Tests.{lt-ltb, le-ltb, eq-eqb, ne_eqb}
use Rattle.words.specs.Limits.{most_parts}
use Rattle.words.specs.Lists.{count_from, sum, word}
use Rattle.map_parts.specs.Tally.{bumped}
use Rattle.map_borders.specs.Mark.{steps, Marked, BordersCounted}

bumped_length : (counts : List ℕ) (p : ℕ) → length (bumped counts p) ≡ length counts
unfolding bumped
bumped_length counts p = length-set counts p _

bumped_at : (counts : List ℕ) (p q : ℕ) → q < length counts → get_or (bumped counts p) q 0 ≡ cond (eqb p q) 1 0 + get_or counts q 0
unfolding bumped
bumped_at counts p q h = by (ℕ_discrete q p)
  where
    by : Dec (q ≡ p) → get_or (set counts p (get_or counts p 0 + 1)) q 0 ≡ cond (eqb p q) 1 0 + get_or counts q 0
    by (yes same) = rw (same, eq-eqb p p refl) (get_or-set_same counts p (get_or counts p 0 + 1) 0 (omega arith) ∙ omega arith)
    by (no other) = rw (ne_eqb p q (λ e. other (sym e))) (get_or-set_other counts p q (get_or counts p 0 + 1) 0 other ∙ omega arith)

bumped_few : (counts : List ℕ) (p q : ℕ) → get_or (bumped counts p) q 0 ≤ get_or counts q 0 + 1
unfolding bumped
bumped_few counts p q = by (ℕ_discrete q p)
  where
    inside : Dec (p < length counts) → get_or (set counts p (get_or counts p 0 + 1)) p 0 ≤ get_or counts p 0 + 1
    inside (yes h) = omega (arith, get_or-set_same counts p (get_or counts p 0 + 1) 0 h)
    inside (no h) = rw (set_out counts p (get_or counts p 0 + 1) (omega (arith, h))) (omega arith)

    by : Dec (q ≡ p) → get_or (set counts p (get_or counts p 0 + 1)) q 0 ≤ get_or counts q 0 + 1
    by (yes same) = rw same (inside (dec_lt p (length counts)))
    by (no other) = omega (arith, get_or-set_other counts p q (get_or counts p 0 + 1) 0 other)

-- The state on the way up: `left` steps are left, from `part` on.
pub record Marking (parents : List ℕ) (lift leaf : ℕ) (counts : List ℕ) (left part : ℕ) (now : List ℕ) : Type 0 where
  pub room : length now ≡ most_parts
  pub reached : left ≤ most_parts
  pub few : (p : ℕ) → get_or now p 0 + left ≤ get_or counts p 0 + most_parts
  pub each : (p : ℕ) → p < most_parts → get_or now p 0 + steps parents left lift part p ≡ get_or counts p 0 + steps parents most_parts lift leaf p

steps_more : (parents : List ℕ) (left lift part p : ℕ) → 0 < left → lift < part
    → steps parents left lift part p ≡ cond (eqb (word parents part) p) 1 0 + steps parents (left - 1) lift (word parents part) p
unfolding steps
steps_more parents zero lift part p h above = absurd (omega arith)
steps_more parents (suc left) lift part p h above =
    ap (λ (t : Bool). cond t (cond (eqb (word parents part) p) 1 0 + steps parents left lift (word parents part) p) 0) (lt-ltb lift part above)
    ∙ ap (λ (k : ℕ). cond (eqb (word parents part) p) 1 0 + steps parents k lift (word parents part) p) (let fewer : left ≡ suc left - 1 = omega arith in fewer)

steps_stop : (parents : List ℕ) (left lift part p : ℕ) → part ≤ lift → steps parents left lift part p ≡ 0
unfolding steps
steps_stop parents zero lift part p h = refl
steps_stop parents (suc left) lift part p h =
    ap (λ (t : Bool). cond t (cond (eqb (word parents part) p) 1 0 + steps parents left lift (word parents part) p) 0) (le-ltb lift part h)

steps_end : (parents : List ℕ) (left lift part p : ℕ) → left ≤ 0 → steps parents left lift part p ≡ 0
unfolding steps
steps_end parents zero lift part p h = refl
steps_end parents (suc left) lift part p h = absurd (omega arith)

module _ {parents : List ℕ} {lift leaf : ℕ} {counts : List ℕ} where
  pub marking_start : length counts ≡ most_parts → Marking parents lift leaf counts most_parts leaf counts
  marking_start room = record { room = room; reached = omega arith; few = λ p. omega arith; each = λ p h. refl }

  marking_next : {now after : List ℕ} (left part above : ℕ) → Marking parents lift leaf counts left part now → 0 < left → lift < part → above ≡ word parents part
      → after ≡ bumped now above → Marking parents lift leaf counts (left - 1) above after
  marking_next {now} {after} left part above s some more is moved =
      record {
        room = ap length moved ∙ bumped_length now above ∙ s.room;
        reached = omega (arith, s.reached);
        few = λ p. omega (arith, s.few p, bumped_few now above p, ap (λ (l : List ℕ). get_or l p 0) moved);
        each = λ p h.
            omega (
              arith,
              s.each p h,
              ap (λ (l : List ℕ). get_or l p 0) moved,
              bumped_at now above p (omega (arith, s.room)),
              steps_more parents left lift part p some more ∙ ap (λ (q : ℕ). cond (eqb q p) 1 0 + steps parents (left - 1) lift q p) (sym is),
            );
      }

  -- i steps are taken
  pub marking_step : {now after : List ℕ} (i part above : ℕ) → Marking parents lift leaf counts (most_parts - i) part now → i < most_parts → lift < part → above ≡ word parents part
      → after ≡ bumped now above → Marking parents lift leaf counts (most_parts - (i + 1)) above after
  marking_step {after = after} i part above s some more is moved =
      subst (λ (left : ℕ). Marking parents lift leaf counts left above after) (let same : most_parts - i - 1 ≡ most_parts - (i + 1) = omega arith in same)
      (marking_next (most_parts - i) part above s (omega arith) more is moved)

  pub marking_stop : {now : List ℕ} (left part : ℕ) → Marking parents lift leaf counts left part now → part ≤ lift → Marked parents lift leaf counts now
  marking_stop left part s h =
      record { room = s.room; few = λ p. omega (arith, s.few p); each = λ p hp. omega (arith, s.each p hp, steps_stop parents left lift part p h) }

  pub marking_end : {now : List ℕ} (left part : ℕ) → Marking parents lift leaf counts left part now → left ≤ 0 → Marked parents lift leaf counts now
  marking_end left part s h =
      record { room = s.room; few = λ p. omega (arith, s.few p); each = λ p hp. omega (arith, s.each p hp, steps_end parents left lift part p h) }

-- what all vertices from v on count for part p
abbrev marks : List ℕ → List ℕ → List ℕ → ℕ → ℕ → ℕ → ℕ
marks parents leaves lifts v n p = sum (map (λ w. steps parents most_parts (word lifts w) (word leaves w) p) (count_from v n))

-- The state at vertex v: what is counted and what is left to count make the whole count.
pub record Totalling (parents leaves lifts : List ℕ) (n : ℕ) (counts : List ℕ) (v : ℕ) (now : List ℕ) : Type 0 where
  pub reached : v ≤ n
  pub room : length now ≡ most_parts
  pub few : (p : ℕ) → word now p ≤ word counts p + most_parts * v
  pub each : (p : ℕ) → p < most_parts → word now p + marks parents leaves lifts v (n - v) p ≡ word counts p + marks parents leaves lifts 0 n p

sum_more : (f : ℕ → ℕ) (n v : ℕ) → v < n → sum (map f (count_from v (n - v))) ≡ f v + sum (map f (count_from (v + 1) (n - (v + 1))))
sum_more f n v h =
    ap (λ (k : ℕ). sum (map f (count_from v k))) (let more : n - v ≡ suc (n - (v + 1)) = omega arith in more)
    ∙ ap (λ (k : ℕ). f v + sum (map f (count_from k (n - (v + 1))))) (let next : suc v ≡ v + 1 = omega arith in next)

module _ {parents leaves lifts : List ℕ} {n : ℕ} {counts : List ℕ} where
  pub totalling_start : length counts ≡ most_parts → Totalling parents leaves lifts n counts 0 counts
  totalling_start room =
      record {
        reached = omega arith;
        room = room;
        few = λ p. omega arith;
        each = λ p h. ap (λ (k : ℕ). word counts p + marks parents leaves lifts 0 k p) (let whole : n - 0 ≡ n = omega arith in whole);
      }

  pub totalling_step : {now after : List ℕ} (v leaf : ℕ) → Totalling parents leaves lifts n counts v now → v < n → leaf ≡ word leaves v
      → Marked parents (word lifts v) leaf now after → Totalling parents leaves lifts n counts (v + 1) after
  totalling_step {now} {after} v leaf s h is marked =
      record {
        reached = omega arith;
        room = marked.room;
        few = λ p. omega (arith, s.few p, marked.few p);
        each = λ p hp.
            omega (
              arith,
              s.each p hp,
              marked.each p hp ∙ ap (λ (q : ℕ). word now p + steps parents most_parts (word lifts v) q p) is,
              sum_more (λ w. steps parents most_parts (word lifts w) (word leaves w) p) n v h,
            );
      }

  pub totalling_done : {now : List ℕ} (v : ℕ) → Totalling parents leaves lifts n counts v now → n ≤ v → BordersCounted parents leaves lifts n counts now
  totalling_done {now} v s h =
      record {
        room = s.room;
        each = λ p hp.
            let none : n - v ≡ 0 = omega arith in
            (let over : marks parents leaves lifts v (n - v) p ≡ 0 = ap (λ (k : ℕ). marks parents leaves lifts v k p) none in omega (arith, s.each p hp));
      }
