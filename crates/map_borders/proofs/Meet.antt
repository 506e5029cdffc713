-- The lowest common part: what lies above both parts is what lies above one and has no higher number.
-- Assumes nothing.
use mathlib.Core.Path.{◌≡◌, refl, sym, ap, subst, ◌∙◌}
use mathlib.Core.Logic.{◌⊎◌, inl, inr, ⊎_elim, ◌≢◌}
use mathlib.Core.Bool.{Bool, true, false, cond}
use mathlib.Core.List.{List}
use Prim.Native.Nat.{ℕ, zero, suc, ◌+◌, ◌-◌, ◌<◌, ◌≤◌, min, max}
use native.Mathlib.Decide.{dec_lt}
use native.Mathlib.Omega.{arith}
use lib.Dec.{eqb}
use borrow.Author.Tests.{eqb-true, eqb-false, eq-eqb, ne_eqb}
use Rattle.words.specs.Lists.{word}
use Rattle.roads.specs.Map.{Map, part_count}
use Rattle.parts.specs.Tree.{parent_of}
use Rattle.parts.proofs.Tree.{Above, up, Falls, above_next, above_least}
use Rattle.map_borders.specs.Lift.{meet}

-- The loop.

-- i of the n steps are taken
module _ (parents : List ℕ) (n i : ℕ) where
  pub meet_none : (a b : ℕ) → n ≤ i → meet parents (n - i) a b ≡ 0
  unfolding meet
  meet_none a b h = ap (λ (left : ℕ). meet parents left a b) (let none : n - i ≡ 0 = omega arith in none)

  next : i < n → n - i ≡ suc (n - (i + 1))
  next h = omega arith

  pub meet_here : (a b : ℕ) → i < n → a ≡ b → meet parents (n - i) a b ≡ a
  unfolding meet
  meet_here a b h same =
      ap (λ (left : ℕ). meet parents left a b) (next h) ∙ ap (λ (t : Bool). cond t a (meet parents (n - (i + 1)) (min a b) (word parents (max a b)))) (eq-eqb a b same)

  pub meet_above : (a b : ℕ) {low high above : ℕ} → i < n → (a ≡ b → ⊥) → low ≡ min a b → high ≡ max a b → above ≡ word parents high
      → meet parents (n - i) a b ≡ meet parents (n - (i + 1)) low above
  unfolding meet
  meet_above a b {low} {high} {above} h other isLow isHigh isAbove =
      let same : word parents (max a b) ≡ above = sym (isAbove ∙ ap (word parents) isHigh) in
      ap (λ (left : ℕ). meet parents left a b) (next h)
      ∙ ap (λ (t : Bool). cond t a (meet parents (n - (i + 1)) (min a b) (word parents (max a b)))) (ne_eqb a b other)
      ∙ λ j. meet parents (n - (i + 1)) (sym isLow j) (same j)

-- The theory. x is the lowest part that is a and b or lies above them.
pub record Common (m : Map) (a b x : ℕ) : Type 0 where
  pub first : x ≤ a
  pub second : x ≤ b
  pub both : (c : ℕ) → Above m c a → Above m c b → c ≤ x
  pub one : (c : ℕ) → c ≤ x → Above m c a ⊎ Above m c b → Above m c a × Above m c b

module _ (m : Map) (falls : Falls m) where
  common_self : (a : ℕ) → a < part_count m → Common m a a a
  common_self a h =
      record { first = omega arith; second = omega arith; both = λ c p q. above_least m falls a h p; one = λ c le e. ⊎_elim (λ p. (p, p)) (λ p. (p, p)) e }

  pub common_swap : {a b x : ℕ} → Common m a b x → Common m b a x
  common_swap s =
      record {
        first = s.second;
        second = s.first;
        both = λ c p q. s.both c q p;
        one = λ c le e. let r = s.one c le (⊎_elim inr inl e) in (r.1, r.0);
      }

  -- the one with the higher number gives way to its parent
  common_up : (low high x : ℕ) → low < high → high < part_count m → Common m low (parent_of m high) x → Common m low high x
  common_up low high x less hh s =
      record {
        first = s.first;
        second = omega (arith, s.second, lower);
        both = λ c p q. s.both c p (above_next high q (λ e. absurd (omega (arith, above_least m falls low (omega arith) p, e)))).1;
        one = λ c le e.
            ⊎_elim
            (λ p. let r = s.one c le (inl p) in (r.0, up real r.1))
            (λ q. let r = s.one c le (inr (above_next high q (λ e. absurd (omega (arith, s.second, lower, e)))).1) in (r.0, up real r.1))
            e;
      }
    where
      real : high ≢ 0
      real z = omega arith

      lower : parent_of m high < high
      lower = falls high (omega arith) hh

  module _ (parents : List ℕ) (same : (p : ℕ) → p < part_count m → parent_of m p ≡ word parents p) where
    pub common_is : (n a b : ℕ) → a + b < n → a < part_count m → b < part_count m → Common m a b (meet parents n a b)
    unfolding meet
    common_is zero a b h ha hb = absurd (omega arith)
    common_is (suc n) a b h ha hb = by (eqb a b) refl (dec_lt a b) (common_is n a (parent_of m b)) (common_is n b (parent_of m a))
      where
        at : {low high : ℕ} → min a b ≡ low → max a b ≡ high → high < part_count m → meet parents n low (parent_of m high) ≡ meet parents n (min a b) (word parents (max a b))
        at {low} {high} isLow isHigh hh = sym (λ i. meet parents n (isLow i) ((ap (word parents) isHigh ∙ sym (same high hh)) i))

        by : (equal : Bool) → eqb a b ≡ equal → Dec (a < b)
            → (a + parent_of m b < n → a < part_count m → parent_of m b < part_count m → Common m a (parent_of m b) (meet parents n a (parent_of m b)))
            → (b + parent_of m a < n → b < part_count m → parent_of m a < part_count m → Common m b (parent_of m a) (meet parents n b (parent_of m a)))
            → Common m a b (cond equal a (meet parents n (min a b) (word parents (max a b))))
        by true e less one two = subst (λ (k : ℕ). Common m a k a) (eqb-true a b e) (common_self a ha)
        by false e (yes lt) one two =
            let lower = falls b (omega arith) hb in
            common_up a b _ lt hb (subst (Common m a (parent_of m b)) (at (omega arith) (omega arith) hb) (one (omega arith) ha (omega arith)))
        by false e (no not) one two =
            let other = eqb-false a b e in
            let lt : b < a = omega (arith, other, not) in
            let lower = falls a (omega arith) ha in
            common_swap (common_up b a _ lt ha (subst (Common m b (parent_of m a)) (at (omega arith) (omega arith) ha) (two (omega arith) hb (omega arith))))
