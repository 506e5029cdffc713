-- The least of many distances, one more at a time.
-- Assumes nothing.
use mathlib.Core.Path.{◌≡◌, refl, ap, subst, ◌∙◌}
use mathlib.Core.Logic.{inl, inr, ⊎_elim}
use Prim.Native.Nat.{ℕ, ◌+◌, ◌≤◌, ◌<◌, min}
use native.Mathlib.Decide.{ℕ_discrete}
use native.Mathlib.Omega.{arith}
use Rattle.words.specs.Limits.{FAR}
use Rattle.far_sums.specs.Least.{Least}

module _ (f : ℕ → ℕ) where
  pub least_none : Least f 0 FAR
  least_none = record { most = omega arith; below = λ t h. absurd (omega arith); found = inl refl }

  -- below n + 1
  below_next : (n r : ℕ) → ((t : ℕ) → t < n → r ≤ f t) → r ≤ f n → (t : ℕ) → t < n + 1 → r ≤ f t
  below_next n r before here t h = by (ℕ_discrete t n)
    where
      by : Dec (t ≡ n) → r ≤ f t
      by (yes same) = omega (arith, ap f same)
      by (no other) = before t (omega (arith, other))

  -- the next is less
  pub least_lower : {n r w : ℕ} → Least f n r → w ≡ min (f n) FAR → w < r → Least f (n + 1) w
  least_lower {n} {r} {w} l e less =
      record {
        most = omega (arith, l.most);
        below = below_next n w (λ t h. omega (arith, l.below t h)) (omega arith);
        found = inr (n, omega arith, omega (arith, l.most));
      }

  -- the next is no less
  pub least_stays : {n r w : ℕ} → Least f n r → w ≡ min (f n) FAR → r ≤ w → Least f (n + 1) r
  least_stays {n} {r} {w} l e more =
      record {
        most = l.most;
        below = below_next n r l.below (omega arith);
        found = ⊎_elim inl (λ s. inr (s.0, omega (arith, s.1), s.2)) l.found;
      }

  -- n is reached
  pub least_all : {n k r : ℕ} → Least f n r → n ≡ k → Least f k r
  least_all {r = r} l e = subst (λ (i : ℕ). Least f i r) e l

  -- the same of a value that is no sum
  pub least_lower_by : {n r w : ℕ} → Least f n r → w ≡ f n → w < r → Least f (n + 1) w
  least_lower_by l e less = least_lower l (omega (arith, l.most)) less

  pub least_stays_by : {n r w : ℕ} → Least f n r → w ≡ f n → r ≤ w → Least f (n + 1) r
  least_stays_by {n} l e more = least_stays {w = min (f n) FAR} l refl (omega (arith, l.most))

-- the least of the same distances
pub least_same : (f g : ℕ → ℕ) {n r : ℕ} → ((t : ℕ) → t < n → f t ≡ g t) → Least f n r → Least g n r
least_same f g same l =
    record {
      most = l.most;
      below = λ t h. omega (arith, l.below t h, same t h);
      found = ⊎_elim inl (λ (t, h, e). inr (t, h, e ∙ same t h)) l.found;
    }
