-- The least key of those that wait.
-- Assumes nothing.
use mathlib.Core.Path.{◌≡◌, ap}
use mathlib.Core.Logic.{◌⊎◌, inl, inr}
use mathlib.Core.List.{List}
use Prim.Native.Nat.{ℕ, ◌+◌, ◌≤◌, ◌<◌}
use native.Mathlib.Decide.{ℕ_discrete, dec_lt}
use native.Mathlib.Omega.{arith}
use Rattle.words.specs.Limits.{FAR}
use Rattle.words.specs.Lists.{word}
use Rattle.far_sums.specs.Least.{Least}
use Rattle.part_keys.specs.Keys.{key_at, Nearest}

-- The least key of those that wait from the first on, one more at a time.
module _ {keys waits : List ℕ} {from : ℕ} where
  pub nearest_none : Nearest keys waits from from FAR from
  nearest_none = record { most = omega arith; below = λ t low high. absurd (omega arith); place = λ h. absurd (omega arith) }

  module _ {t least at : ℕ} (p : Nearest keys waits from t least at) (low : from ≤ t) {key : ℕ} (is_key : key ≡ word keys (word waits t)) where
    key_is : key ≡ key_at keys waits t
    unfolding key_at
    key_is = is_key

    below_next : (now : ℕ) → now ≤ least → now ≤ key → (u : ℕ) → from ≤ u → u < t + 1 → now ≤ key_at keys waits u
    below_next now a b u lowest high = by (ℕ_discrete u t)
      where
        by : Dec (u ≡ t) → now ≤ key_at keys waits u
        by (yes same) = omega (arith, key_is, ap (key_at keys waits) same)
        by (no other) = omega (arith, p.below u lowest (omega (arith, other)))

    pub nearest_lower : key < least → Nearest keys waits from (t + 1) key t
    nearest_lower less =
        record {
          most = omega (arith, p.most);
          below = below_next key (omega arith) (omega arith);
          place = λ h. (low, omega arith, key_is);
        }

    pub nearest_stays : least ≤ key → Nearest keys waits from (t + 1) least at
    nearest_stays more =
        record {
          most = p.most;
          below = below_next least (omega arith) more;
          place = λ h. ((p.place h).0, omega (arith, (p.place h).1), (p.place h).2);
        }

  pub nearest_end : {t n least at : ℕ} → Nearest keys waits from t least at → n ≤ t → (least < FAR → t ≤ n) → Nearest keys waits from n least at
  nearest_end p high low =
      record {
        most = p.most;
        below = λ u a b. p.below u a (omega arith);
        place = λ h. ((p.place h).0, omega (arith, (p.place h).1, low h), (p.place h).2);
      }

-- from the first that waits on it is the least of all
pub nearest_all : {keys waits : List ℕ} {n key at : ℕ} → Nearest keys waits 0 n key at → Least (key_at keys waits) n key
nearest_all {keys} {waits} {n} {key} {at} p =
    record {
      most = p.most;
      below = λ t h. p.below t (omega arith) h;
      found = by (dec_lt key FAR);
    }
  where
    by : Dec (key < FAR) → (key ≡ FAR) ⊎ ((t : ℕ) × (t < n) × (key ≡ key_at keys waits t))
    by (yes near) = inr (at, (p.place near).1, (p.place near).2)
    by (no far) = inl (omega (arith, p.most, far))
