-- The loop that copies the numbers of a body.
-- Assumes nothing.
use mathlib.Core.Path.{◌≡◌, ◌∙◌}
use mathlib.Core.List.{List}
use Prim.Native.Nat.{ℕ, ◌+◌, ◌<◌, ◌≤◌}
use native.Mathlib.Decide.{ℕ_discrete}
use native.Mathlib.Omega.{arith}
use lib.ListN.{length, set, length-set}
use lib.Seq.{get_or-set_same, get_or-set_other}
use Rattle.words.specs.Lists.{word}
use Rattle.maps.specs.Bytes.{number_at}
use Rattle.map_bytes.specs.Copied.{Copied}

-- The loop's state: the first i words are the first i numbers.
pub record Copying (body : List ℕ) (n : ℕ) (before : List ℕ) (i : ℕ) (words : List ℕ) : Type 0 where
  pub reached : i ≤ n
  pub fits : n ≤ length words
  pub room : length words ≡ length before
  pub each : (k : ℕ) → k < i → word words k ≡ number_at body k

module _ {body : List ℕ} {n : ℕ} {before : List ℕ} where
  pub copying_start : n ≤ length before → Copying body n before 0 before
  copying_start h = record { reached = omega arith; fits = h; room = omega arith; each = λ k none. absurd (omega arith) }

  pub copying_step : {words : List ℕ} (i x : ℕ) → Copying body n before i words → i < n → x ≡ number_at body i → Copying body n before (i + 1) (set words i x)
  copying_step {words} i x s h is =
      record {
        reached = omega arith;
        fits = omega (arith, length-set words i x, s.fits);
        room = length-set words i x ∙ s.room;
        each = λ k less. at k less (ℕ_discrete k i);
      }
    where
      at : (k : ℕ) → k < i + 1 → Dec (k ≡ i) → word (set words i x) k ≡ number_at body k
      at k less (yes same) = rw same (get_or-set_same words i x 0 (omega (arith, s.fits)) ∙ is)
      at k less (no other) = get_or-set_other words i k x 0 other ∙ s.each k (omega (arith, other))

  pub copying_done : {words : List ℕ} (i : ℕ) → Copying body n before i words → n ≤ i → Copied body n before words
  copying_done i s h = record { room = s.room; each = λ k less. s.each k (omega arith) }
