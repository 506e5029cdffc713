-- The least of many distances, FAR where there are none.
use Rattle.std.specs.Prelude.{◌≡◌, ◌⊎◌, ℕ, ◌≤◌, ◌<◌}
use Rattle.words.specs.Limits.{FAR}

-- r is the least of FAR and f 0 to f (n - 1)
pub record Least (f : ℕ → ℕ) (n r : ℕ) : Type 0 where
  pub most : r ≤ FAR
  pub below : (t : ℕ) → t < n → r ≤ f t
  pub found : (r ≡ FAR) ⊎ ((t : ℕ) × (t < n) × (r ≡ f t))
