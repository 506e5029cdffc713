-- The loop of the search: what is left between two numbers, and what each turn keeps.
-- Assumes nothing.
use Prim.Native.Nat.{ℕ, ◌≤◌, ◌<◌}
use Rattle.road_lookup.specs.Lookup.{Rising}

-- before `from` the ends are below `to`, from `until` on they are not
pub record Sides (ends : ℕ → ℕ) (low high to from until : ℕ) : Type 0 where
  pub above_low : low ≤ from
  pub in_order : from ≤ until
  pub below_high : until ≤ high
  pub before : (i : ℕ) → low ≤ i → i < from → ends i < to
  pub after : (i : ℕ) → until ≤ i → i < high → to ≤ ends i

pub record Narrowed (ends : ℕ → ℕ) (low high to from until : ℕ) : Type 0 where
  pub within : until ≤ high
  pub right : low ≤ high → Rising ends low high → Sides ends low high to from until
