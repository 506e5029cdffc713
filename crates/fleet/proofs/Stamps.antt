-- An accepted change adds 1 to the change count, and the new count is its stamp.
-- Assumes nothing.
use mathlib.Core.Path.{◌≡◌}
use Prim.Native.Nat.{ℕ, zero, suc, ◌+◌}
use native.Mathlib.Omega.{arith}
use Rattle.roads.specs.Map.{Map}
use Rattle.fleet.specs.State.{State}
use Rattle.fleet.specs.declared.Change.{Change}
use Rattle.fleet.specs.Change.{accepted, refusal_of, step_by, step}

pub stamp_is_count : (m : Map) (s : State) (c : Change) (stamp : ℕ) → (step m s c).answer ≡ accepted stamp → (stamp ≡ s.count + 1) × ((step m s c).state.count ≡ stamp)
unfolding step
stamp_is_count m s c stamp = by (refusal_of m s c)
  where
    by : (n : ℕ) → (step_by n m s c).answer ≡ accepted stamp → (stamp ≡ s.count + 1) × ((step_by n m s c).state.count ≡ stamp)
    by zero e = let same : s.count + 1 ≡ stamp = cc in (omega arith, same)
    by (suc n) e = let z : ◌≡◌ {A = ℕ} 0 1 = cc in absurd (omega arith)
