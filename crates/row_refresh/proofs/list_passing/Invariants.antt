use mathlib.Core.Path.{◌≡◌}
use mathlib.Core.Bool.{Bool}
use mathlib.Core.List.{◌++◌}
use Prim.Native.Nat.{ℕ, ◌-◌, ◌≤◌, ◌<◌}
use lib.ListN.{length, take}
use Rattle.words.specs.Lists.{up_to, count_from, keep}
use Rattle.row_refresh.proofs.list_passing.Given as goal

-- what counts so far and what is left to look at stays the whole
abbrev pub invariant-loop-i : goal.invariant-loop-i
invariant-loop-i g l =
    (length l.numbers ≡ 128)
    × (l.n ≤ l.i)
    × ((test : ℕ → Bool) → ((i : ℕ) (is : Bool) → i < l.size → goal.F-post g l.passes i is → is ≡ test i) → take l.n l.numbers ++ keep test (count_from l.i (l.size - l.i)) ≡ keep test (up_to l.size))
