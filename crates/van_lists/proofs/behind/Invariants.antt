-- `van_lists::behind`: what is left to walk from here stays the whole walk.
-- Assumes nothing.
use Prim.Native.Nat.{◌-◌}
use mathlib.Core.Path.{◌≡◌}
use Rattle.van_lists.specs.Walk.{walk, behind}
use Rattle.van_lists.proofs.behind.Given as goal

abbrev pub invariant-loop : goal.invariant-loop
invariant-loop l = walk l.mem l.counts l.van l.at (l.van - l.counter) ≡ behind l.mem l.counts l.vertex l.van
