-- `serving::list` stores the lines of the list that the words show. The loop's invariant: those of the first i vans are stored.
-- Assumes nothing.
use mathlib.Core.Path.{◌≡◌, refl}
use Prim.Native.Nat.{min}
use native.Mathlib.Omega.{arith}
use Rattle.words.specs.Limits.{most_asked}
use Rattle.desk_calls.proofs.Calls.{vans_none, vans_next, vans_end, list_whole, line_end}
use Rattle.desk_calls.proofs.serving.list.Goals as goal

pub loop-i-init : goal.loop-i-init
loop-i-init c = (omega (arith, line_end _ c.write_line-end.ensures), vans_none _ _ _ _)

pub loop-i-preserved : goal.loop-i-preserved
loop-i-preserved c = (c.loop-i.invariant.0, vans_next _ _ _ _ c.van_line.ensures c.loop-i.invariant.1 c.write_line-end-in-loop-i.ensures)

pub returns : goal.returns
returns c =
    list_whole _ _ _ _ _ refl c.write_line-end.ensures c.loop-i.invariant.1 (let all : c.loop-i.i ≡ min _ most_asked = omega arith in all)

pub write_line-end-requires-in-loop-i : goal.write_line-end-requires-in-loop-i
write_line-end-requires-in-loop-i c = omega (arith, vans_end _ _ _ c.loop-i.invariant.1)
