-- `lift_all` lowers the lifts by each road.
-- Assumes nothing.
use mathlib.Core.Path.{ap, ◌∙◌}
use mathlib.Core.List.{List}
use Prim.Native.Nat.{ℕ}
use native.Mathlib.Omega.{arith}
use lib.ListN.{get_or, get_or-replicate}
use Rattle.std.proofs.Common.{rules}
use Rattle.words.specs.Limits.{NONE}
use Rattle.map_borders.proofs.Lifting.{lifting_start, lifting_step, lifting_done}
use Rattle.map_borders.proofs.lift_all.Goals as goal

pub loop-i-init : goal.loop-i-init
loop-i-init c =
    let high = c.fill.ensures.after (λ y same. same) in
    lifting_start (search rules) (λ v h. ap (λ (l : List ℕ). get_or l v 0) high ∙ get_or-replicate _ v NONE 0 (omega arith))

pub loop-i-preserved : goal.loop-i-preserved
loop-i-preserved c = lifting_step _ c.loop-i.invariant (omega arith) c.lift_road.ensures

pub returns : goal.returns
returns c = lifting_done _ c.loop-i.invariant (omega arith)
