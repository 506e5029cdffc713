-- `tally_into` counts how often each number comes.
-- Assumes nothing.
use mathlib.Core.Path.{ap, ◌∙◌}
use mathlib.Core.List.{List}
use Prim.Native.Nat.{ℕ}
use native.Mathlib.Omega.{arith}
use lib.ListN.{get_or}
use Rattle.std.proofs.Common.{rules}
use Rattle.words.proofs.Lists.{all_same}
use Rattle.map_parts.proofs.Counting.{counting_start, counting_step, counting_done}
use Rattle.map_parts.proofs.tally_into.Goals as goal

pub loop-i-init : goal.loop-i-init
loop-i-init c =
    let clear = c.fill.ensures.after (λ y same. same) in
    counting_start (search rules) (λ p. ap (λ (l : List ℕ). get_or l p 0) clear ∙ all_same _ p 0)

pub bump-requires : goal.bump-requires
bump-requires c = λ q. omega (arith, c.loop-i.invariant.few q)

pub loop-i-preserved : goal.loop-i-preserved
loop-i-preserved c = counting_step _ _ c.loop-i.invariant (omega arith) c.word.ensures c.bump.ensures

pub returns : goal.returns
returns c = counting_done _ c.loop-i.invariant (omega arith)
