-- `row_refresh::list_passing` lists the numbers that pass.
use mathlib.Core.Path.{refl, ◌∙◌}
use Prim.Native.Nat.{◌+◌, ◌-◌}
use Rattle.listing.proofs.Turns.{numbers_turn}
use borrow.Author.Rules.{rules}
use native.Mathlib.Omega.{arith}
use Rattle.row_refresh.proofs.list_passing.Goals as goal

pub loop-i-preserved : goal.loop-i-preserved
loop-i-preserved g c = (
  search rules,
  omega (arith, c.more-n.ensures.1),
  λ test tests.
      numbers_turn test c.loop-i.numbers (c.args.size - c.loop-i.i) (c.args.size - (c.loop-i.i + 1)) c.loop-i.i c.loop-i.n c.more-n.result c.loop-i.i c.passes.result (omega arith) (omega arith) (tests c.loop-i.i c.passes.result (omega arith) c.passes.ensures) c.more-n.ensures.0 refl
      ∙ c.loop-i.invariant.2 test tests,
)
