-- `tables::rise_parts` meets its contract. The loop's invariant: the tables of the parts from p on are right inside their parts.
-- Assumes nothing.
use borrow.Author.Rules.{rules}
use native.Mathlib.Omega.{arith}
use mathlib.Core.Path.{◌∙◌}
use Rattle.assembly.proofs.Rising.{risen_turn}
use Rattle.tables.proofs.rise_parts.Goals as goal

pub loop-p-preserved : goal.loop-p-preserved
loop-p-preserved c = (
  c.rise.ensures.mem_len_unchanged ∙ c.loop-p.invariant.0,
  c.rise.ensures.place_len_unchanged ∙ c.loop-p.invariant.1,
  risen_turn _ _ _ _ _ (search rules) c.word-count.ensures (omega arith) c.loop-p.invariant.2 (λ m L hp few I. c.rise.ensures.risen m L hp (omega (arith, few, c.loop-p.invariant.1)) I),
)
