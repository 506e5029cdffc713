-- `sizes_fit` tests each part.
-- Assumes nothing.
use native.Mathlib.Omega.{arith}
use Prim.Native.Nat.{ℕ}
use lib.Dec.{leb}
use Rattle.std.proofs.Common.{rules, tests}
use Rattle.words.specs.Limits.{most_borders}
use Rattle.map_bytes.proofs.Each.{all_in}
use Rattle.map_borders.specs.Mark.{few_at}
use Rattle.map_borders.proofs.sizes_fit.Goals as goal

pub returns : goal.returns
unfolding few_at
returns c = all_in (λ (size : ℕ). leb size most_borders) c.args.sizes.now c.args.parts (omega arith) c.all.ensures.ran c.iter.ensures.rest (λ x b q k. search (rules, tests))
