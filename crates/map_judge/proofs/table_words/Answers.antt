-- `table_words` sums the words of the parts, which have at most 128 rows each.
-- Assumes nothing.
use Prim.Native.Nat.{◌≤◌}
use native.Mathlib.Omega.{arith}
use Rattle.std.proofs.Common.{rules, tests}
use Rattle.std.proofs.lemmas.Grind.{get_or_default_zero}
use Rattle.std.proofs.lemmas.Iterator.{YieldsList-from_slice}
use Rattle.std.proofs.lemmas.Iterator.Adapters.{serves_from_places}
use Rattle.map_judge.proofs.table_words.Goals as goal

pub sum-requires-clause-can : goal.sum-requires-clause-can
sum-requires-clause-can c = (
  tt,
  serves_from_places (YieldsList-from_slice c.args.sizes.now (cc)) (λ x q k. search (rules, tests))
      (λ x k h is. let few : x.now ≤ 128 = omega (arith, is, get_or_default_zero c.args.sizes.now k x.now h, c.requires.1 k h) in search rules),
)
