-- `tree_fits` tests each part.
-- Assumes nothing.
use mathlib.Core.Path.{refl}
use Rattle.std.proofs.Common.{rules, tests}
use Rattle.map_bytes.proofs.Each.{all_is}
use Rattle.map_parts.specs.Part.{part_test}
use Rattle.map_parts.proofs.shown.ShownMap.tree_fits.Goals as goal

pub returns : goal.returns
returns c =
    let a = c.args in
    all_is (part_test a.self.now.parents a.children.now a.homes.now) a.self.now.counts.parts c.all.ensures.ran refl (λ x b q k. search (rules, tests))
