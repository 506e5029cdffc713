-- `vertices_stand` tests each vertex.
-- Assumes nothing.
use mathlib.Core.Path.{refl}
use Rattle.std.proofs.Common.{rules, tests}
use Rattle.map_bytes.proofs.Each.{all_is}
use Rattle.map_parts.specs.Part.{standing}
use Rattle.map_parts.proofs.shown.ShownMap.vertices_stand.Goals as goal

pub returns : goal.returns
returns c =
    let a = c.args in
    all_is (standing a.self.now.leaves a.children.now a.self.now.counts.parts) a.self.now.counts.vertices c.all.ensures.ran refl (λ x b q k. search (rules, tests))
