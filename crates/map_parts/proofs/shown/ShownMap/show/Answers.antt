-- `show` copies the bodies of records 2 and 3, and lends that of record 4.
-- Assumes nothing.
use mathlib.Core.Path.{ap, ◌∙◌}
use native.Mathlib.Omega.{arith}
use Prim.Native.Nat.{ℕ}
use lib.ListN.{drop}
use Rattle.map_parts.specs.Bodies.{the_counts}
use Rattle.map_parts.proofs.Reading.{shows_by, roads_by}
use Rattle.map_parts.proofs.shown.ShownMap.show.Goals as goal

pub returns-clause-parts : goal.returns-clause-parts
returns-clause-parts c =
    let a = c.args in
    let counts = a.self.now.counts in
    shows_by a.map.now (the_counts counts.vertices counts.roads counts.parts) c.rest.ensures c.copy_numbers.ensures
    (c.rest-2.ensures ∙ ap (λ (at : ℕ). drop at a.map.now) (omega arith)) c.copy_numbers-2.ensures

pub returns-clause-roads : goal.returns-clause-roads
returns-clause-roads c =
    let a = c.args in
    let counts = a.self.now.counts in
    roads_by a.map.now (the_counts counts.vertices counts.roads counts.parts) (c.rest-self.ensures ∙ ap (λ (at : ℕ). drop at a.map.now) (omega arith))
