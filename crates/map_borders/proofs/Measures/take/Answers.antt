-- `take` lifts the vertices, and counts the vertices of leaves and the borders of other parts.
-- Assumes nothing.
use Rattle.map_borders.proofs.Earlier.{told}
use Rattle.map_borders.proofs.Borders.{lifts_are, sizes_are}
use Rattle.map_borders.proofs.Measures.take.Goals as goal

pub returns : goal.returns
returns c = (
  c.lift_all.ensures.room,
  c.count_all.ensures.room,
  λ m parts given.
      let known = told given in
      let lifts = lifts_are given known _ c.lift_all.ensures in
      (lifts, sizes_are given known _ lifts _ _ c.tally_into.ensures c.count_all.ensures),
)
