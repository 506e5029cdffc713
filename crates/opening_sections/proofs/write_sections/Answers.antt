-- `write_sections` writes each section of a sound map that is shown.
-- Assumes nothing.
use mathlib.Core.Path.{refl, ◌∙◌}
use Rattle.opening_sections.proofs.Stand.{front_stands, first_row_stands, sections_stand}
use Rattle.opening_sections.proofs.write_sections.Goals as goal

pub returns : goal.returns
returns c =
    let args = c.args in
    let counts = args.counts in
    λ m shown long.
    let head-long = c.write_head.auto.mem ∙ long in
    let part-long = c.write_part_section.auto.mem ∙ head-long in
    let net-long = c.write_net.auto.mem ∙ part-long in
    let vans-long = c.clear.auto.mem ∙ net-long in
    let parts = c.write_part_section.ensures m args.leaves.now args.body.now args.lifts.now counts.vertices counts.roads shown head-long in
    let net = c.write_net.ensures m args.parents.now args.lifts.now args.sizes.now args.used shown part-long in
    let front = front_stands m args.start args.parents.now args.leaves.now args.body.now args.lifts.now args.sizes.now counts args.used shown args.mem.now _ _ _ _ _ 8192 long c.write_head.ensures parts net c.van_at.ensures refl c.clear.ensures in
    sections_stand m args.start _ _ (vans-long ∙ shown.counted.need_is) front
    (c.write_row_section.ensures m args.body.now args.sizes.now args.used c.ranges.used.fits shown vans-long (first_row_stands m args.start _ front))
