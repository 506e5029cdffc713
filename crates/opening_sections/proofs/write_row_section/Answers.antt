-- `write_row_section` writes the rows of a sound map that is shown and whose parts stand.
-- Assumes nothing.
use Prim.Native.Nat.{ℕ}
use lib.ListN.{length-replicate}
use Rattle.words.specs.Limits.{most_parts}
use Rattle.opening_sections.proofs.Ready.{rows_done}
use Rattle.opening_sections.proofs.write_row_section.Goals as goal

pub returns : goal.returns
returns c =
    let args = c.args in
    let counts = args.counts in
    λ m body sizes used fits shown long first.
    rows_done m args.parents.now args.leaves.now body args.lifts.now sizes counts.vertices counts.roads counts.parts used shown args.mem.now long _ _ _ _ _ fits c.vertices_from-vertices_at.ensures (length-replicate {A = ℕ} most_parts 0) first
    c.first_rows.ensures (c.write_rows.ensures m)
