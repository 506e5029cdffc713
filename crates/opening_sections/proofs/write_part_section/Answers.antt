-- `write_part_section` writes the parts of a sound map that is shown.
-- Assumes nothing.
use Prim.Native.Nat.{ℕ}
use lib.ListN.{length-replicate}
use Rattle.words.specs.Limits.{most_parts}
use Rattle.words.proofs.Lists.{all_same}
use Rattle.opening_sections.proofs.Ready.{parts_sized, parts_ready}
use Rattle.opening_sections.proofs.write_part_section.Goals as goal

pub returns : goal.returns
returns c =
    let args = c.args in
    λ m leaves body lifts vertices roads shown long.
    c.write_parts.ensures m
    (parts_ready m args.parents.now leaves body lifts args.sizes.now vertices roads args.parts args.used shown args.mem.now long _ _
    (c.rows_begin-tables_end.ensures m (parts_sized m args.parents.now leaves body lifts args.sizes.now vertices roads args.parts args.used shown args.mem.now long)) (length-replicate {A = ℕ} most_parts 0) (λ q h. all_same most_parts q 0))
