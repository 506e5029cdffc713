-- `write_parts` writes each part before those after it.
-- Assumes nothing.
use mathlib.Core.Path.{refl, ◌∙◌}
use Prim.Native.Nat.{◌-◌}
use native.Mathlib.Omega.{arith}
use Rattle.opening_parts.proofs.Step.{families_none, parts_none, part_more}
use Rattle.opening_parts.proofs.write_parts.Goals as goal

pub loop-p-init : goal.loop-p-init
loop-p-init c =
    let args = c.args in
    (refl, λ m ready. (families_none m args.parents.now args.sizes.now args.parts args.tables_end args.rows_end args.children.now args.mem.now ready, parts_none m args.parents.now args.sizes.now args.parts args.tables_end args.rows_end args.children.now args.mem.now ready))

pub loop-p-preserved : goal.loop-p-preserved
loop-p-preserved c =
    let args = c.args in
    let loop = c.loop-p in
    let adopt = c.adopt-sibling in (
      adopt.auto.children ∙ loop.invariant.0,
      λ m ready.
          let old = loop.invariant.1 m ready in
          part_more m args.parents.now args.sizes.now args.parts args.tables_end args.rows_end args.children.now args.mem.now ready (loop.p - 1) loop.p _ loop.table _ loop.row _ _ _ _ _ loop.children _ loop.mem _
          (omega arith) (omega arith) loop.invariant.0 old.0 c.word-size.ensures c.table_start-table.ensures c.row_start-row.ensures
          c.word-parent.ensures c.word-child.ensures adopt.ensures.0 adopt.ensures.1 refl c.put_words.ensures old.1,
    )
