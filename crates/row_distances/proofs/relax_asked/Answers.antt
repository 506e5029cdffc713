-- `relax_asked` makes the distances less, row by row.
-- Assumes nothing.
use mathlib.Core.Path.{refl}
use Prim.Native.Nat.{◌+◌, ◌*◌, ◌<◌}
use native.Mathlib.Omega.{arith}
use Rattle.words.specs.Lists.{word}
use Rattle.row_lists.proofs.Pairs.{asked_turn}
use Rattle.row_distances.proofs.Ways.{over_row}
use Rattle.row_distances.proofs.Relaxing.{owner_lowered, asked_within, closer_next, closer_count}
use Rattle.row_distances.proofs.relax_asked.Goals as goal

pub loop-asked-preserved : goal.loop-asked-preserved
loop-asked-preserved c =
    let mem = c.args.mem.now in
    let part = c.args.part in
    let lists = c.args.lists.now in
    let looked = c.requires.1.1 in
    let here : c.loop-asked.asked-index < lists.count = omega (arith, c.loop-asked-test.true, c.asked-asked-items.ensures.1) in
    let i = word c.asked-asked-items.result.now c.loop-asked.asked-index in
    let row_is = asked_turn lists.asked lists.count c.asked-asked-items.ensures.0 here refl in
    let w = asked_within looked part.few here row_is in
    let way_is = over_row mem (part.table + part.size * i) part.size lists.places lists.near lists.known c.line_of.ensures (λ s hs. (looked.knows.only s hs).0) c.least_in-way.ensures in
    closer_next looked c.loop-asked.invariant row_is way_is (owner_lowered mem part.first part.size i c.loop-asked.dx c.least_in-way.result c.rows_of-rows.ensures w.0 c.lower.ensures)

pub returns : goal.returns
returns c = closer_count c.args.lists.now.asked (omega (arith, c.loop-asked-test.false, c.asked-asked-items.ensures.1)) c.loop-asked.invariant
