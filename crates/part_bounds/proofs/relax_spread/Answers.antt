-- `relax_spread` makes the distances less and gives keys, row by row.
-- Assumes nothing.
use mathlib.Core.Path.{◌≡◌, refl, ap, ◌∙◌}
use Prim.Native.Nat.{ℕ, ◌+◌, ◌*◌, ◌/◌, ◌%◌, ◌<◌}
use native.Mathlib.Omega.{arith}
use lib.ListN.{set}
use Rattle.words.specs.Lists.{word}
use Rattle.row_distances.proofs.Ways.{over_row}
use Rattle.row_lists.proofs.Pairs.{asked_turn}
use Rattle.row_lists.proofs.Rows.{row_read}
use Rattle.row_distances.proofs.Relaxing.{asked_within, closer_none, closer_next, closer_count}
use Rattle.part_keys.specs.Keys.{far_count}
use Rattle.part_keys.proofs.Spreading.{key_read, far_lowered, total_more, spread_none, spread_more, spread_count}
use Rattle.part_bounds.proofs.Opening.{spread_kept, as_lowered, way_is_near, before_kept}
use borrow.Author.Rules.{rules}
use Rattle.part_bounds.proofs.relax_spread.Goals as goal

pub loop-asked-init : goal.loop-asked-init
loop-asked-init c = record {
  no_more = omega arith;
  room = omega (arith, c.args.waiting.now.room);
  opened = λ apart. (closer_none (λ i (s, h, e). absurd (omega arith)), spread_none c.args.lists.now.asked (search rules));
}

pub loop-asked-preserved : goal.loop-asked-preserved
loop-asked-preserved c =
    let mem = c.args.mem.now in
    let part = c.args.part in
    let lists = c.args.lists.now in
    let all = c.requires.1.0 in
    let looked = c.requires.1.1 in
    let i = word c.asked-asked-items.result.now c.loop-asked.asked-index in
    let here : c.loop-asked.asked-index < lists.count = omega (arith, c.loop-asked-test.true, c.asked-asked-items.ensures.1) in
    let row_is = asked_turn lists.asked lists.count c.asked-asked-items.ensures.0 here refl in
    let w = asked_within looked part.few here row_is in
    let owner-is = row_read mem part.first part.size c.rows_of-rows.ensures i 2 w.0 (omega arith) in
    let least = over_row mem (part.table + part.size * i) part.size lists.places lists.near lists.known c.line_of.ensures (λ s hs. (looked.knows.only s hs).0) c.least_in-way.ensures in
    let written = c.put.ensures ∙ ap (λ (k : ℕ). set c.loop-asked.dx k c.least_in-way.result) (ap (λ (k : ℕ). k % 65536) owner-is) in
    let child = word c.rows_of-rows.result.now (4 * i + 2) / 65536 in
    let sum = total_more c.loop-asked.waiting.keys child c.far_sum-key.result c.loop-asked.n c.lower_key-n.ensures.0 c.lower_key-n.ensures.2 in
    let fewer = far_lowered c.loop-asked.waiting.keys child c.far_sum-key.result in
    record {
      no_more = omega (arith, sum, c.loop-asked.invariant.no_more);
      room = omega (arith, ap far_count c.lower_key-n.ensures.0, fewer, c.loop-asked.invariant.room);
      opened = λ apart.
          let so = c.loop-asked.invariant.opened apart in
          let key_is = key_read mem part.first _ i (row_read mem part.first part.size c.rows_of-rows.ensures i 3 w.0 (omega arith)) c.word.ensures (way_is_near all looked apart so.0 here row_is least.most written) c.far_sum-key.ensures in (
            closer_next looked so.0 row_is least (as_lowered all looked apart so.0 here row_is least.most written),
            spread_more lists.asked (spread_kept _ (before_kept all looked apart so.0 here row_is least.most written) so.1) c.args.waiting.now.room row_is key_is owner-is refl c.lower_key-n.ensures.0 c.lower_key-n.ensures.1 c.lower_key-n.ensures.2,
          );
    }

pub returns : goal.returns
returns c = (
  c.loop-asked.invariant.no_more,
  λ apart.
      let so = c.loop-asked.invariant.opened apart in
      let all : c.loop-asked.asked-index ≡ c.args.lists.now.count = omega (arith, c.loop-asked-test.false, c.asked-asked-items.ensures.1) in
      (closer_count c.args.lists.now.asked all so.0, spread_count c.args.lists.now.asked all so.1),
)

pub invariant_of-waiting : goal.invariant_of-waiting
invariant_of-waiting c =
    let child = word c.rows_of-rows.result.now (4 * word c.asked-asked-items.result.now c.loop-asked.asked-index + 2) / 65536 in
    let fewer = far_lowered c.loop-asked.waiting.keys child c.far_sum-key.result in
    record { room = omega (arith, ap far_count c.lower_key-n.ensures.0, fewer, c.loop-asked.invariant.room) }
