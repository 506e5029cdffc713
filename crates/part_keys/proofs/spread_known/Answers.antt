-- `spread_known` gives keys, row by row.
-- Assumes nothing.
use mathlib.Core.Path.{◌≡◌, refl, sym, ap, ◌∙◌}
use Prim.Native.Nat.{◌+◌, ◌*◌, ◌/◌, ◌<◌}
use native.Mathlib.Omega.{arith}
use lib.ListN.{length, length-append}
use Rattle.words.specs.Lists.{word}
use Rattle.part_keys.specs.Keys.{far_count}
use Rattle.row_lists.specs.Rows.{near_at}
use Rattle.row_lists.proofs.Pairs.{pair_turn, pair_end}
use Rattle.row_lists.proofs.Rows.{row_read}
use Rattle.part_keys.proofs.Spreading.{key_read, far_lowered, total_more}
use Rattle.part_keys.proofs.Spreading.{spread_none, spread_more, spread_count}
use borrow.Author.Rules.{rules}
use Rattle.part_keys.proofs.spread_known.Goals as goal

pub loop-place-init : goal.loop-place-init
loop-place-init c = record {
  no_more = omega arith;
  room = omega (arith, c.args.waiting.now.room);
  spread = λ dx nears. spread_none c.args.lists.now.places (search rules);
}

pub loop-place-preserved : goal.loop-place-preserved
loop-place-preserved c =
    let mem = c.args.mem.now in
    let first = c.args.part.first in
    let places = c.args.lists.now.places in
    let t = length c.loop-place.yielded in
    let turn = pair_turn places c.args.lists.now.near c.args.lists.now.known c.loop-place.yielded c.into_iter-place-iterator.result c.loop-place.place-iterator c.next.new.self _ (cc) (cc) c.loop-place.yielded_by _ c.in-Some.is c.next.ensures.steps in
    let i = c.in-Some.field-0-0.now in
    let row_is : i ≡ word places t = turn.1 in
    let here : i < c.args.part.size = omega (arith, row_is, c.requires.1 t turn.0) in
    let child = word c.rows_of-rows.result.now (4 * i + 2) / 65536 in
    let sum = total_more c.loop-place.waiting.keys child c.far_sum-key.result c.loop-place.n c.lower_key-n.ensures.0 c.lower_key-n.ensures.2 in
    let fewer = far_lowered c.loop-place.waiting.keys child c.far_sum-key.result in
    record {
      no_more = omega (arith, sum, c.loop-place.invariant.no_more);
      room = omega (arith, ap far_count c.lower_key-n.ensures.0, fewer, c.loop-place.invariant.room);
      spread = λ dx nears.
          let near_is = turn.2 ∙ nears t turn.0 ∙ ap (near_at mem first dx) (sym row_is) in
          let key_is = key_read mem first dx i (row_read mem first c.args.part.size c.rows_of-rows.ensures i 3 here (omega arith)) c.word.ensures near_is c.far_sum-key.ensures in
          spread_count places (sym (length-append c.loop-place.yielded _))
          (spread_more places (c.loop-place.invariant.spread dx nears) c.args.waiting.now.room row_is key_is (row_read mem first c.args.part.size c.rows_of-rows.ensures i 2 here (omega arith)) refl c.lower_key-n.ensures.0 c.lower_key-n.ensures.1 c.lower_key-n.ensures.2);
    }

pub returns : goal.returns
returns c =
    let all = pair_end c.args.lists.now.places c.args.lists.now.near c.args.lists.now.known c.loop-place.yielded c.into_iter-place-iterator.result c.loop-place.place-iterator c.next.new.self _ (cc) (cc) c.loop-place.yielded_by (sym (ap length c.places.ensures.0) ∙ c.places.ensures.1) (sym (ap length c.near.ensures.0) ∙ c.near.ensures.1) c.in-None.is c.next.ensures.steps in
    (c.loop-place.invariant.no_more, λ dx nears. spread_count c.args.lists.now.places all (c.loop-place.invariant.spread dx nears))

pub invariant_of-waiting : goal.invariant_of-waiting
invariant_of-waiting c =
    let child = word c.rows_of-rows.result.now (4 * c.in-Some.field-0-0.now + 2) / 65536 in
    let fewer = far_lowered c.loop-place.waiting.keys child c.far_sum-key.result in
    record { room = omega (arith, ap far_count c.lower_key-n.ensures.0, fewer, c.loop-place.invariant.room) }
