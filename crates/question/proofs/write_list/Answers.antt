-- `write_list` writes the list, entry by entry.
-- Assumes nothing.
use mathlib.Core.Path.{ap, refl}
use native.Mathlib.Omega.{arith}
use lib.ListN.{length}
use Rattle.question.proofs.Writing.{write_none, write_more, write_all}
use Rattle.question.proofs.write_list.Goals as goal

pub loop-i-init : goal.loop-i-init
loop-i-init c = write_none c.args.mem.now c.counts_in-counts.result c.args.best c.args.answer.now c.requires

pub loop-i-preserved : goal.loop-i-preserved
loop-i-preserved c =
    write_more c.args.mem.now c.counts_in-counts.result c.args.best c.args.answer.now c.loop-i.i c.offers-offer-items.result.now c.offers-offer-items.ensures.offers c.loop-i.invariant c.loop-i-test.true c.van_word.ensures refl

pub returns : goal.returns
returns c =
    write_all c.args.mem.now c.counts_in-counts.result c.args.best c.args.answer.now c.loop-i.i c.counts_in-counts.ensures c.loop-i.invariant (omega (arith, c.loop-i-test.false, ap length c.offers-offer-items.ensures.offers))
