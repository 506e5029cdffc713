-- `put_words` stores one word after the other.
-- Assumes nothing.
use Rattle.std.proofs.Common.{◌+◌, ap, sym, ◌∙◌, arith}
use Rattle.std.proofs.lemmas.List.Edits.{sets}
use lib.ListN.{drop_of_length-le}
use Rattle.records.proofs.Stores.{words_more, sets_past}
use Rattle.records.proofs.put_words.Goals as goal

pub loop-i-preserved : goal.loop-i-preserved
loop-i-preserved g c =
    (c.loop-i.invariant.0, words_more c.loop-i.mem c.args.words c.args.at c.loop-i.i c.put.ensures (omega arith) (omega (arith, c.loop-i.invariant.0)) ∙ c.loop-i.invariant.1)

pub returns-after-loop-i : goal.returns-after-loop-i
returns-after-loop-i g c =
    sym (ap (sets c.loop-i.mem (c.args.at + c.loop-i.i)) (drop_of_length-le c.args.words (omega (arith, c.loop-i.invariant.0)))) ∙ c.loop-i.invariant.1

pub returns-else-at-mem : goal.returns-else-at-mem
returns-else-at-mem g c = sym (sets_past c.args.words c.args.mem.now c.args.at c.if-at-mem.false)
