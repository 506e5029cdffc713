-- `take_waiting` takes a waiting part.
-- Assumes nothing.
use Rattle.question.proofs.Calls.{leaf_goes, part_goes}
use Rattle.question.proofs.search.Search.take_waiting.Goals as goal

pub returns-then-part_word-eq0 : goal.returns-then-part_word-eq0
returns-then-part_word-eq0 c =
    leaf_goes c.args.mem.now c.args.dx.now c.args.self.now c.args.at c.requires c.give_up-q.new.self c.give_up-q.ensures.0 c.give_up-q.ensures.1 c.give_up-q.ensures.2 c.give_up-q.ensures.3 c.part_word.ensures c.if-part_word-eq0.true c.relax_leaf.ensures c.offer_leaf.ensures.0 c.offer_leaf.ensures.1

pub returns : goal.returns
returns c =
    part_goes c.args.mem.now c.args.dx.now c.args.self.now c.args.at c.requires c.give_up-q.new.self c.give_up-q.ensures.0 c.give_up-q.ensures.1 c.give_up-q.ensures.2 c.give_up-q.ensures.3 c.part_word.ensures c.if-part_word-eq0.false c.open_up.ensures.0 c.open_up.ensures.1
