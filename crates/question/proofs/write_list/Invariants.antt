use Rattle.best_list.specs.Best.{entries}
use Rattle.van_offers.specs.Offers.{stamp_in}
use Rattle.question.proofs.Writing.{Writing}
use Rattle.question.proofs.write_list.Given as goal

abbrev pub invariant-loop-i : goal.invariant-loop-i
invariant-loop-i l = Writing (entries (stamp_in l.mem l.counts) l.fn.best) l.initial.answer l.i l.answer
