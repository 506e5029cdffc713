-- `table_roads::take_roads` meets its contract. The loop's invariant: the roads from the rows passed are taken.
-- Assumes nothing.
use borrow.Author.Rules.{rules}
use mathlib.Core.Path.{◌∙◌}
use Rattle.assembly.proofs.Roads.{taken_turn, taken_done}
use Rattle.table_roads.proofs.take_roads.Goals as goal

pub loop-i-preserved : goal.loop-i-preserved
loop-i-preserved c = (c.lower_by_roads.ensures.mem_len_unchanged ∙ c.loop-i.invariant.0, c.lower_by_roads.ensures.marks_len_unchanged ∙ c.loop-i.invariant.1, taken_turn _ _ _ _ _ _ _ _ _ c.loop-i.invariant.1 (search rules) c.part_word-i-end.ensures c.loop-i.invariant.2 c.lower_by_roads.ensures.roads_of)

pub returns : goal.returns
returns c =
    record { roads = taken_done _ _ _ _ _ _ _ (search rules) (search rules) c.part_word-i-end.ensures c.loop-i.invariant.2; mem_len_unchanged = c.loop-i.invariant.0; marks_len_unchanged = c.loop-i.invariant.1 }
