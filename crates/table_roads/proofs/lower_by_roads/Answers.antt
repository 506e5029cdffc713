-- `table_roads::lower_by_roads` meets its contract. The loop's invariant: the roads passed have lowered their words.
-- Assumes nothing.
use borrow.Author.Rules.{rules}
use mathlib.Core.Path.{◌∙◌}
use Rattle.assembly.proofs.Roads.{first_road_is, roads_turn, roads_done}
use Rattle.table_roads.proofs.lower_by_roads.Goals as goal

pub loop-r-preserved : goal.loop-r-preserved
loop-r-preserved c = (
  c.lower_by_road.ensures.mem_len_unchanged ∙ c.loop-r.invariant.0,
  c.lower_by_road.ensures.marks_len_unchanged ∙ c.loop-r.invariant.1,
  roads_turn _ _ _ _ _ _ _ _ _ _ _ c.loop-r.invariant.1 (search rules) c.part_word-first.ensures c.row_word.ensures c.vertex_of-v.ensures.1 (first_road_is _ _ c.counts_in-counts.ensures c.first_road-r-end.ensures) c.loop-r.invariant.2 c.lower_by_road.ensures.roads_of,
)

pub returns : goal.returns
returns c =
    record { roads_of = roads_done _ _ _ _ _ _ _ _ _ (search rules) c.part_word-first.ensures c.row_word.ensures c.vertex_of-v.ensures.1 (first_road_is _ _ c.counts_in-counts.ensures c.first_road-r.ensures) (first_road_is _ _ c.counts_in-counts.ensures c.first_road-r-end.ensures) c.loop-r.invariant.2; mem_len_unchanged = c.loop-r.invariant.0; marks_len_unchanged = c.loop-r.invariant.1 }
