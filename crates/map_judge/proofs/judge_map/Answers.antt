-- `judge_map` keeps the order of the refusals.
-- Assumes nothing.
use mathlib.Core.Path.{refl, ◌∙◌}
use Rattle.map_judge.proofs.Rules.{judge_by}
use Rattle.map_judge.proofs.judge_map.Goals as goal

pub returns : goal.returns
returns c =
    let h = c.in_ok-counts.ensures.shown in
    c.judge_rules.ensures _ c.show.ensures.parts c.show.ensures.roads ∙ judge_by c.args.map.now refl h.is_first h.shown refl h.fit refl h.rest
