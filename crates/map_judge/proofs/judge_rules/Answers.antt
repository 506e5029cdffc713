-- `judge_rules` gives what the rules give.
-- Assumes nothing.
use mathlib.Core.Path.{refl, sym, ◌∙◌}
use native.Mathlib.Omega.{arith}
use Rattle.map_judge.proofs.Rules.{rules_by, roads_known, given_of, borders_known, each_few, sound_by}
use Rattle.map_judge.proofs.judge_rules.Goals as goal

pub returns-then-not-parts_fit : goal.returns-then-not-parts_fit
returns-then-not-parts_fit c = λ m shows roads. rules_by m (sym (c.parts_fit.ensures m shows) ∙ c.if-not-parts_fit.true) refl refl

pub returns-then-not-roads_fit : goal.returns-then-not-roads_fit
returns-then-not-roads_fit c = λ m shows roads. rules_by m (sym (c.parts_fit.ensures m shows) ∙ c.if-not-parts_fit.false) (roads_known m _ _ _ shows.vertex_count roads c.roads_fit.ensures c.if-not-roads_fit.true) refl

pub returns-then-not-sizes_fit : goal.returns-then-not-sizes_fit
returns-then-not-sizes_fit c = λ m shows roads.
    let good_parts = (sym (c.parts_fit.ensures m shows) ∙ c.if-not-parts_fit.false) in
    let good_roads = (roads_known m _ _ _ shows.vertex_count roads c.roads_fit.ensures c.if-not-roads_fit.false) in
    let given = given_of _ _ _ _ (omega arith) (omega arith) shows roads good_parts good_roads in
    rules_by m good_parts good_roads (borders_known given _ (c.take.ensures.2 m _ given).1 c.sizes_fit.ensures c.if-not-sizes_fit.true)

pub need-requires : goal.need-requires
need-requires c = (record { vertices = omega arith; roads = omega arith; some = omega arith; parts = omega arith }, each_few _ _ c.sizes_fit.ensures c.if-not-sizes_fit.false)

pub returns : goal.returns
returns c = λ m shows roads.
    let good_parts = (sym (c.parts_fit.ensures m shows) ∙ c.if-not-parts_fit.false) in
    let good_roads = (roads_known m _ _ _ shows.vertex_count roads c.roads_fit.ensures c.if-not-roads_fit.false) in
    let given = given_of _ _ _ _ (omega arith) (omega arith) shows roads good_parts good_roads in
    let sizes = (c.take.ensures.2 m _ given).1 in
    sound_by m _ _ _ _ _ shows roads sizes c.need.ensures
    ∙ rules_by m good_parts good_roads (borders_known given _ sizes c.sizes_fit.ensures c.if-not-sizes_fit.false)
