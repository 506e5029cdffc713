-- `road_lookup::road_between` finds the road of the definitions, where the memory has the roads of a sound map.
-- Assumes nothing.
use mathlib.Core.Logic.{inl, inr}
use mathlib.Core.Path.{sym, ◌∙◌}
use native.Mathlib.Decide.{ℕ_discrete}
use borrow.Author.Tests.{eq-eqb}
use Rattle.std.proofs.lemmas.Bool.{ne_eqb}
use Rattle.road_lookup.proofs.Found.{no_vertex, none_left, past_all, other_end, that_road}
use Rattle.road_lookup.proofs.road_between.Goals as goal

pub returns-then-counts-from : goal.returns-then-counts-from
returns-then-counts-from c = λ m sound stand. no_vertex _ _ _ _ m sound stand c.if-counts-from.true

pub returns-then-high-road : goal.returns-then-high-road
returns-then-high-road c = λ m sound stand.
    elim c.then-high-road.either [
      | inl past ↦ none_left _ _ _ _ m sound stand c.if-counts-from.false _ _ _ c.first_road-low.ensures c.first_road-high.ensures c.first_to-road.ensures past
      | inr within ↦ past_all _ _ _ _ m sound stand c.if-counts-from.false _ _ _ c.first_road-low.ensures c.first_road-high.ensures c.first_to-road.ensures within.1
    ]

pub returns : goal.returns
returns c = λ m sound stand.
    c.then_some.ensures
    ∙ elim (ℕ_discrete c.road_end.result c.args.to) [
      | yes same ↦
          rw (eq-eqb c.road_end.result c.args.to same)
          (that_road _ _ _ _ m sound stand c.if-counts-from.false _ _ _ c.first_road-low.ensures c.first_road-high.ensures c.first_to-road.ensures c.if-high-road.false (sym c.road_end.ensures ∙ same))
      | no differs ↦
          rw (ne_eqb c.road_end.result c.args.to differs)
          (other_end _ _ _ _ m sound stand c.if-counts-from.false _ _ _ c.first_road-low.ensures c.first_road-high.ensures c.first_to-road.ensures c.if-high-road.false (λ e. differs (c.road_end.ensures ∙ e)))
    ]
