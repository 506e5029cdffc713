-- `road_relax::relax_road` meets its contract: in each arm the stores are what `relax` and `wake` say. Assumes nothing.
use Rattle.road_relax.proofs.Relaxed.{Seen, stored, passed}
use borrow.Author.Rules.{rules}
use mathlib.Core.Path.{◌∙◌}
use Rattle.road_relax.proofs.relax_road.Goals as goal

pub returns-then-offer-from : goal.returns-then-offer-from
returns-then-offer-from c =
    let seen : Seen c.args.mem.now c.args.labels.now c.args.at c.args.u c.from.result c.from-2.result c.from-3.result =
    record {
      leaves = search rules;
      sized = search rules;
      near_is = search rules;
      weight_is = search rules;
      far_is = search rules;
    } in
    let both = stored _ _ c.args.waiting.now _ _ _ _ _ seen (search rules) in
    record { labels_after = both.0; keys_after = c.wait_with.ensures ∙ both.1 }

pub returns-else-offer-from : goal.returns-else-offer-from
returns-else-offer-from c =
    let seen : Seen c.args.mem.now c.args.labels.now c.args.at c.args.u c.from.result c.from-2.result c.from-3.result =
    record {
      leaves = search rules;
      sized = search rules;
      near_is = search rules;
      weight_is = search rules;
      far_is = search rules;
    } in
    let both = passed _ _ c.args.waiting.now _ _ _ _ _ seen (search rules) in
    record { labels_after = both.0; keys_after = both.1 }
