-- `road_search_c::Words::vertices_laid` meets its contract. Assumes nothing.
use mathlib.Core.Path.{refl}
use Rattle.std.proofs.Common.{rules, tests}
use Rattle.road_search.specs.Layout.{LaidVertex}
use Rattle.road_search_c.proofs.Each.{each_below}
use Rattle.road_search_c.proofs.Words.vertices_laid.Goals as goal

pub returns : goal.returns
returns c = each_below (LaidVertex c.args.self.now.mem.now c.args.self.now.vertices_at c.args.self.now.n c.args.self.now.count) c.args.self.now.n c.all.ensures.ran refl (λ x q k. search (rules, tests)) (λ x q k. search (rules, tests))
