-- `road_search_c::Words::roads_laid` meets its contract. Assumes nothing.
use mathlib.Core.Path.{refl}
use Prim.Native.Nat.{◌+◌, ◌*◌}
use Rattle.std.proofs.Common.{rules, tests}
use Rattle.road_search.specs.Layout.{LaidRoad}
use Rattle.road_relax.specs.Relaxing.{shown_road}
use Rattle.road_search_c.proofs.Each.{each_below}
use Rattle.road_search_c.proofs.Words.roads_laid.Goals as goal

pub returns : goal.returns
returns c = each_below (λ j. LaidRoad c.args.self.now.mem.now c.args.self.now.vertices_at c.args.self.now.n j (shown_road c.args.self.now.mem.now (c.args.self.now.roads_at + 4 * j))) c.args.self.now.count c.all.ensures.ran refl (λ x q k. search (rules, tests)) (λ x q k. search (rules, tests))
