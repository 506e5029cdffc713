-- `road_search::Roads::turn` meets its contract: the roads from the first road out of `u` up to the next vertex's are the roads out of `u`.
-- Assumes nothing.
use Rattle.road_search.specs.Layout.{roads_out}
use Rattle.road_search.proofs.Fans.{Found, found}
use Rattle.road_search.proofs.Roads.turn.Goals as goal

pub relax_out-requires : goal.relax_out-requires
relax_out-requires c =
    let there : Found c.args.self.now.mem.now c.args.self.now.roads_at c.args.u _ c.next_out-next.result = rw c.next_out-next.ensures (found c.args.self.now.laid c.args.u c.requires.u_lt_n) in
    there.fan

pub returns : goal.returns
unfolding roads_out
returns c = record {
  labels_after = rw (← c.next_out-next.ensures) c.relax_out.ensures.labels_after;
  keys_after = rw (← c.next_out-next.ensures, ← c.take.ensures) c.relax_out.ensures.keys_after;
}
