-- `row_refresh::switch` is `switched`.
use Rattle.row_refresh.proofs.Chain.{switched_is}
use Rattle.row_refresh.proofs.switch.Goals as goal

pub returns : goal.returns
returns c =
    switched_is c.args.mem.now c.args.v _ _ _ c.counts_in.ensures c.vertex_at-at.ensures c.word-leaf.ensures c.args.arrives _ _ _ c.own_row.ensures c.show.ensures c.refresh_up.ensures
