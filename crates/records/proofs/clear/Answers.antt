-- `clear` fills as many words as have room.
-- Assumes nothing.
use Rattle.std.proofs.Common.{ap, ◌∙◌, arith, length-take, length-drop}
use lib.ListN.{replicate}
use Rattle.records.proofs.Stores.{clear_fill}
use Rattle.records.proofs.clear.Goals as goal

pub returns : goal.returns
returns c =
    clear_fill c.args.mem.now _ c.args.at c.args.n _ _ c.min-start.ensures c.min-count.ensures
    (c.fill.ensures.after (λ y e. e) ∙ ap (λ n. replicate n 0) (simp (length-take, length-drop) (omega (arith, c.min-start.ensures, c.min-count.ensures))))
