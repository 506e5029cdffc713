-- `relax_leaf` makes the distances of a leaf's active rows less.
-- Assumes nothing.
use Rattle.row_lists.specs.Rows.{shows_own, OwnRow}
use Rattle.row_lists.proofs.Looking.{own_named}
use Rattle.row_distances.proofs.Relaxing.{closer_own, closer_named}
use borrow.Author.Rules.{rules}
use Rattle.row_distances.proofs.relax_leaf.Goals as goal

pub relax_asked-requires : goal.relax_asked-requires
unfolding shows_own
relax_asked-requires c = (c.in-Some.ensures.within, (shows_own c.args.mem.now c.in-Some.part.first, c.look.ensures (shows_own c.args.mem.now c.in-Some.part.first) (λ i is h e. search rules)))

pub returns : goal.returns
unfolding shows_own
returns c =
    let part = c.in-Some.ensures in
    let looked = c.look.ensures (shows_own c.args.mem.now c.in-Some.part.first) (λ i is h e. search rules) in
    λ f. (
      closer_named (OwnRow c.args.mem.now) part.first_is part.table_is part.size_is (closer_own looked c.relax_asked.ensures),
      own_named c.args.mem.now c.args.p part.first_is part.size_is looked.asks,
    )
