use mathlib.Core.Path.{◌≡◌}
use lib.ListN.{drop}
use Rattle.best_list.specs.Best.{entries, offered_all}
use Rattle.van_offers.specs.Offers.{stamp_in, row_offers}
use Rattle.van_offers.proofs.offer_rows.Given as goal

abbrev pub invariant-loop-i : goal.invariant-loop-i
invariant-loop-i l =
    (l.list.k ≡ l.initial.list.k)
    × (offered_all l.initial.list.k (entries (stamp_in l.mem l.counts) l.list) (row_offers l.mem l.counts l.first l.dx (drop l.i-index l.rows)) ≡ offered_all l.initial.list.k (entries (stamp_in l.mem l.counts) l.initial.list) (row_offers l.mem l.counts l.first l.dx l.rows))
