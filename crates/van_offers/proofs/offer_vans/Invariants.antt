use mathlib.Core.Path.{◌≡◌}
use Prim.Native.Nat.{◌-◌}
use Rattle.best_list.specs.Best.{entries, offered_all}
use Rattle.van_offers.specs.Offers.{stamp_in, van_offers}
use Rattle.van_offers.proofs.offer_vans.Given as goal

abbrev pub invariant-loop : goal.invariant-loop
invariant-loop l =
    (l.list.k ≡ l.initial.list.k)
    × (offered_all l.initial.list.k (entries (stamp_in l.mem l.counts) l.list) (van_offers l.mem l.counts l.near (1024 - l.counter) l.link) ≡ offered_all l.initial.list.k (entries (stamp_in l.mem l.counts) l.initial.list) (van_offers l.mem l.counts l.near 1024 l.first))
