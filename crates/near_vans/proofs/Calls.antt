-- What the calls of a search, one after the other, come to. Each law is over plain values, so that a need only names its facts.
-- Assumes nothing.
use mathlib.Core.Path.{◌≡◌, refl, subst}
use mathlib.Core.List.{List, []}
use Prim.Native.Nat.{ℕ, ◌%◌, ◌+◌, ◌≤◌, ◌<◌}
use native.Mathlib.Omega.{arith}
use Rattle.words.specs.Lists.{word}
use Rattle.roads.specs.Map.{Map}
use Rattle.counts.specs.declared.Counts.{Counts}
use Rattle.fleet.specs.State.{State}
use Rattle.fleet.specs.Question.{Listed, nearest}
use Rattle.places.specs.Place.{counts_in, vertex_address}
use Rattle.best_list.specs.Best.{Best, entries, limit_of, offered_all}
use Rattle.best_list.specs.declared.Offer.{Offer}
use Rattle.van_offers.specs.Offers.{stamp_in, van_offers}
use Rattle.van_offers.specs.Genuine.{Genuine, list_in}
use Rattle.van_offers.proofs.Steps.{vans_end}
use Rattle.near_vans.specs.Around.{Waits, SearchingAround, NothingTaken, Met, LeastLabel, Taken, MetAll}
use Rattle.near_vans.proofs.Turns.{started, stopped, turned}

-- what a search keeps
abbrev pub Keeps : (mem : List ℕ) (x k : ℕ) (f : Waits) (list : Best) → Type 0
Keeps mem x k f list = (m : Map) (fleet : State) → Genuine m fleet mem → x < m.vertices → SearchingAround m fleet x k f (list_in mem list)

-- its list is the answer
abbrev pub Answers : (mem : List ℕ) (x k : ℕ) (list : Best) → Type 0
Answers mem x k list = (m : Map) (fleet : State) → Genuine m fleet mem → x < m.vertices → list_in mem list ≡ nearest m fleet x k

module _ (mem : List ℕ) (x k : ℕ) (some : 1 ≤ k) where
  pub begun : {w f : Waits} (rest : List Offer) → NothingTaken w → Met (x % 4096) 0 w f → Keeps mem x k f (record { offers = []; rest = rest; k = k })
  begun rest fresh met m fleet g hx = started g x hx k some fresh met

  module _ {f : Waits} (list : Best) (kept : Keeps mem x k f list) where
    pub none_waits : f.n ≡ 0 → Answers mem x k list
    none_waits none m fleet g hx = stopped g x hx k some (kept m fleet g hx) (λ i h. absurd (omega arith))

    module _ {i near : ℕ} (least : LeastLabel f.labels f.n i) (near_is : near ≡ word f.labels i) where
      pub all_farther : {limit : ℕ} → limit ≡ limit_of k (list_in mem list) → limit < near → Answers mem x k list
      all_farther is-limit beyond m fleet g hx = stopped g x hx k some (kept m fleet g hx) (λ j h. omega (arith, least.least j h, near_is, is-limit, beyond))

      pub goes_on_lem : (list' : Best) {f' : Waits} {v : ℕ} {counts : Counts} {link first : ℕ} {f'' : Waits}
          → Taken i f f' v → counts ≡ counts_in mem → link ≡ word mem (vertex_address counts v + 4) → first ≡ word mem (vertex_address counts v + 3)
          → list_in mem list' ≡ offered_all k (list_in mem list) (van_offers mem counts near 1024 link) → MetAll mem counts first near f' f''
          → Keeps mem x k f'' list'
      goes_on_lem list' taken counts_are link_is first_is found-are met m fleet g hx = turned g x hx k some (kept m fleet g hx) i near least near_is taken counts_are link_is first_is found-are met

-- a vertex without vans offers nothing
pub none_offered : (mem : List ℕ) (counts : Counts) (near k link : ℕ) (l : List Listed) → link ≡ 0 → l ≡ offered_all k l (van_offers mem counts near 1024 link)
none_offered mem counts near k link l none = vans_end mem counts near k l 1024 link none refl

-- the stamps are those that the memory shows
pub some_offered : (mem : List ℕ) {counts : Counts} (near k link : ℕ) (list list' : Best) → counts ≡ counts_in mem
    → entries (stamp_in mem counts) list' ≡ offered_all k (entries (stamp_in mem counts) list) (van_offers mem counts near 1024 link)
    → list_in mem list' ≡ offered_all k (list_in mem list) (van_offers mem counts near 1024 link)
some_offered mem {counts} near k link list list' counts_are offered =
    subst
    (λ (c : Counts). entries (stamp_in mem c) list' ≡ offered_all k (entries (stamp_in mem c) list) (van_offers mem counts near 1024 link))
    counts_are offered
