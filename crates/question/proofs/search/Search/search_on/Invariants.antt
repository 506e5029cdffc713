-- `search_on` turns until the search has ended.
-- Assumes nothing.
use mathlib.Core.Path.{◌≡◌}
use Prim.Native.Nat.{ℕ, ◌<◌}
use Rattle.roads.specs.Map.{Map}
use Rattle.fleet.specs.State.{State}
use Rattle.van_offers.specs.Genuine.{Genuine}
use Rattle.question.specs.Kept.{left_in, Searching}
use Rattle.question.proofs.search.Search.search_on.Given as goal

abbrev pub invariant-turns : goal.invariant-turns
invariant-turns l = record {
  same_k : l.self.best.k ≡ l.initial.self.best.k;
  on : (m : Map) (fleet : State) (x : ℕ) → Genuine m fleet l.mem → x < m.vertices → Searching m fleet x l.mem l.initial.dx l.initial.self → Searching m fleet x l.mem l.dx l.self;
}

abbrev pub decreases-turns : goal.decreases-turns
decreases-turns l = left_in l.self
