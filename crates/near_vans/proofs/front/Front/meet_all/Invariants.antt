use Prim.Native.Nat.{ℕ, ◌^◌, ◌<◌}
use Rattle.roads.specs.Map.{Map}
use Rattle.fleet.specs.State.{State}
use Rattle.near_vans.specs.Around.{RoadsFollowed}
use Rattle.near_vans.proofs.InRoads.{Going}
use Rattle.near_vans.proofs.front.Front.meet_all.Given as goal

abbrev pub invariant-loop : goal.invariant-loop
invariant-loop l = (l.link < 2 ^ 32) × ((m : Map) (s : State) (x v : ℕ) → RoadsFollowed m s l.mem l.counts x v l.first l.near l.initial.self → Going m x v l.link l.initial.self l.self)
