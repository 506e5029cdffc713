use Rattle.std.proofs.Common.{◌≡◌, ◌≤◌, length}
use Rattle.roads.specs.Map.{Map}
use Rattle.opening_vertices.specs.Vertices.{VerticesReady, VerticesStand}
use Rattle.opening_vertices.proofs.Step.{Taken}
use Rattle.opening_vertices.proofs.write_vertices.Given as goal

abbrev pub invariant-loop-v : goal.invariant-loop-v
invariant-loop-v l = (l.road ≤ l.roads)
    × (length l.places ≡ length l.initial.places)
    × ((m : Map) → VerticesReady m l.leaves l.body l.roads l.vertices l.base l.ins l.initial.places l.initial.mem → Taken m l.v l.places l.road × VerticesStand m l.v l.initial.mem l.mem)
