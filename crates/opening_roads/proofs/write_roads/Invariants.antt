use Rattle.roads.specs.Map.{Map}
use Rattle.opening_roads.specs.Roads.{RoadsReady, RoadsStand}
use Rattle.opening_roads.proofs.write_roads.Given as goal

abbrev pub invariant-loop-i : goal.invariant-loop-i
invariant-loop-i l = (m : Map) → RoadsReady m l.body l.roads l.base l.initial.ins l.initial.mem → RoadsStand m l.i l.initial.mem l.ins l.mem
