use Prim.Native.Nat.{◌≤◌, ◌<◌}
use Rattle.words.specs.Limits.{FAR}
use Rattle.part_keys.specs.Keys.{Nearest}
use Rattle.part_keys.proofs.waiting.PartsWaiting.nearest.Given as goal

abbrev pub invariant-loop-t : goal.invariant-loop-t
invariant-loop-t l = (l.least < FAR → l.t ≤ l.self.n) × Nearest l.self.keys l.self.waits l.from l.t l.least l.at
