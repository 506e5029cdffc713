-- Keys that some rows have given, over the parts that wait.
use Rattle.std.specs.Prelude.{List, ℕ}
use Rattle.part_keys.specs.Keys.{Spread}
use Rattle.part_keys.specs.declared.waiting.PartsWaiting.{PartsWaiting}

-- `Spread`, from the parts that waited before to those that wait after
abbrev pub Spreads : List ℕ → ℕ → List ℕ → (ℕ → Type 0) → PartsWaiting → PartsWaiting → Type 0
Spreads mem first dx Given before after = Spread mem first dx Given before.keys before.waits before.n after.keys after.waits after.n
