use mathlib.Core.Path.{◌≡◌}
use lib.ListN.{length}
use Rattle.roads.specs.Map.{Map}
use Rattle.opening_parts.specs.Parts.{PartsReady, PartsStand}
use Rattle.opening_parts.proofs.Step.{Families}
use Rattle.opening_parts.proofs.write_parts.Given as goal

abbrev pub invariant-loop-p : goal.invariant-loop-p
invariant-loop-p l = (length l.children ≡ length l.initial.children)
    × ((m : Map) → PartsReady m l.parents l.sizes l.parts l.tables_end l.rows_end l.initial.children l.initial.mem → Families m l.p l.children l.table l.row × PartsStand m l.p l.initial.mem l.mem)
