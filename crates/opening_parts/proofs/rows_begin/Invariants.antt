use mathlib.Core.Path.{◌≡◌}
use Rattle.roads.specs.Map.{Map}
use Rattle.image.specs.Places.{first_row_of}
use Rattle.opening_parts.specs.Parts.{Sized}
use Rattle.opening_parts.proofs.rows_begin.Given as goal

abbrev pub invariant-loop-p : goal.invariant-loop-p
invariant-loop-p l = (m : Map) → Sized m l.sizes l.parts l.rows_end → l.row ≡ first_row_of m l.p
