-- A part's rows from what stands one step further down, in one form for leaves and non-leaf parts:
-- below a non-leaf part stand the rows of its children, below a leaf its vertices themselves.
use Rattle.std.specs.Prelude.{Bool, cond, ℕ, eqb}
use mathlib.Core.List.{map, foldr}
use Rattle.roads.specs.Map.{Map}
use Rattle.roads.specs.Dist.{dist}
use Rattle.parts.specs.Tree.{child_of, is_leaf}
use Rattle.parts.specs.Size.{row_vertices}
use Rattle.rows.specs.declared.Row.{Row}
use Rattle.rows.specs.Row.{empty_row, itself, nearer, row_of}
use Rattle.rows.specs.Refresh.{onward}

-- what stands one step further down from the row of b in part p
unfoldable pub source : Map → (ℕ → Bool) → ℕ → ℕ → Row
source m isActive p b = cond (is_leaf m p) (itself isActive b) (row_of m isActive (child_of m p b) b)

-- the source of b, seen from r
unfoldable pub candidate : Map → (ℕ → Bool) → ℕ → ℕ → ℕ → Row
candidate m isActive p r b = onward (source m isActive p b) (dist m b r)

-- the row of r in part p made anew: the nearest candidate
unfoldable pub row_anew : Map → (ℕ → Bool) → ℕ → ℕ → Row
row_anew m isActive p r = foldr nearer empty_row (map (candidate m isActive p r) (row_vertices m p))

-- the row of r in part p after v arrived: what it showed, or the nearest candidate whose source shows v
unfoldable pub row_met : Map → (ℕ → Bool) → ℕ → ℕ → ℕ → Row → Row
row_met m isActive p v r row = foldr (λ b best. cond (eqb (source m isActive p b).vertex v) (nearer (candidate m isActive p r b) best) best) row (row_vertices m p)
