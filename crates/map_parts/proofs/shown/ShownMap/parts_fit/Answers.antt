-- `parts_fit` is the test `parts_fit` of a map that shows these parents and leaves.
-- Assumes nothing.
use mathlib.Core.Path.{◌≡◌, refl, sym, ap, ◌∙◌}
use mathlib.Core.Bool.{Bool}
use Prim.Native.Nat.{ℕ}
use native.Mathlib.Omega.{arith}
use lib.Dec.{eqb}
use borrow.Author.Tests.{eq-eqb, ne_eqb}
use Rattle.words.specs.Limits.{NONE}
use Rattle.map_parts.proofs.Fits.{no_root, parts_fit_is}
use Rattle.map_parts.proofs.shown.ShownMap.parts_fit.Goals as goal

-- the outcome of a test of what was read, for what it is
at-root : {x y : ℕ} {b : Bool} → x ≡ y → eqb x NONE ≡ b → eqb y NONE ≡ b
at-root is e = sym (ap (λ (n : ℕ). eqb n NONE) is) ∙ e

pub returns-then-parent-ne-NONE : goal.returns-then-parent-ne-NONE
returns-then-parent-ne-NONE c m shows = no_root m _ _ _ _ shows c.requires (at-root c.parent.ensures (ne_eqb _ _ c.if-parent-ne-NONE.true))

pub returns-then-tree_fits : goal.returns-then-tree_fits
returns-then-tree_fits c m shows =
    parts_fit_is m _ _ _ _ shows _ _ c.tally_into.ensures c.tally_into-2.ensures (omega arith) c.requires
    (at-root c.parent.ensures (eq-eqb _ _ c.if-parent-ne-NONE.false))
    (sym c.if-tree_fits.true ∙ c.tree_fits.ensures) c.vertices_stand.ensures

pub returns-else-tree_fits : goal.returns-else-tree_fits
returns-else-tree_fits c m shows =
    c.if-tree_fits.false
    ∙ parts_fit_is m _ _ _ _ shows _ _ c.tally_into.ensures c.tally_into-2.ensures (omega arith) c.requires
    (at-root c.parent.ensures (eq-eqb _ _ c.if-parent-ne-NONE.false))
    (sym c.if-tree_fits.false ∙ c.tree_fits.ensures) refl
