-- From a part down to a child. A table over the child's row vertices that lets no walk inside the child, no walk between two boundary vertices and
-- no way round by a boundary vertex be lighter lets no walk of the map be lighter.
-- Assumes nothing.
use mathlib.Core.Path.{◌≡◌}
use mathlib.Core.Logic.{inl, inr}
use mathlib.Core.Bool.{true}
use mathlib.Core.List.{Memᴰ}
use Prim.Native.Nat.{ℕ, ◌+◌, ◌≤◌}
use native.Mathlib.Omega.{arith}
use Rattle.roads.specs.Map.{Map}
use Rattle.roads.specs.Walk.{Walk}
use Rattle.roads.proofs.Trail.{Net}
use Rattle.roads.proofs.Inner.{inner_joined, cut_first, cut_last}
use Rattle.parts.specs.Tree.{holds}
use Rattle.parts.specs.Border.{boundary}
use Rattle.parts.specs.Size.{row_vertices}
use Rattle.parts.proofs.Cross.{enters_boundary, leaves_boundary}
use Rattle.parts.proofs.Down.{Tree, boundary_row}
use Rattle.parts.proofs.Gates.{row_held}
use Rattle.inner_walks.specs.Inner.{Inner}

pub record EnteredTable (m : Map) (c : ℕ) (T : ℕ → ℕ → ℕ) : Type 0 where
  pub inner : (a b w : ℕ) → Memᴰ a (row_vertices m c) → Memᴰ b (row_vertices m c) → Inner m c a b w → T a b ≤ w
  pub between : (g h w : ℕ) → boundary m c g ≡ true → boundary m c h ≡ true → Walk m g h w → T g h ≤ w
  pub tried : (a g b : ℕ) → Memᴰ a (row_vertices m c) → boundary m c g ≡ true → Memᴰ b (row_vertices m c) → T a b ≤ T a g + T g b

module _ (m : Map) (net : Net m) (tree : Tree m) (c : ℕ) (T : ℕ → ℕ → ℕ) (E : EnteredTable m c T) where
  pub entered_least : (a b w : ℕ) → Memᴰ a (row_vertices m c) → Memᴰ b (row_vertices m c) → Walk m a b w → T a b ≤ w
  entered_least a b w ha hb walk =
      elim (cut_first (holds m c) (boundary m c) (leaves_boundary m c) (row_held m net tree c a ha) walk) [
        | inl k ↦ E.inner a b w ha hb k
        | inr out ↦
            let hg = boundary_row m net tree c out.gate out.is_gate in
            elim (cut_last (holds m c) (boundary m c) net (enters_boundary m c) (row_held m net tree c b hb) out.from_gate) [
              | inl k ↦ omega (arith, E.inner a b (out.ahead + out.behind) ha hb (inner_joined out.to_gate k), out.adds)
              | inr back ↦
                  let hh = boundary_row m net tree c back.gate back.is_gate in
                  omega (
                    arith,
                    E.tried a out.gate b ha out.is_gate hb,
                    E.tried out.gate back.gate b hg back.is_gate hb,
                    E.inner a out.gate out.ahead ha hg out.to_gate,
                    E.between out.gate back.gate back.ahead out.is_gate back.is_gate back.to_gate,
                    E.inner back.gate b back.behind hh hb back.from_gate,
                    out.adds,
                    back.adds,
                  )
            ]
      ]
