-- A row of a part and the row of the same vertex in the child that holds it, as words 2 and 3 of the row say.
-- Assumes nothing.
use mathlib.Core.Path.{◌≡◌, refl, ap, ◌∙◌, subst}
use mathlib.Core.Logic.{◌≢◌}
use mathlib.Core.Bool.{Bool, true, false, cond}
use mathlib.Core.List.{Memᴰ}
use Prim.Native.Nat.{ℕ, ◌+◌, ◌*◌, ◌<◌}
use native.Mathlib.Omega.{arith}
use Rattle.words.proofs.Lists.{place_in_lem}
use Rattle.layout.specs.Layout.{words_in_row}
use Rattle.roads.specs.Map.{Map, part_count}
use Rattle.roads.proofs.Trail.{Net}
use Rattle.parts.specs.Tree.{children, child_of, is_leaf}
use Rattle.parts.specs.Border.{borders}
use Rattle.parts.specs.Size.{row_vertices, size_of}
use Rattle.parts.proofs.Down.{Tree, boundary_inside, children_says, child_inner, children_apart, border_row, child_found, border_child}
use Rattle.parts.proofs.Gates.{rows_inner}
use Rattle.maps.specs.Sound.{Sound}
use Rattle.maps.proofs.Distances.{sound_net, sound_tree}
use Rattle.image.specs.Places.{itself_at, first_row_of, row_at}
use Rattle.image.specs.Image.{part_below, row_below}
use Rattle.image.specs.Records.{row_vertex}
use Rattle.assembly.specs.Steps.{RowIn, place_below}
use Rattle.assembly.proofs.Places.{row_is, row_real}

module _ (m : Map) (s : Sound m) where
  tree : Tree m
  tree = sound_tree m s

  net : Net m
  net = sound_net m s

  border_of : (p i : ℕ) → is_leaf m p ≡ false → i < size_of m p → Memᴰ (row_vertex m p i) (borders m p)
  border_of p i e hi = subst (Memᴰ (row_vertex m p i)) (rows_inner m p e) (row_is m p i hi)

  -- a child has a higher number
  pub child_later : (p c : ℕ) → Memᴰ c (children m p) → (c < part_count m) × (p < c)
  child_later p c hc =
      let said = children_says m p c hc in
      (said.0, omega (arith, said.1, said.2, (s.part c said.0).parent (omega (arith, said.2))))

  pub row_one : (p i c d : ℕ) → RowIn m p i c → RowIn m p i d → c ≡ d
  row_one p i c d a b = children_apart m net tree p c d (row_vertex m p i) a.is_child b.is_child a.is_held b.is_held

  -- what word 2 shows
  pub part_below_lem : (p i c : ℕ) → i < size_of m p → RowIn m p i c → part_below m p (row_vertex m p i) ≡ c
  unfolding part_below
  part_below_lem p i c hi a =
      ap (λ (b : Bool). cond b 0 (child_of m p (row_vertex m p i))) (child_inner m p c a.is_child)
      ∙ child_found m net tree p c (row_vertex m p i) (row_real m p i hi) a.is_child a.is_held

  pub part_below_says : (p i : ℕ) → i < size_of m p → part_below m p (row_vertex m p i) ≢ 0 → RowIn m p i (part_below m p (row_vertex m p i))
  unfolding part_below
  part_below_says p i hi real = by (is_leaf m p) refl real
    where
      by : (leaf : Bool) → is_leaf m p ≡ leaf → cond leaf 0 (child_of m p (row_vertex m p i)) ≢ 0 → RowIn m p i (cond leaf 0 (child_of m p (row_vertex m p i)))
      by true e none = absurd (none refl)
      by false e some =
          let found = border_child m net tree p (row_vertex m p i) (border_of p i e hi) in
          record { is_child = found.0; is_held = boundary_inside m (child_of m p (row_vertex m p i)) (row_vertex m p i) found.1 }

  -- the vertex has a row in the child
  pub place_below_lem : (p i c : ℕ) → i < size_of m p → RowIn m p i c → (place_below m p i c < size_of m c) × (row_vertex m c (place_below m p i c) ≡ row_vertex m p i)
  unfolding size_of
  place_below_lem p i c hi a =
      place_in_lem (row_vertex m p i) (row_vertices m c)
      (border_row m net tree p (row_vertex m p i) c (border_of p i (child_inner m p c a.is_child) hi) a.is_child a.is_held)

  -- which word 3 shows
  pub row_below_lem : (p i c : ℕ) → i < size_of m p → RowIn m p i c → row_below m p (row_vertex m p i) ≡ first_row_of m c + words_in_row * place_below m p i c
  unfolding row_below row_at
  row_below_lem p i c hi a =
      ap (λ (b : Bool). cond b (itself_at m (row_vertex m p i)) (row_at m (child_of m p (row_vertex m p i)) (row_vertex m p i))) (child_inner m p c a.is_child)
      ∙ ap (λ (d : ℕ). row_at m d (row_vertex m p i)) (child_found m net tree p c (row_vertex m p i) (row_real m p i hi) a.is_child a.is_held)
