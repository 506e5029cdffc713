-- Row i of a part as the words of the memory show it: its vertex, the child that holds it, and its row there.
-- Assumes nothing.
use mathlib.Core.Path.{◌≡◌, sym, ap, ◌∙◌, subst⁻¹}
use mathlib.Core.Logic.{◌≢◌}
use mathlib.Core.List.{List}
use Prim.Native.Nat.{ℕ, ◌+◌, ◌*◌, ◌<◌}
use native.Mathlib.Omega.{arith}
use Rattle.layout.specs.Layout.{rows_in_part, words_in_row, own_in_row, child_in_row, below_in_row, part_word, row_word}
use Rattle.roads.specs.Map.{Map, part_count}
use Rattle.parts.specs.Size.{size_of}
use Rattle.parts.proofs.Down.{children_says}
use Rattle.image.specs.Image.{part_below}
use Rattle.image.specs.Records.{row_vertex}
use Rattle.assembly.specs.Laid.{LaidForTables}
use Rattle.assembly.specs.Steps.{RowIn, place_below}
use Rattle.assembly.proofs.Places.{row_real}
use Rattle.assembly.proofs.Below.{child_later, part_below_lem, part_below_says, row_below_lem}

module _ (m : Map) (mem : List ℕ) (L : LaidForTables m mem) (p i : ℕ) (hp : p < part_count m) (hi : i < size_of m p) {first mark : ℕ}
    (first_is : first ≡ part_word mem p rows_in_part) (shown : mark ≡ row_word mem first i own_in_row) where
  -- the vertex fits beside the child in one word
  small : row_vertex m p i < child_in_row
  small = omega (arith, row_real m p i hi, L.sound.vertices.1)

  mark_is : mark ≡ row_vertex m p i + child_in_row * part_below m p (row_vertex m p i)
  mark_is = shown ∙ ap (λ (f : ℕ). row_word mem f i own_in_row) (first_is ∙ (L.part p hp).first_row) ∙ (L.row p i hp hi).mark

  pub shown_vertex : {v : ℕ} → ((u d : ℕ) → u < child_in_row → mark ≡ u + child_in_row * d → v ≡ u) → v ≡ row_vertex m p i
  shown_vertex reads = reads (row_vertex m p i) (part_below m p (row_vertex m p i)) small mark_is

  module _ {c : ℕ} (reads : (u d : ℕ) → u < child_in_row → mark ≡ u + child_in_row * d → c ≡ d) where
    pub shown_part : c ≡ part_below m p (row_vertex m p i)
    shown_part = reads (row_vertex m p i) (part_below m p (row_vertex m p i)) small mark_is

    -- no child holds it
    pub shown_nowhere : c ≡ 0 → (d : ℕ) → RowIn m p i d → ⊥
    shown_nowhere none d di = (children_says m p d di.is_child).2 (sym (part_below_lem m L.sound p i d hi di) ∙ sym shown_part ∙ none)

    module _ (some : c ≢ 0) where
      pub shown_in : RowIn m p i c
      shown_in = subst⁻¹ (RowIn m p i) shown_part (part_below_says m L.sound p i hi (λ none. some (shown_part ∙ none)))

      shown_later : (c < part_count m) × (p < c)
      shown_later = child_later m L.sound p c shown_in.is_child

      pub shown_place : {row firstBelow k : ℕ} → firstBelow ≡ part_word mem c rows_in_part → row ≡ row_word mem first i below_in_row → ((n : ℕ) → row ≡ firstBelow + words_in_row * n → k ≡ n) → k ≡ place_below m p i c
      shown_place below_is points finds =
          finds (place_below m p i c)
          (points ∙ ap (λ (f : ℕ). row_word mem f i below_in_row) (first_is ∙ (L.part p hp).first_row) ∙ (L.row p i hp hi).below ∙ row_below_lem m L.sound p i c hi shown_in
          ∙ ap (λ (f : ℕ). f + words_in_row * place_below m p i c) (sym (below_is ∙ (L.part c shown_later.0).first_row)))
