-- The words of two vertices in a part and in a child that holds both, leveled.
-- Assumes nothing.
use mathlib.Core.Path.{◌≡◌, sym, ◌∙◌, subst, subst⁻¹}
use mathlib.Core.Logic.{◌⊎◌, inl, inr, ◌≢◌}
use mathlib.Core.List.{List}
use Prim.Native.Nat.{ℕ, ◌+◌, ◌*◌, ◌≤◌, ◌<◌}
use native.Mathlib.Nat.{eq-or-lt_of_le}
use native.Mathlib.Omega.{arith}
use Rattle.words.specs.Lists.{word}
use Rattle.cells.specs.Lowered.{lowered}
use Rattle.layout.specs.Layout.{size_in_part, rows_in_part, words_in_row, own_in_row, child_in_row, below_in_row, part_word, row_word}
use Rattle.roads.specs.Map.{Map, part_count}
use Rattle.roads.specs.Dist.{dist}
use Rattle.parts.specs.Size.{size_of}
use Rattle.parts.proofs.Down.{children_says}
use Rattle.image.specs.Places.{table_of, first_row_of}
use Rattle.image.specs.Records.{row_vertex}
use Rattle.assembly.specs.Laid.{LaidForTables, table_entry}
use Rattle.assembly.specs.Lower.{leveled, Honest, Lower}
use Rattle.assembly.specs.Steps.{RowIn, place_below, AgreedFor, AgreedPair, AgreedRow, Agreed}
use Rattle.assembly.proofs.Places.{laid_kept}
use Rattle.assembly.proofs.Lowering.{lower_none, lower_then, lower_one, lower_one_at}
use Rattle.assembly.proofs.Below.{child_later, row_one, part_below_lem, place_below_lem}
use Rattle.assembly.proofs.Shown.{shown_part, shown_in, shown_place}

module _ (m : Map) (mem : List ℕ) (L : LaidForTables m mem) (low p i j c : ℕ) (hl : low ≤ p) (hp : p < part_count m) (hi : i < size_of m p) (hj : j < size_of m p)
    (ri : RowIn m p i c) (rj : RowIn m p j c) where
  later : (c < part_count m) × (p < c)
  later = child_later m L.sound p c ri.is_child

  above : ℕ
  above = table_of m p + (size_of m p * i + j)

  below : ℕ
  below = table_of m c + (size_of m c * place_below m p i c + place_below m p j c)

  first : Lower m low mem (lowered mem above (word mem below))
  unfolding above below
  first =
      lower_one m mem L.fits p i j hp hi hj (word mem below) low hl
      (λ h. subst (λ (v : ℕ). dist m v (row_vertex m p j) ≤ word mem below) (place_below_lem m L.sound p i c hi ri).1
      (subst (λ (v : ℕ). dist m (row_vertex m c (place_below m p i c)) v ≤ word mem below) (place_below_lem m L.sound p j c hj rj).1
      (h c (place_below m p i c) (place_below m p j c) (omega (arith, later.1)) later.0 (place_below_lem m L.sound p i c hi ri).0 (place_below_lem m L.sound p j c hj rj).0)))

  second_near : Honest m low (lowered mem above (word mem below)) → dist m (row_vertex m c (place_below m p i c)) (row_vertex m c (place_below m p j c)) ≤ word mem above
  unfolding above
  second_near h =
      subst⁻¹ (λ (v : ℕ). dist m v (row_vertex m c (place_below m p j c)) ≤ word mem above) (place_below_lem m L.sound p i c hi ri).1
      (subst⁻¹ (λ (v : ℕ). dist m (row_vertex m p i) v ≤ word mem above) (place_below_lem m L.sound p j c hj rj).1
      (omega (arith, h p i j hl hp hi hj, first.less p i j hl hp hi hj)))

  second : Lower m low (lowered mem above (word mem below)) (leveled mem above below)
  unfolding leveled above below
  second =
      lower_one m (lowered mem above (word mem below)) (omega (arith, L.fits, first.sized)) c (place_below m p i c) (place_below m p j c)
      later.0 (place_below_lem m L.sound p i c hi ri).0 (place_below_lem m L.sound p j c hj rj).0 (word mem above) low (omega (arith, later.1)) second_near

  pub leveled_pair : (a b : ℕ) → a ≡ table_of m p + (size_of m p * i + j) → b ≡ table_of m c + (size_of m c * place_below m p i c + place_below m p j c) →
      AgreedPair m low p i j mem (leveled mem a b)
  unfolding leveled above below
  leveled_pair a b ea eb =
      rw (ea, eb) (record {
        lower = lower_then first second;
        up = λ d k l of _ _ dk _.
            rw (of.0, of.1, row_in_one d k of.0 dk) (omega (arith, second.less p i j hl hp hi hj, lower_one_at m mem L.fits p i j hp hi hj (word mem below)));
        down = λ d k l of _ _ dk _.
            rw (of.0, of.1, row_in_one d k of.0 dk)
            (lower_one_at m (lowered mem above (word mem below)) (omega (arith, L.fits, first.sized)) c (place_below m p i c) (place_below m p j c)
            later.0 (place_below_lem m L.sound p i c hi ri).0 (place_below_lem m L.sound p j c hj rj).0 (word mem above));
      })
    where
      row_in_one : (d k : ℕ) → k ≡ i → RowIn m p k d → d ≡ c
      row_in_one d k same dk = sym (row_one m L.sound p i c d ri (subst (λ (n : ℕ). RowIn m p n d) same dk))

-- ---- nothing done, and one thing after the other

module _ {m : Map} {low p : ℕ} {Of : ℕ → ℕ → Type 0} where
  pub agreed_none : {mem : List ℕ} → ((c i j : ℕ) → Of i j → i < size_of m p → j < size_of m p → RowIn m p i c → RowIn m p j c → ⊥) → AgreedFor m low p Of mem mem
  agreed_none {mem} never = record {
    lower = lower_none m low mem;
    up = λ c i j of hi hj ri rj. absurd (never c i j of hi hj ri rj);
    down = λ c i j of hi hj ri rj. absurd (never c i j of hi hj ri rj);
  }

  pub agreed_then : {First Then : ℕ → ℕ → Type 0} {start before after : List ℕ} → LaidForTables m start → low ≤ p → p < part_count m → ((i j : ℕ) → Of i j → j < size_of m p → First i j ⊎ Then i j) →
      AgreedFor m low p First start before → AgreedFor m low p Then before after → AgreedFor m low p Of start after
  agreed_then {start} {before} {after} L hl hp which A B = record {
    lower = lower_then A.lower B.lower;
    up = λ c i j of hi hj ri rj. elim (which i j of hj) [
      | inl first ↦ omega (arith, B.lower.less p i j hl hp hi hj, A.up c i j first hi hj ri rj)
      | inr last ↦ omega (arith, B.up c i j last hi hj ri rj, below A.lower c i j hi hj ri rj)
    ];
    down = λ c i j of hi hj ri rj. elim (which i j of hj) [
      | inl first ↦ omega (arith, below B.lower c i j hi hj ri rj, A.down c i j first hi hj ri rj)
      | inr last ↦ omega (arith, B.down c i j last hi hj ri rj, A.lower.less p i j hl hp hi hj)
    ];
  }
    where
      below : {one two : List ℕ} → Lower m low one two → (c i j : ℕ) → i < size_of m p → j < size_of m p → RowIn m p i c → RowIn m p j c
          → table_entry m two c (place_below m p i c) (place_below m p j c) ≤ table_entry m one c (place_below m p i c) (place_below m p j c)
      below f c i j hi hj ri rj =
          let later = child_later m L.sound p c ri.is_child in
          f.less c (place_below m p i c) (place_below m p j c) (omega (arith, later.1)) later.0 (place_below_lem m L.sound p i c hi ri).0 (place_below_lem m L.sound p j c hj rj).0

-- ---- as the words of the memory show it

-- where the words of row i of p and of its row in c stand
pub record Lines (m : Map) (p i c size first line firstBelow lineBelow : ℕ) : Type 0 where
  pub row_in_lem : RowIn m p i c
  pub size_is : size ≡ size_of m p
  pub first_is : first ≡ first_row_of m p
  pub line_is : line ≡ table_of m p + size_of m p * i
  pub first_below_is : firstBelow ≡ first_row_of m c
  pub line_below_is : lineBelow ≡ table_of m c + size_of m c * place_below m p i c

-- row j stands in another child, or in none: nothing is to be done
pub pair_apart : (mem : List ℕ) {j c mark part first line firstBelow lineBelow : ℕ} → mark ≡ row_word mem first j own_in_row →
    ((v d : ℕ) → v < child_in_row → mark ≡ v + child_in_row * d → part ≡ d) → (part ≡ c → ⊥) →
    (m : Map) (low p i size : ℕ) → LaidForTables m mem → low ≤ p → p < part_count m → i < size_of m p → j < size_of m p → Lines m p i c size first line firstBelow lineBelow →
    AgreedPair m low p i j mem mem
pair_apart mem {j} {c} {mark} {part} {first} shown reads other m low p i size L hl hp hi hj at =
    agreed_none (λ d k l of _ _ dk dl. apart d (subst (λ (n : ℕ). RowIn m p n d) of.0 dk) (subst (λ (n : ℕ). RowIn m p n d) of.1 dl))
  where
    apart : (d : ℕ) → RowIn m p i d → RowIn m p j d → ⊥
    apart d di dj =
        other (shown_part m mem L p j hp hj (at.first_is ∙ sym (L.part p hp).first_row) shown reads
        ∙ part_below_lem m L.sound p j d hj dj ∙ sym (row_one m L.sound p i c d at.row_in_lem di))

-- row j stands in the same child
pub pair_together : (mem : List ℕ) {j c mark part row k first line firstBelow lineBelow column place : ℕ} → mark ≡ row_word mem first j own_in_row →
    ((v d : ℕ) → v < child_in_row → mark ≡ v + child_in_row * d → part ≡ d) → part ≡ c →
    row ≡ row_word mem first j below_in_row → ((n : ℕ) → row ≡ firstBelow + words_in_row * n → k ≡ n) → column ≡ j → place ≡ k → {after : List ℕ} → after ≡ leveled mem (line + column) (lineBelow + place) →
    (m : Map) (low p i size : ℕ) → LaidForTables m mem → low ≤ p → p < part_count m → i < size_of m p → j < size_of m p → Lines m p i c size first line firstBelow lineBelow →
    AgreedPair m low p i j mem after
pair_together mem {j} {c} {mark} {part} {row} {k} {first} {line} {firstBelow} {lineBelow} {column} {place} shown reads same points finds wj wk after_is m low p i size L hl hp hi hj at =
    rw after_is (leveled_pair m mem L low p i j c hl hp hi hj at.row_in_lem in_c (line + column) (lineBelow + place)
    (omega (arith, at.line_is)) (omega (arith, at.line_below_is, found)))
  where
    first_is : first ≡ part_word mem p rows_in_part
    first_is = at.first_is ∙ sym (L.part p hp).first_row

    reads_c : (v d : ℕ) → v < child_in_row → mark ≡ v + child_in_row * d → c ≡ d
    reads_c v d h e = sym same ∙ reads v d h e

    some : c ≢ 0
    some = (children_says m p c at.row_in_lem.is_child).2

    in_c : RowIn m p j c
    in_c = shown_in m mem L p j hp hj first_is shown reads_c some

    found : k ≡ place_below m p j c
    found =
        shown_place m mem L p j hp hj first_is shown reads_c some
        (at.first_below_is ∙ sym (L.part c (child_later m L.sound p c at.row_in_lem.is_child).0).first_row) points finds

-- ---- turns of the loops

module _ (start : List ℕ) (p : ℕ) where
  abbrev pub RowsTo : ℕ → List ℕ → Type 0
  RowsTo i mem = (m : Map) (low : ℕ) → LaidForTables m start → low ≤ p → p < part_count m → Agreed m low p i start mem

  pub rows_first : RowsTo 0 start
  rows_first m low L hl hp = agreed_none (λ c k l of _ _ _ _. absurd (omega arith))

  pub rows_turn : {size : ℕ} (before after : List ℕ) (i : ℕ) → i < size → size ≡ part_word start p size_in_part → RowsTo i before →
      ((m : Map) (low : ℕ) → LaidForTables m before → low ≤ p → p < part_count m → i < size_of m p → AgreedRow m low p i (size_of m p) before after) → RowsTo (i + 1) after
  rows_turn before after i hi shown done row m low L hl hp =
      let A = done m low L hl hp in
      let fits : i < size_of m p = omega (arith, (L.part p hp).size) in
      agreed_then L hl hp (λ k l hk hl. elim (eq-or-lt_of_le hk) [ inl now ↦ inr (omega arith, hl) | inr less ↦ inl (omega arith) ]) A
      (row m low (laid_kept m start before A.lower.sized A.lower.outside L) hl hp fits)

  pub rows_done : {size : ℕ} (mem : List ℕ) (i : ℕ) → i ≤ size → size ≤ i → size ≡ part_word start p size_in_part → RowsTo i mem →
      (m : Map) (low : ℕ) → LaidForTables m start → low ≤ p → p < part_count m → Agreed m low p (size_of m p) start mem
  rows_done mem i within all shown done m low L hl hp =
      subst (λ (n : ℕ). Agreed m low p n start mem) (omega (arith, (L.part p hp).size)) (done m low L hl hp)
