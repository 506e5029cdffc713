-- The tables of the children of a part, right over the whole map, by way of the boundary vertices and the part's own table; and so all tables.
-- Assumes nothing.
use mathlib.Core.Path.{◌≡◌, ap, ◌∙◌, subst, subst⁻¹}
use mathlib.Core.Logic.{inl, inr, ⊎_elim}
use mathlib.Core.Bool.{true}
use mathlib.Core.List.{List, Memᴰ}
use Prim.Native.Nat.{ℕ, suc, ◌+◌, ◌*◌, ◌≤◌, ◌<◌}
use native.Mathlib.Nat.{eq-or-lt_of_le, le_antisymm}
use native.Mathlib.Decide.{dec_lt, ℕ_discrete}
use native.Mathlib.Omega.{arith}
use lib.ListN.{get_or}
use Rattle.words.specs.Limits.{most_vertices, FAR}
use Rattle.words.specs.Lists.{place_in, word}
use Rattle.layout.specs.Layout.{parts_in_head, size_in_part, part_word}
use Rattle.roads.specs.Map.{Map, part_count}
use Rattle.roads.specs.Walk.{Walk, rest}
use Rattle.roads.specs.Dist.{dist}
use Rattle.roads.proofs.Inner.{walk_inner}
use Rattle.roads.proofs.Exact.{dist_exact}
use Rattle.parts.specs.Tree.{parent_of, holds, children}
use Rattle.parts.specs.Border.{boundary}
use Rattle.parts.specs.Size.{row_vertices, size_of}
use Rattle.parts.proofs.Down.{boundary_inside, children_has, children_says, root_holds}
use Rattle.parts.proofs.Gates.{boundary_above}
use Rattle.maps.proofs.Distances.{sound_net, sound_tree}
use Rattle.image.specs.Places.{table_of}
use Rattle.image.specs.Records.{row_vertex}
use Rattle.inner_walks.specs.Inner.{Inner}
use Rattle.inner_walks.proofs.Down.{entered_least}
use Rattle.table_rows.specs.Flat.{Tried}
use Rattle.assembly.specs.Laid.{LaidForTables, Filled, table_entry}
use Rattle.assembly.specs.Lower.{Lower, Inside, Short}
use Rattle.assembly.specs.Steps.{RowIn, place_below, Agreed, Tight, EnteredRow, Entered, Risen, Descended}
use Rattle.assembly.proofs.Places.{row_is, row_real, laid_kept}
use Rattle.assembly.proofs.Lowering.{lower_then, inside_lower}
use Rattle.assembly.proofs.Trying.{tried_lower, tried_tight, tried_keeps}
use Rattle.assembly.proofs.Below.{child_later, row_one, place_below_lem}
use Rattle.assembly.proofs.Rising.{row_of_vertex, vertex_row, by_vertices, by_rows}

-- ---- one row tried in the child that holds its vertex

module _ {m : Map} {p i : ℕ} where
  pub row_entered : {c : ℕ} → RowIn m p i c → {mem after : List ℕ} → Tried (table_of m c) (size_of m c) (place_below m p i c) mem after → LaidForTables m mem → i < size_of m p →
      Inside m 0 mem → EnteredRow m p i mem after
  row_entered {c} ri {mem} {after} T L hi I =
      let hc = (children_says m p c ri.is_child).0 in
      let k = place_below_lem m L.sound p i c hi ri in
      record {
        lower = tried_lower m mem after L c (place_below m p i c) hc k.0 T 0 (omega arith);
        tight = λ d di. subst (λ (x : ℕ). Tight m x (place_below m p i x) after) (row_one m L.sound p i c d ri di)
            (tried_tight m mem after L c (place_below m p i c) hc k.0 T
            (I.inner c (place_below m p i c) (place_below m p i c) 0 (omega arith) hc k.0 k.0 (rest (subst⁻¹ (λ (v : ℕ). holds m c v ≡ true) k.1 ri.is_held))));
        keeps = λ q l hq hl tight. tried_keeps m mem after L c (place_below m p i c) hc k.0 T q l hq hl tight;
      }

-- ---- row after row

module _ (start : List ℕ) (p : ℕ) where
  abbrev pub EnteredTo : ℕ → List ℕ → Type 0
  EnteredTo i mem = (m : Map) → LaidForTables m start → p < part_count m → Inside m 0 start → Entered m p i start mem

  pub entered_turn : {size : ℕ} (before after : List ℕ) (i : ℕ) → i < size → size ≡ part_word start p size_in_part → EnteredTo i before →
      ((m : Map) → LaidForTables m before → p < part_count m → i < size_of m p → Inside m 0 before → EnteredRow m p i before after) → EnteredTo (i + 1) after
  entered_turn before after i hi size_is done row m L hp I =
      let A = done m L hp I in
      let K = laid_kept m start before A.lower.sized A.lower.outside L in
      let fits : i < size_of m p = omega (arith, (L.part p hp).size) in
      let B = row m K hp fits (inside_lower A.lower I) in
      record {
        lower = lower_then A.lower B.lower;
        tight = λ k c hk rk. elim (eq-or-lt_of_le hk) [
          | inl e ↦
              let same : k ≡ i = omega arith in
              subst⁻¹ (λ (x : ℕ). RowIn m p x c → Tight m c (place_below m p x c) after) same (λ ri. B.tight c ri) rk
          | inr less ↦
              B.keeps c (place_below m p k c) (child_later m L.sound p c rk.is_child).0 (place_below_lem m L.sound p k c (omega (arith, fits)) rk).0 (A.tight k c (omega arith) rk)
        ];
      }

-- ---- a part descended

-- the table of a part is right over the whole map when its own turn comes
own_short : {m : Map} {start mem : List ℕ} → LaidForTables m start → (p : ℕ) → p < part_count m → Descended m p start mem → Short m p mem
own_short L p hp D = D.short p hp (elim (ℕ_discrete p 0) [
  | yes root ↦ inl root
  | no real ↦ inr ((L.sound.part p hp).parent (omega (arith, real)))
])

short_lower : {m : Map} {before after : List ℕ} → Lower m 0 before after → (q : ℕ) → q < part_count m → Short m q before → Short m q after
short_lower f q hq h i j w hi hj walk = omega (arith, f.less q i j (omega arith) hq hi hj, h i j w hi hj walk)

module _ (m : Map) (mem one two : List ℕ) (L : LaidForTables m mem) (p : ℕ) (hp : p < part_count m) (S : Short m p mem) (I : Inside m 0 two)
    (A : Agreed m 0 p (size_of m p) mem one) (E : Entered m p (size_of m p) one two) (c : ℕ) (hc : Memᴰ c (children m p)) where
  later : (c < part_count m) × (p < c)
  later = child_later m L.sound p c hc

  -- a boundary vertex of the child has a row in the part
  gate_row : (g : ℕ) → boundary m c g ≡ true → (row_of_vertex m p g < size_of m p) × (row_vertex m p (row_of_vertex m p g) ≡ g)
  gate_row g b = vertex_row m p g (boundary_above m (sound_net m L.sound) (sound_tree m L.sound) p c g hc b)

  gate_in : (g : ℕ) → boundary m c g ≡ true → RowIn m p (row_of_vertex m p g) c
  gate_in g b = record { is_child = hc; is_held = subst⁻¹ (λ (v : ℕ). holds m c v ≡ true) (gate_row g b).1 (boundary_inside m c g b) }

  -- .. and the same row in the child
  gate_place : (g : ℕ) → boundary m c g ≡ true → place_below m p (row_of_vertex m p g) c ≡ row_of_vertex m c g
  gate_place g b = ap (λ (v : ℕ). place_in v (row_vertices m c)) (gate_row g b).1

  between : (g h w : ℕ) → boundary m c g ≡ true → boundary m c h ≡ true → Walk m g h w → by_vertices m c two g h ≤ w
  between g h w bg bh walk =
      let i = row_of_vertex m p g in
      let j = row_of_vertex m p h in
      let k = place_below_lem m L.sound p i c (gate_row g bg).0 (gate_in g bg) in
      let l = place_below_lem m L.sound p j c (gate_row h bh).0 (gate_in h bh) in
      let there : Walk m (row_vertex m p i) (row_vertex m p j) w = rw ((gate_row g bg).1, (gate_row h bh).1) walk in
      rw (← gate_place g bg, ← gate_place h bh)
      (omega (
        arith,
        E.lower.less c (place_below m p i c) (place_below m p j c) (omega arith) later.0 k.0 l.0,
        A.down c i j (gate_row g bg).0 (gate_row g bg).0 (gate_row h bh).0 (gate_in g bg) (gate_in h bh),
        S i j w (gate_row g bg).0 (gate_row h bh).0 there,
      ))

  pub child_short : Short m c two
  child_short i j w hi hj walk =
      by_rows m c two i j hi hj
      (entered_least m (sound_net m L.sound) (sound_tree m L.sound) c (by_vertices m c two) (record {
        inner = λ a b w ha hb walk.
            let ra = vertex_row m c a ha in
            let rb = vertex_row m c b hb in
            I.inner c (row_of_vertex m c a) (row_of_vertex m c b) w (omega arith) later.0 ra.0 rb.0 (rw (ra.1, rb.1) walk);
        between = between;
        tried = λ a g b ha bg hb.
            subst (λ (k : ℕ). table_entry m two c (row_of_vertex m c a) (row_of_vertex m c b) ≤ table_entry m two c (row_of_vertex m c a) k + table_entry m two c k (row_of_vertex m c b)) (gate_place g bg)
            (E.tight (row_of_vertex m p g) c (gate_row g bg).0 (gate_in g bg) (row_of_vertex m c a) (row_of_vertex m c b) (vertex_row m c a ha).0 (vertex_row m c b hb).0);
      }) (row_vertex m c i) (row_vertex m c j) w (row_is m c i hi) (row_is m c j hj) walk)

pub descended_step : (mem one two : List ℕ) (p : ℕ) →
    ((m : Map) (low : ℕ) → LaidForTables m mem → low ≤ p → p < part_count m → Agreed m low p (size_of m p) mem one) →
    ((m : Map) → LaidForTables m one → p < part_count m → Inside m 0 one → Entered m p (size_of m p) one two) →
    (m : Map) (start : List ℕ) → LaidForTables m start → p < part_count m → Descended m p start mem → Descended m (suc p) start two
descended_step mem one two p agree enter m start L hp D =
    let K = laid_kept m start mem D.risen.sized D.risen.outside L in
    let A = agree m 0 K (omega arith) hp in
    let K1 = laid_kept m mem one A.lower.sized A.lower.outside K in
    let E = enter m K1 hp (inside_lower A.lower D.risen.inside) in
    let both = lower_then A.lower E.lower in
    let I = inside_lower both D.risen.inside in
    record {
      risen = record { sized = both.sized ∙ D.risen.sized; outside = λ x out. both.outside x out ∙ D.risen.outside x out; inside = I };
      short = λ q hq when. elim (ℕ_discrete q 0) [
        | yes root ↦ short_lower both q hq (D.short q hq (inl root))
        | no real ↦ elim (dec_lt (parent_of m q) p) [
          | yes earlier ↦ short_lower both q hq (D.short q hq (inr earlier))
          | no now ↦
              let parent : parent_of m q ≡ p = ⊎_elim (λ root. absurd (real root)) (λ less. exactly (parent_of m q) p now less) when in
              child_short m mem one two K p hp (own_short L p hp D) I A E q (children_has m p q hq parent real)
        ]
      ];
    }
  where
    exactly : (a b : ℕ) → ¬ (a < b) → a < suc b → a ≡ b
    exactly a b l h = omega (arith, l)

-- ---- part after part

module _ (mem : List ℕ) where
  abbrev pub DescendedTo : ℕ → List ℕ → Type 0
  DescendedTo p now = (m : Map) (start : List ℕ) → LaidForTables m start → Descended m 0 start mem → (p ≤ part_count m → Descended m p start now)

  pub descended_done : {count : ℕ} (now : List ℕ) (p : ℕ) → p ≤ count → count ≤ p → count ≡ word mem parts_in_head → DescendedTo p now →
      (m : Map) (start : List ℕ) → LaidForTables m start → Descended m 0 start mem → Descended m (part_count m) start now
  descended_done now p within all count-is done m start L D =
      let K = laid_kept m start mem D.risen.sized D.risen.outside L in
      subst (λ (n : ℕ). Descended m n start now) (omega (arith, K.parts)) (done m start L D (omega (arith, K.parts)))

-- ---- the beginning and the end

-- inside the root is everywhere
pub descent_begins : (m : Map) (start mem : List ℕ) → LaidForTables m start → Risen m 0 start mem → Descended m 0 start mem
descent_begins m start mem L R = record {
  risen = R;
  short = λ q hq when i j w hi hj walk. ⊎_elim
      (λ root. R.inside.inner q i j w (omega arith) hq hi hj
      (subst⁻¹ (λ (x : ℕ). Inner m x (row_vertex m q i) (row_vertex m q j) w) root
      (walk_inner (sound_net m L.sound) (root_holds m (sound_tree m L.sound)) walk)))
      (λ below. absurd (omega arith))
      when;
}

pub all_filled : (start mem : List ℕ) → ((x : ℕ) → get_or mem x 0 < 4294967296) → (m : Map) → LaidForTables m start → Descended m (part_count m) start mem → Filled m start mem
all_filled start mem small m L D = record {
  sized = D.risen.sized;
  outside = D.risen.outside;
  distance = λ p i j hp hi hj. le_antisymm (above p i j hp hi hj) (D.risen.inside.honest p i j (omega arith) hp hi hj);
}
  where
    above : (p i j : ℕ) → p < part_count m → i < size_of m p → j < size_of m p → table_entry m mem p i j ≤ dist m (row_vertex m p i) (row_vertex m p j)
    above p i j hp hi hj = elim (ℕ_discrete (dist m (row_vertex m p i) (row_vertex m p j)) FAR) [
      | yes far ↦ omega (arith, far, small (table_of m p + (size_of m p * i + j)))
      | no near ↦
          D.short p hp
          (elim (ℕ_discrete p 0) [
            | yes root ↦ inl root
            | no real ↦ inr (omega (arith, (L.sound.part p hp).parent (omega (arith, real))))
          ]) i j (dist m (row_vertex m p i) (row_vertex m p j)) hi hj ((dist_exact m (sound_net m L.sound) (row_vertex m p i) (row_vertex m p j) (row_real m p i hi)).reached near)
    ]

-- as the code has it
pub filled : (start mid mem : List ℕ) (wide : ℕ) → ((x : ℕ) → get_or mem x 0 < 4294967296) → most_vertices ≤ wide → ((m : Map) → LaidForTables m start → most_vertices ≤ wide → Risen m 0 start mid) →
    ((m : Map) (first : List ℕ) → LaidForTables m first → Descended m 0 first mid → Descended m (part_count m) first mem) → (m : Map) → LaidForTables m start → Filled m start mem
filled start mid mem wide small few rise descend m L = all_filled start mem small m L (descend m start L (descent_begins m start mid L (rise m L few)))
