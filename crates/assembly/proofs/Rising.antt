-- The table of a part, right inside the part: blanked, lowered by the roads and the children's tables, and closed.
-- Assumes nothing.
use mathlib.Core.Path.{◌≡◌, refl, sym, ap, ◌∙◌, subst, subst⁻¹}
use mathlib.Core.Logic.{inl, inr, ⊎_elim}
use mathlib.Core.Bool.{true}
use mathlib.Core.List.{List, Memᴰ}
use Prim.Native.Nat.{ℕ, suc, ◌+◌, ◌*◌, ◌≤◌, ◌<◌}
use native.Mathlib.Nat.{eq-or-lt_of_le}
use native.Mathlib.Decide.{ℕ_discrete}
use native.Mathlib.Omega.{arith}
use lib.ListN.{length, get_or}
use borrow.Author.Tests.{eq-eqb, ne_eqb}
use Rattle.words.specs.Limits.{most_vertices, most_borders}
use Rattle.words.specs.Lists.{word, place_in}
use Rattle.words.proofs.Lists.{place_in_lem}
use Rattle.words.proofs.Places.{place_of_entry, numbered}
use Rattle.layout.specs.Layout.{parts_in_head, size_in_part, table_in_part, part_word}
use Rattle.roads.specs.Map.{Road, Map, part_count, no_road}
use Rattle.roads.specs.Dist.{dist}
use Rattle.roads.proofs.Inner.{inner_start, inner_end}
use Rattle.roads.proofs.Laws.{dist_most, dist_self}
use Rattle.parts.specs.Tree.{holds, children}
use Rattle.parts.specs.Size.{row_vertices, size_of}
use Rattle.parts.proofs.Rows.{rows_unique}
use Rattle.maps.proofs.Distances.{sound_net, sound_tree, few_rows}
use Rattle.image.specs.Places.{table_of}
use Rattle.image.specs.Records.{row_vertex}
use Rattle.image.proofs.Records.{rows_end}
use Rattle.inner_walks.specs.Inner.{Inner}
use Rattle.inner_walks.proofs.Up.{closed_least}
use Rattle.table_rows.specs.Flat.{blank, Becomes, Blanked, Tried}
use Rattle.assembly.specs.Laid.{LaidForTables, table_entry, OutsideTables}
use Rattle.assembly.specs.Lower.{Honest, Lower, Inside}
use Rattle.assembly.specs.Steps.{RowIn, place_below, Agreed, Noted, NotTogether, Roads, Tight, AtHome, Closed, HaltTried, Risen}
use Rattle.assembly.proofs.Places.{table_from, tables_apart, table_to, row_is, row_real, laid_kept}
use Rattle.assembly.proofs.Lowering.{lower_then}
use Rattle.assembly.proofs.Trying.{tried_lower, tried_tight, tried_keeps}
use Rattle.assembly.proofs.Below.{child_later, place_below_lem}

-- ---- a vertex and its row

module _ (m : Map) (p : ℕ) where
  -- the row of vertex v
  abbrev pub row_of_vertex : ℕ → ℕ
  row_of_vertex v = place_in v (row_vertices m p)

  pub vertex_row : (v : ℕ) → Memᴰ v (row_vertices m p) → (row_of_vertex v < size_of m p) × (row_vertex m p (row_of_vertex v) ≡ v)
  unfolding size_of
  vertex_row v h = place_in_lem v (row_vertices m p) h

  pub row_again : (i : ℕ) → i < size_of m p → row_of_vertex (row_vertex m p i) ≡ i
  unfolding size_of
  row_again i h = place_of_entry (rows_unique m p) i h

  -- a word of the table of p, by the vertices of its row and its column
  abbrev pub by_vertices : List ℕ → ℕ → ℕ → ℕ
  by_vertices mem a b = table_entry m mem p (row_of_vertex a) (row_of_vertex b)

  pub by_rows : (mem : List ℕ) (i j : ℕ) {w : ℕ} → i < size_of m p → j < size_of m p → by_vertices mem (row_vertex m p i) (row_vertex m p j) ≤ w → table_entry m mem p i j ≤ w
  by_rows mem i j hi hj least = rw (row_again i hi, row_again j hj) at least

-- ---- every row vertex tried

module _ (start marked : List ℕ) (p : ℕ) where
  abbrev pub ClosedTo : ℕ → List ℕ → Type 0
  ClosedTo k mem = (m : Map) → LaidForTables m start → p < part_count m → AtHome m p start → Closed m p k marked start mem

  pub closed_turn : {size table : ℕ} (before after : List ℕ) (k : ℕ) → k < size → size ≡ part_word start p size_in_part → table ≡ part_word start p table_in_part →
      ClosedTo k before → HaltTried table size k marked before after → ClosedTo (k + 1) after
  closed_turn {size} {table} before after k hk size_is table_is done T m L hp home = elim (ℕ_discrete (word marked k) 1) [
    | yes halt ↦
        let T' : Tried (table_of m p) (size_of m p) k before after = rw (size_is ∙ (L.part p hp).size, table_is ∙ (L.part p hp).table) at (T.tried halt) in
        record {
          lower = lower_then A.lower (tried_lower m before after K p k hp fits T' p (omega arith));
          tight = λ l hl marks. elim (eq-or-lt_of_le hl) [
            | inl e ↦
                let same : l ≡ k = omega arith in
                subst⁻¹ (λ (x : ℕ). Tight m p x after) same
                (tried_tight m before after K p k hp fits T' (omega (arith, A.lower.less p k k (omega arith) hp fits fits, home k fits)))
            | inr less ↦ tried_keeps m before after K p k hp fits T' p l hp (omega (arith, fits)) (A.tight l (omega arith) marks)
          ];
        }
    | no none ↦ rw (T.passed none) (record {
      lower = A.lower;
      tight = λ l hl marks. elim (eq-or-lt_of_le hl) [
        | inl e ↦
            let same : l ≡ k = omega arith in
            absurd (none (subst (λ (x : ℕ). word marked x ≡ 1) same marks))
        | inr less ↦ A.tight l (omega arith) marks
      ];
    })
  ]
    where
      A : Closed m p k marked start before
      A = done m L hp home

      K : LaidForTables m before
      K = laid_kept m start before A.lower.sized A.lower.outside L

      fits : k < size_of m p
      fits = omega (arith, (L.part p hp).size)

  pub closed_done : {size : ℕ} (mem : List ℕ) (k : ℕ) → k ≤ size → size ≤ k → size ≡ part_word start p size_in_part → ClosedTo k mem →
      (m : Map) → LaidForTables m start → p < part_count m → AtHome m p start → Closed m p (size_of m p) marked start mem
  closed_done mem k within all size_is done m L hp home = subst (λ (n : ℕ). Closed m p n marked start mem) (omega (arith, (L.part p hp).size)) (done m L hp home)

-- one row, as its mark is read
module _ (marked : List ℕ) {k a w : ℕ} (table size : ℕ) (at : a ≡ k) (reads : w ≡ get_or marked a 0) where
  pub halt_tried : {before after : List ℕ} → w ≡ 1 → Tried table size k before after → HaltTried table size k marked before after
  halt_tried is T = record { sized = T.sized; tried = λ _. T; passed = λ none. absurd (none (ap (λ (x : ℕ). get_or marked x 0) (sym at) ∙ sym reads ∙ is)) }

  pub halt_passed : (w ≡ 1 → ⊥) → (mem : List ℕ) → HaltTried table size k marked mem mem
  halt_passed other mem = record { sized = refl; tried = λ is. absurd (other (reads ∙ ap (λ (x : ℕ). get_or marked x 0) at ∙ is)); passed = λ _. refl }

-- ---- a table blanked

module _ (m : Map) (before after : List ℕ) (L : LaidForTables m before) (p : ℕ) (hp : p < part_count m) (B : Blanked (table_of m p) (size_of m p) before after) where
  made : Becomes (table_of m p) (size_of m p) (λ T. blank) before after
  made = B.blanked (few_rows m L.sound p hp) (omega (arith, L.fits, rows_end m, table_to m p hp))

  pub blank_outside : (x : ℕ) → OutsideTables m x → word after x ≡ word before x
  blank_outside x out = made.outside x (⊎_elim (λ below. inl (omega (arith, table_from m p))) (λ above. inr (omega (arith, table_to m p hp))) out)

  pub blank_home : AtHome m p after
  unfolding blank
  blank_home i hi = omega (arith, rw (eq-eqb i i refl) at (made.each i i hi hi))

  blank_later : (q i j : ℕ) → p < q → i < size_of m q → j < size_of m q → table_entry m after q i j ≡ table_entry m before q i j
  blank_later q i j less hi hj = made.outside (table_of m q + (size_of m q * i + j)) (inr (omega (arith, tables_apart m p q less)))

  blank_own : (i j : ℕ) → i < size_of m p → j < size_of m p → dist m (row_vertex m p i) (row_vertex m p j) ≤ table_entry m after p i j
  unfolding blank
  blank_own i j hi hj = elim (ℕ_discrete i j) [
    | yes same ↦
        rw (← same) (omega (arith, dist_self m (sound_net m L.sound) (row_vertex m p i) (row_real m p i hi)))
    | no other ↦
        omega (arith, rw (ne_eqb i j other) at (made.each i j hi hj), dist_most m (sound_net m L.sound) (row_vertex m p i) (row_real m p i hi) (row_vertex m p j))
  ]

  pub blank_honest : Inside m (suc p) before → Honest m p after
  blank_honest I q i j low hq hi hj = elim (ℕ_discrete q p) [
    | yes same ↦ subst⁻¹ (λ (x : ℕ). i < size_of m x → j < size_of m x → dist m (row_vertex m x i) (row_vertex m x j) ≤ table_entry m after x i j) same (blank_own i j) hi hj
    | no other ↦ omega (arith, blank_later q i j (omega (arith, other)) hi hj, I.honest q i j (omega (arith, other)) hq hi hj)
  ]

  pub blank_inner : Inside m (suc p) before → (q i j w : ℕ) → p < q → q < part_count m → i < size_of m q → j < size_of m q → Inner m q (row_vertex m q i) (row_vertex m q j) w → table_entry m after q i j ≤ w
  blank_inner I q i j w less hq hi hj walk = omega (arith, blank_later q i j less hi hj, I.inner q i j w less hq hi hj walk)

-- ---- the whole step

module _ (m : Map) (mem one two three four : List ℕ) (L : LaidForTables m mem) (p : ℕ) (hp : p < part_count m) (I : Inside m (suc p) mem)
    (B : Blanked (table_of m p) (size_of m p) mem one) (marks marked : List ℕ) (R : Roads m p (size_of m p) one two marks marked) (A : Agreed m p p (size_of m p) two three) (C : Closed m p (size_of m p) marked three four) where
  later : Lower m p one four
  later = lower_then R.lower (lower_then A.lower C.lower)

  -- a road between two row vertices
  road_taken : (r : Road) → Memᴰ r m.roads → Memᴰ r.from (row_vertices m p) → Memᴰ r.to (row_vertices m p)
      → (table_entry m two p (row_of_vertex m p r.from) (row_of_vertex m p r.to) ≤ r.weight)
      × (NotTogether m p (row_of_vertex m p r.from) (row_of_vertex m p r.to) → (word marked (row_of_vertex m p r.from) ≡ 1) × (word marked (row_of_vertex m p r.to) ≡ 1))
  road_taken r h hf ht =
      let n = numbered no_road m.roads r h in
      let f = vertex_row m p r.from hf in
      let t = vertex_row m p r.to ht in
      let taken = R.road n.0 (row_of_vertex m p r.from) (row_of_vertex m p r.to) f.0 n.1 f.0 t.0 (ap (λ (x : Road). x.from) n.2 ∙ sym f.1) (ap (λ (x : Road). x.to) n.2 ∙ sym t.1) in
      (omega (arith, taken.0, ap (λ (x : Road). x.weight) n.2), taken.1)

  -- of the roads
  road_least : (r : Road) → Memᴰ r m.roads → Memᴰ r.from (row_vertices m p) → Memᴰ r.to (row_vertices m p) → by_vertices m p four r.from r.to ≤ r.weight
  road_least r h hf ht =
      let f = vertex_row m p r.from hf in
      let t = vertex_row m p r.to ht in
      omega (
        arith,
        (road_taken r h hf ht).0,
        A.lower.less p (row_of_vertex m p r.from) (row_of_vertex m p r.to) (omega arith) hp f.0 t.0,
        C.lower.less p (row_of_vertex m p r.from) (row_of_vertex m p r.to) (omega arith) hp f.0 t.0,
      )

  -- of the children
  child_least : (c a b w : ℕ) → Memᴰ c (children m p) → Memᴰ a (row_vertices m p) → Memᴰ b (row_vertices m p) → Inner m c a b w → by_vertices m p four a b ≤ w
  child_least c a b w hc ha hb walk =
      let ra = vertex_row m p a ha in
      let rb = vertex_row m p b hb in
      let i = row_of_vertex m p a in
      let j = row_of_vertex m p b in
      let ia : RowIn m p i c = record { is_child = hc; is_held = subst⁻¹ (λ (v : ℕ). holds m c v ≡ true) ra.1 (inner_start walk) } in
      let jb : RowIn m p j c = record { is_child = hc; is_held = subst⁻¹ (λ (v : ℕ). holds m c v ≡ true) rb.1 (inner_end walk) } in
      let k = place_below_lem m L.sound p i c ra.0 ia in
      let l = place_below_lem m L.sound p j c rb.0 jb in
      let low = child_later m L.sound p c hc in
      let known : Inner m c (row_vertex m c (place_below m p i c)) (row_vertex m c (place_below m p j c)) w = rw (k.1 ∙ ra.1, l.1 ∙ rb.1) walk in
      omega (
        arith,
        blank_inner m mem one L p hp B I c (place_below m p i c) (place_below m p j c) w low.1 low.0 k.0 l.0 known,
        R.lower.less c (place_below m p i c) (place_below m p j c) (omega (arith, low.1)) low.0 k.0 l.0,
        A.up c i j ra.0 ra.0 rb.0 ia jb,
        C.lower.less p i j (omega arith) hp ra.0 rb.0,
      )

  own_least : (i j w : ℕ) → i < size_of m p → j < size_of m p → Inner m p (row_vertex m p i) (row_vertex m p j) w → table_entry m four p i j ≤ w
  own_least i j w hi hj walk =
      by_rows m p four i j hi hj
      (closed_least m (sound_net m L.sound) (sound_tree m L.sound) p (by_vertices m p four) (record {
        at_home = λ a ha. let ra = vertex_row m p a ha in omega (arith, later.less p (row_of_vertex m p a) (row_of_vertex m p a) (omega arith) hp ra.0 ra.0, blank_home m mem one L p hp B (row_of_vertex m p a) ra.0);
        road = road_least;
        child = child_least;
        tried = λ r h hf ht never a b ha hb.
            let f = vertex_row m p r.from hf in
            let t = vertex_row m p r.to ht in
            let both = (road_taken r h hf ht).1
            (λ c ri rj. never c ri.is_child (subst (λ (v : ℕ). holds m c v ≡ true) f.1 ri.is_held) (subst (λ (v : ℕ). holds m c v ≡ true) t.1 rj.is_held)) in (
              C.tight (row_of_vertex m p r.from) f.0 both.0 (row_of_vertex m p a) (row_of_vertex m p b) (vertex_row m p a ha).0 (vertex_row m p b hb).0,
              C.tight (row_of_vertex m p r.to) t.0 both.1 (row_of_vertex m p a) (row_of_vertex m p b) (vertex_row m p a ha).0 (vertex_row m p b hb).0,
            );
      }) (row_vertex m p i) (row_vertex m p j) w (row_is m p i hi) (row_is m p j hj) walk)

  pub risen : Risen m p mem four
  risen = record {
    sized = later.sized ∙ B.sized;
    outside = λ x out. later.outside x out ∙ blank_outside m mem one L p hp B x out;
    inside = record {
      honest = later.honest (blank_honest m mem one L p hp B I);
      inner = λ q i j w low hq hi hj walk. elim (ℕ_discrete q p) [
        | yes same ↦ subst⁻¹ (λ (x : ℕ). i < size_of m x → j < size_of m x → Inner m x (row_vertex m x i) (row_vertex m x j) w → table_entry m four x i j ≤ w) same (own_least i j w) hi hj walk
        | no other ↦ omega (arith, later.less q i j low hq hi hj, blank_inner m mem one L p hp B I q i j w (omega (arith, other)) hq hi hj walk)
      ];
    };
  }

-- as the code has it
pub risen_step : (mem one two three four : List ℕ) (p : ℕ) {size table wide : ℕ} {place : List ℕ} (marks marked : List ℕ) → most_borders ≤ length marks → size ≡ part_word mem p size_in_part → table ≡ part_word mem p table_in_part →
    Blanked table size mem one → ((m : Map) → LaidForTables m one → p < part_count m → most_vertices ≤ wide → Noted m p (size_of m p) place) →
    ((m : Map) → LaidForTables m one → p < part_count m → Noted m p (size_of m p) place → most_borders ≤ length marks → Roads m p (size_of m p) one two marks marked) →
    ((m : Map) (low : ℕ) → LaidForTables m two → low ≤ p → p < part_count m → Agreed m low p (size_of m p) two three) →
    ((m : Map) → LaidForTables m three → p < part_count m → AtHome m p three → Closed m p (size_of m p) marked three four) →
    (m : Map) → LaidForTables m mem → p < part_count m → most_vertices ≤ wide → Inside m (suc p) mem → Risen m p mem four
risen_step mem one two three four p marks marked long size_is table_is B note roads agree close m L hp few I =
    let B' : Blanked (table_of m p) (size_of m p) mem one = rw (size_is ∙ (L.part p hp).size, table_is ∙ (L.part p hp).table) at B in
    let L1 = laid_kept m mem one B.sized (blank_outside m mem one L p hp B') L in
    let R = roads m L1 hp (note m L1 hp few) long in
    let L2 = laid_kept m one two R.lower.sized R.lower.outside L1 in
    let A = agree m p L2 (omega arith) hp in
    let L3 = laid_kept m two three A.lower.sized A.lower.outside L2 in
    let C = close m L3 hp (λ i hi. omega (arith, A.lower.less p i i (omega arith) hp hi hi, R.lower.less p i i (omega arith) hp hi hi, blank_home m mem one L p hp B' i hi)) in
    risen m mem one two three four L p hp I B' marks marked R A C

-- ---- part after part, from the last to the first

module _ (start : List ℕ) (wide : ℕ) where
  abbrev pub RisenTo : ℕ → List ℕ → Type 0
  RisenTo p mem = (m : Map) → LaidForTables m start → most_vertices ≤ wide → Risen m p start mem

  pub risen_turn : {count q : ℕ} (before after : List ℕ) (p : ℕ) → q ≤ count → count ≡ word start parts_in_head → suc p ≡ q → RisenTo q before →
      ((m : Map) → LaidForTables m before → p < part_count m → most_vertices ≤ wide → Inside m (suc p) before → Risen m p before after) → RisenTo p after
  risen_turn before after p within count-is next done step m L few =
      let A = done m L few in
      let K = laid_kept m start before A.sized A.outside L in
      let S = step m K (omega (arith, L.parts)) few (subst⁻¹ (λ (x : ℕ). Inside m x before) next A.inside) in
      record { sized = S.sized ∙ A.sized; outside = λ x out. S.outside x out ∙ A.outside x out; inside = S.inside }
