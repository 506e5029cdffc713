-- One row more; one vertex more.
-- Assumes nothing.
use Rattle.std.proofs.Common.{◌≡◌, ℕ, suc, ◌+◌, ◌*◌, ◌%◌, ◌^◌, ◌<◌, ◌≤◌, Bool, true, false, cond, ◌&&◌, ltb, leb, ◌≢◌, ◌⊎◌, List, length, set, sym, refl, ap, ◌∙◌, subst, ap₂, inl, inr, true≢false, arith, length-set, get_or-set_other, get_or-set_same, le-ltb, lt-ltb, le-leb}
use native.Mathlib.Decide.{ℕ_discrete, dec_lt}
use lib.Seq.{sets, length-sets}
use borrow.Author.Tests.{lt-leb}
use Rattle.words.specs.Limits.{most_parts}
use Rattle.words.specs.Lists.{word}
use Rattle.words.proofs.Tests.{true_or_false}
use Rattle.words.proofs.Stores.{stored_in, stored_out}
use Rattle.layout.specs.Layout.{words_in_vertex, itself_in_vertex, words_in_row, child_in_row}
use Rattle.roads.specs.Map.{Map, part_count}
use Rattle.roads.proofs.Trail.{Net}
use Rattle.parts.specs.Tree.{parent_of, leaf_of, holds}
use Rattle.parts.specs.Size.{size_of, need}
use Rattle.parts.proofs.Down.{Tree}
use Rattle.parts.proofs.Way.{in_own_leaf}
use Rattle.maps.proofs.Distances.{sound_net, sound_tree}
use Rattle.image.specs.Places.{itself_at, first_row_of, row_at}
use Rattle.image.specs.Image.{part_below, row_below}
use Rattle.opening_fresh.specs.Fresh.{fresh_row}
use Rattle.opening_rows.specs.declared.Vertex.{Vertex}
use Rattle.opening_rows.specs.Rows.{has_row, row_place, row_words, RowWritten, Standing, RowsStand, RowsReady}
use Rattle.opening_rows.proofs.Places.{place_first, place_row, place_within, place_next, place_left, place_rises, part_rises, part_from, part_to}
use Rattle.opening_rows.proofs.Way.{row_in_leaf, leaf_below, below_small, row_holds, no_later, row_part, parent_lower, parent_row, parent_holds, parent_below, no_more}

-- A part in which v has no row is written as it is.
pub rest_same : (m : Map) (v : ℕ) (rest rest' : ℕ → Bool) (start cursors mem : List ℕ) → ((q : ℕ) → q < part_count m → (rest q ≡ rest' q) ⊎ (has_row m q v ≡ false)) → RowsStand m v rest start cursors mem
    → RowsStand m v rest' start cursors mem
rest_same m v rest rest' start cursors mem same s =
    record {
      long = s.long;
      room = s.room;
      wide = s.wide;
      cursor = λ q h. s.cursor q h ∙ where_to q (same q h);
      right = λ q u w h below e hw. s.right q u w h (how_far q u e below (same q h)) e hw;
      kept = s.kept;
    }
  where
    none : (q : ℕ) → has_row m q v ≡ false → (a b : Bool) → row_place m q (cond a v (suc v)) ≡ row_place m q (cond b v (suc v))
    none q e true true = refl
    none q e true false = sym (place_left m q v e)
    none q e false true = place_left m q v e
    none q e false false = refl

    where_to : (q : ℕ) → (rest q ≡ rest' q) ⊎ (has_row m q v ≡ false) → row_place m q (cond (rest q) v (suc v)) ≡ row_place m q (cond (rest' q) v (suc v))
    where_to q (inl e) = ap (λ (b : Bool). row_place m q (cond b v (suc v))) e
    where_to q (inr e) = none q e (rest q) (rest' q)

    nearer : (a b : Bool) (u : ℕ) → u ≢ v → u < cond b v (suc v) → u < cond a v (suc v)
    nearer true true u other h = h
    nearer true false u other h = omega (arith, other)
    nearer false true u other h = omega arith
    nearer false false u other h = h

    how_far : (q u : ℕ) → has_row m q u ≡ true → u < cond (rest' q) v (suc v) → (rest q ≡ rest' q) ⊎ (has_row m q v ≡ false) → u < cond (rest q) v (suc v)
    how_far q u has below (inl e) = subst (λ (b : Bool). u < cond b v (suc v)) (sym e) below
    how_far q u has below (inr e) = nearer (rest q) (rest' q) u (λ is. true≢false (sym has ∙ ap (has_row m q) is ∙ e)) below

-- The row of v in part p, which was left to write.
module _ (m : Map) (small : need m < 2 ^ 32) (few : part_count m ≤ most_parts) (v p : ℕ) (hv : v < m.vertices) (hp : p < part_count m) (has : has_row m p v ≡ true) (rest rest' : ℕ → Bool)
    (was : rest p ≡ true) (is : rest' p ≡ false) (others : (q : ℕ) → q ≢ p → rest q ≡ rest' q) (start cursors cursors' mem mem' : List ℕ) (r : ℕ) (s : RowsStand m v rest start cursors mem)
    (is_place : r ≡ word cursors p) (stored : mem' ≡ sets mem r (fresh_row m p v)) (next : cursors' ≡ set cursors p ((r + words_in_row) % 2 ^ 32)) where
  at_place : r ≡ row_place m p v
  at_place = is_place ∙ s.cursor p hp ∙ ap (λ (b : Bool). row_place m p (cond b v (suc v))) was

  inside : (first_row_of m p ≤ r) × (r + words_in_row ≤ first_row_of m p + words_in_row * size_of m p)
  inside = let w = place_within m p v hv has in (omega (arith, at_place, w.0), omega (arith, at_place, w.1))

  sized : length (fresh_row m p v) ≡ words_in_row
  unfolding fresh_row
  sized = refl

  fits : r + length (fresh_row m p v) ≤ length mem
  fits = omega (arith, sized, inside.1, part_to m p hp, s.long, s.room)

  one_on : row_place m p (suc v) ≡ r + words_in_row
  one_on = (let on : row_place m p (suc v) ≡ row_place m p v + words_in_row = place_next m p v has in on) ∙ ap (λ (k : ℕ). k + words_in_row) (sym at_place)

  next_is : (r + words_in_row) % 2 ^ 32 ≡ row_place m p (suc v)
  next_is = omega (arith, one_on, inside.1, part_to m p hp, small)

  cursor_now : (q : ℕ) → q < part_count m → Dec (q ≡ p) → word cursors' q ≡ row_place m q (cond (rest' q) v (suc v))
  cursor_now q h (yes same) =
      ap₂ (λ (l : List ℕ) (i : ℕ). word l i) next same
      ∙ get_or-set_same cursors p ((r + words_in_row) % 2 ^ 32) 0 (omega (arith, s.wide, hp, few))
      ∙ next_is
      ∙ sym (ap (λ (k : ℕ). row_place m k (cond (rest' k) v (suc v))) same ∙ ap (λ (b : Bool). row_place m p (cond b v (suc v))) is)
  cursor_now q h (no other) =
      ap (λ (l : List ℕ). word l q) next
      ∙ get_or-set_other cursors p q ((r + words_in_row) % 2 ^ 32) 0 other
      ∙ s.cursor q h
      ∙ ap (λ (b : Bool). row_place m q (cond b v (suc v))) (others q other)

  -- a word that this row does not have
  elsewhere : (i : ℕ) → ((j : ℕ) → j < words_in_row → i ≡ r + j → ⊥) → word mem' i ≡ word mem i
  elsewhere i away = ap (λ (l : List ℕ). word l i) stored ∙ stored_out mem r (fresh_row m p v) i (λ j h e. away j (omega (arith, sized)) e)

  this_row : (w : ℕ) → w < words_in_row → word mem' (row_place m p v + w) ≡ word (fresh_row m p v) w
  this_row w hw =
      ap (λ (k : ℕ). word mem' (k + w)) (sym at_place)
      ∙ ap (λ (l : List ℕ). word l (r + w)) stored
      ∙ stored_in mem r (fresh_row m p v) w (omega (arith, sized)) fits

  right_now : (q u w : ℕ) → q < part_count m → u < cond (rest' q) v (suc v) → has_row m q u ≡ true → w < words_in_row → Dec (q ≡ p) → Dec (u ≡ v) → word mem' (row_place m q u + w) ≡ word (fresh_row m q u) w
  right_now q u w h below e hw (yes same) (yes same-vertex) =
      subst (λ (k : ℕ). word mem' (row_place m k u + w) ≡ word (fresh_row m k u) w) (sym same)
      (subst (λ (k : ℕ). word mem' (row_place m p k + w) ≡ word (fresh_row m p k) w) (sym same-vertex) (this_row w hw))
  right_now q u w h below e hw (yes same) (no other) =
      let has_here : has_row m p u ≡ true = subst (λ (k : ℕ). has_row m k u ≡ true) same e in
      let near : u < v = lower (rest' q) below other in
      let before-it : row_place m p u + words_in_row ≤ row_place m p v = place_rises m p u v near has_here in
      subst (λ (k : ℕ). word mem' (row_place m k u + w) ≡ word (fresh_row m k u) w) (sym same)
      (elsewhere (row_place m p u + w) (λ j hj at. omega (arith, before-it, at_place, at)) ∙ s.right p u w hp (subst (λ (b : Bool). u < cond b v (suc v)) (sym was) near) has_here hw)
    where
      lower : (b : Bool) → u < cond b v (suc v) → u ≢ v → u < v
      lower true k o = k
      lower false k o = omega (arith, o)
  right_now q u w h below e hw (no other) d =
      let was-below : u < cond (rest q) v (suc v) = subst (λ (b : Bool). u < cond b v (suc v)) (sym (others q other)) below in
      let inside-q = place_within m q u (lower (rest q) was-below) e in
      elsewhere (row_place m q u + w) (λ j hj at. apart inside-q.0 inside-q.1 j hj at (dec_lt q p)) ∙ s.right q u w h was-below e hw
    where
      lower : (b : Bool) → u < cond b v (suc v) → u < m.vertices
      lower true k = omega (arith, hv)
      lower false k = omega (arith, hv)

      apart : first_row_of m q ≤ row_place m q u → row_place m q u + words_in_row ≤ first_row_of m q + words_in_row * size_of m q → (j : ℕ) → j < words_in_row → row_place m q u + w ≡ r + j → Dec (q < p) → ⊥
      apart low high j hj at (yes less) = omega (arith, part_rises m q p less, inside.0)
      apart low high j hj at (no more) = omega (arith, part_rises m p q (omega (arith, more, other)), inside.1)

  pub row_more : RowsStand m v rest' start cursors' mem'
  row_more =
      record {
        long = ap length stored ∙ length-sets mem r (fresh_row m p v) ∙ s.long;
        room = s.room;
        wide = ap length next ∙ length-set cursors p ((r + words_in_row) % 2 ^ 32) ∙ s.wide;
        cursor = λ q h. cursor_now q h (ℕ_discrete q p);
        right = λ q u w h below e hw. right_now q u w h below e hw (ℕ_discrete q p) (ℕ_discrete u v);
        kept = λ i h. elsewhere i (λ j hj at. omega (arith, part_from m p, inside.0)) ∙ s.kept i h;
      }

-- v has a row in q, and q is p or has a lower number
abbrev pub left_from : Map → ℕ → ℕ → ℕ → Bool
left_from m v p q = has_row m q v && leb q p

-- The loop's state at part p on the way up: the rows of v further up are left to write, that in p first.
pub record Climbing (m : Map) (v part child below turn : ℕ) (start cursors mem : List ℕ) : Type 0 where
  pub rows : RowsStand m v (left_from m v part) start cursors mem
  pub inside : holds m part v ≡ true
  pub has : has_row m part v ≡ true
  pub child_is : child ≡ part_below m part v
  pub below_is : below ≡ row_below m part v
  pub fuel : part + turn < most_parts

module _ (m : Map) (parents : List ℕ) (vertex : Vertex) (st : Standing m parents vertex) where
  abbrev v : ℕ
  v = vertex.number

  abbrev leaf : ℕ
  leaf = vertex.leaf

  abbrev lift : ℕ
  lift = vertex.lift

  abbrev itself : ℕ
  itself = vertex.itself

  net : Net m
  net = sound_net m st.sound

  tree : Tree m
  tree = sound_tree m st.sound

  hv : v < m.vertices
  hv = st.exists

  few : part_count m ≤ most_parts
  few = st.sound.parts.1

  leaf_in : leaf < part_count m
  leaf_in = omega (arith, st.leaf_is, tree.leaf_part v hv)

  pub climbing_start : (start cursors mem : List ℕ) → RowsStand m v (λ q. true) start cursors mem → Climbing m v leaf 0 itself 0 start cursors mem
  climbing_start start cursors mem s =
      subst (λ (k : ℕ). Climbing m v k 0 itself 0 start cursors mem) (sym st.leaf_is)
      (record {
        rows = rest_same m v (λ q. true) (left_from m v (leaf_of m v)) start cursors mem (λ q h. by q (true_or_false (has_row m q v))) s;
        inside = in_own_leaf m v hv;
        has = row_in_leaf m net tree v hv;
        child_is = sym (leaf_below m net tree v hv).0;
        below_is = st.itself_is ∙ sym (leaf_below m net tree v hv).1;
        fuel = omega (arith, tree.leaf_part v hv, few);
      })
    where
      by : (q : ℕ) → (has_row m q v ≡ true) ⊎ (has_row m q v ≡ false) → (true ≡ left_from m v (leaf_of m v) q) ⊎ (has_row m q v ≡ false)
      by q (inl e) = inl (sym (ap (λ (b : Bool). b && leb q (leaf_of m v)) e ∙ le-leb q (leaf_of m v) (row_part m net tree v hv q e)))
      by q (inr e) = inr e

  module _ (part child below turn r : ℕ) (start cursors cursors' mem mem' : List ℕ) (c : Climbing m v part child below turn start cursors mem)
      (w : RowWritten mem cursors part v child below r mem' cursors') where
    part_in : part < part_count m
    part_in = omega (arith, row_part m net tree v hv part c.has, tree.leaf_part v hv)

    same_row : row_words v child below ≡ fresh_row m part v
    unfolding fresh_row
    same_row = ap₂ (λ (x y : ℕ). row_words v x y) c.child_is c.below_is

    child_small : child < child_in_row
    child_small = omega (arith, c.child_is, below_small m part v few tree)

    -- the rows left are those further up
    written : RowsStand m v (λ q. has_row m q v && ltb q part) start cursors' mem'
    written =
        row_more m st.small few v part hv part_in c.has (left_from m v part) (λ q. has_row m q v && ltb q part)
        (ap (λ (b : Bool). b && leb part part) c.has ∙ le-leb part part (omega arith))
        (ap (λ (b : Bool). b && ltb part part) c.has ∙ le-ltb part part (omega arith))
        (λ q other. ap (λ (b : Bool). has_row m q v && b) (same q other (dec_lt q part)))
        start cursors cursors' mem mem' r c.rows w.place (w.stored (omega (arith, hv, net.few)) child_small ∙ ap (sets mem r) same_row) w.next
      where
        same : (q : ℕ) → q ≢ part → Dec (q < part) → leb q part ≡ ltb q part
        same q other (yes less) = le-leb q part (omega arith) ∙ sym (lt-ltb q part less)
        same q other (no more) = lt-leb q part (omega (arith, more, other)) ∙ sym (le-ltb q part (omega (arith, more)))

    -- at the lift, none
    pub climbing_end : part ≤ lift → RowsStand m (suc v) (λ q. true) start cursors' mem'
    climbing_end low =
        let s = rest_same m v (λ q. has_row m q v && ltb q part) (λ q. false) start cursors' mem' (λ q h. by q (true_or_false (has_row m q v)) (dec_lt q part)) written in
        record { long = s.long; room = s.room; wide = s.wide; cursor = s.cursor; right = s.right; kept = s.kept }
      where
        by : (q : ℕ) → (has_row m q v ≡ true) ⊎ (has_row m q v ≡ false) → Dec (q < part) → ((has_row m q v && ltb q part) ≡ false) ⊎ (has_row m q v ≡ false)
        by q (inl e) (yes less) = absurd (no_more m net tree v hv lift st.lift_is part c.inside low q less e)
        by q (inl e) (no more) = inl (ap (λ (b : Bool). b && ltb q part) e ∙ le-ltb q part (omega (arith, more)))
        by q (inr e) d = inr e

    -- below it, the parent is next
    pub climbing_more : (part' : ℕ) → lift < part → part' ≡ word parents part → Climbing m v part' part r (turn + 1) start cursors' mem'
    climbing_more part' high is-parent =
        subst (λ (k : ℕ). Climbing m v k part r (turn + 1) start cursors' mem') (sym (is-parent ∙ st.parents_shown part part_in))
        (record {
          rows = rest_same m v (λ q. has_row m q v && ltb q part) (left_from m v (parent_of m part)) start cursors' mem' (λ q h. by q (true_or_false (has_row m q v)) (dec_lt q part)) written;
          inside = parent_holds m net tree v hv lift st.lift_is part c.inside high;
          has = parent_row m net tree v hv lift st.lift_is part c.inside high;
          child_is = sym (parent_below m net tree v hv lift st.lift_is part c.inside high).0;
          below_is = r_is ∙ sym (parent_below m net tree v hv lift st.lift_is part c.inside high).1;
          fuel = omega (arith, c.fuel, lower);
        })
      where
        lower : parent_of m part < part
        lower = parent_lower m net tree v hv lift st.lift_is part c.inside high

        r_is : r ≡ row_at m part v
        r_is =
            w.place
            ∙ c.rows.cursor part part_in
            ∙ ap (λ (b : Bool). row_place m part (cond b v (suc v))) (ap (λ (b : Bool). b && leb part part) c.has ∙ le-leb part part (omega arith))
            ∙ sym (place_row m part v hv c.has)

        by : (q : ℕ) → (has_row m q v ≡ true) ⊎ (has_row m q v ≡ false) → Dec (q < part) → ((has_row m q v && ltb q part) ≡ left_from m v (parent_of m part) q) ⊎ (has_row m q v ≡ false)
        by q (inl e) (yes less) =
            inl
            (ap (λ (b : Bool). has_row m q v && b)
            (lt-ltb q part less ∙ sym (le-leb q (parent_of m part) (no_later m net tree v hv part q c.inside (row_holds m net tree v hv q e) less))))
        by q (inl e) (no more) = inl (ap (λ (b : Bool). has_row m q v && b) (le-ltb q part (omega (arith, more)) ∙ sym (lt-leb q (parent_of m part) (omega (arith, more, lower)))))
        by q (inr e) d = inr e

-- Before the first vertex, each part's next place is its first.
module _ (m : Map) (parents leaves lifts : List ℕ) (vertices base : ℕ) (cursors mem : List ℕ) (ready : RowsReady m parents leaves lifts vertices base cursors mem) where
  pub rows_none : RowsStand m 0 (λ q. true) mem cursors mem
  rows_none =
      record {
        long = refl;
        room = ready.room;
        wide = ready.wide;
        cursor = λ q h. ready.first q h ∙ sym (place_first m q);
        right = λ q u w h below e hw. absurd (omega arith);
        kept = λ i h. refl;
      }

  pub standing : (vertex : Vertex) → vertex.number < vertices → vertex.leaf ≡ word leaves vertex.number → vertex.lift ≡ word lifts vertex.number → vertex.itself ≡ base + (words_in_vertex * vertex.number + itself_in_vertex)
      → Standing m parents vertex
  unfolding itself_at
  standing vertex h l f i =
      let hv : vertex.number < m.vertices = omega (arith, ready.count) in
      record {
        sound = ready.sound;
        small = ready.small;
        parents_shown = ready.parents_shown;
        exists = hv;
        leaf_is = l ∙ ready.leaves_shown vertex.number hv;
        lift_is = λ c hc. ready.lifts_shown vertex.number c hv hc ∙ ap (λ (k : ℕ). holds m c vertex.number && ltb k c) (sym f);
        itself_is = omega (arith, i, ready.begins);
      }

pub next_vertex : (m : Map) (v : ℕ) (start cursors mem : List ℕ) → RowsStand m (suc v) (λ q. true) start cursors mem → RowsStand m (v + 1) (λ q. true) start cursors mem
next_vertex m v start cursors mem s = subst (λ (k : ℕ). RowsStand m k (λ q. true) start cursors mem) (let one : suc v ≡ v + 1 = omega arith in one) s
