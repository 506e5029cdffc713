-- A vertex is taken: the last of those that wait gets its place, and none of the roads into it has been looked at.
-- Assumes nothing.
use mathlib.Core.Path.{◌≡◌, sym, ap, subst⁻¹, ◌∙◌}
use mathlib.Core.Logic.{inl, inr, ◌≢◌}
use mathlib.Core.List.{List}
use Prim.Native.Nat.{ℕ, suc, ◌+◌, ◌-◌, ◌≤◌, ◌<◌}
use native.Mathlib.Nat.{mod-eq_of_lt}
use native.Mathlib.Decide.{ℕ_discrete}
use native.Mathlib.Omega.{arith}
use lib.ListN.{length, set, length-set}
use lib.Seq.{get_or-set_same, get_or-set_other}
use Rattle.words.specs.Lists.{word}
use Rattle.roads.specs.Map.{Map, road_at, road_count}
use Rattle.roads.specs.Walk.{Walk}
use Rattle.roads.specs.Dist.{dist}
use Rattle.near_vans.specs.Around.{Waits, Reached, Around, Taken}

module _ {m : Map} (few : m.vertices ≤ 4096) {x : ℕ} {f : Waits} (a : Around m x 0 (road_count m) f) (i : ℕ) (hi : i < f.n)
    {f' : Waits} {v : ℕ} (t : Taken i f f' v) where
  moved : ℕ
  moved = word f.vertices (f.n - 1)

  -- two places that show one vertex are one
  one_place : (p q : ℕ) → p < f.n → q < f.n → word f.vertices p ≡ word f.vertices q → p ≡ q
  one_place p q hp hq same = omega (arith, a.placed p hp, a.placed q hq, ap (word f.at) same)

  v_below : v < 4096
  v_below = omega (arith, t.vertex_is, a.is_vertex i hi)

  moved_below : moved < 4096
  unfolding moved
  moved_below = omega (arith, a.is_vertex (f.n - 1) (omega arith))

  at_is : f'.at ≡ set (set f.at moved (suc i)) v 255
  unfolding moved
  at_is = t.at_is ∙ (λ j. set (set f.at (mod-eq_of_lt moved_below j) (suc i)) (mod-eq_of_lt v_below j) 255)

  pub now_taken : word f'.at v ≡ 255
  now_taken = ap (λ (l : List ℕ). word l v) at_is ∙ get_or-set_same (set f.at moved (suc i)) v 255 0 (omega (arith, length-set f.at moved (suc i), a.at_length, v_below))

  at_moved : moved ≢ v → word f'.at moved ≡ suc i
  at_moved other =
      ap (λ (l : List ℕ). word l moved) at_is
      ∙ get_or-set_other (set f.at moved (suc i)) v moved 255 0 other
      ∙ get_or-set_same f.at moved (suc i) 0 (omega (arith, a.at_length, moved_below))

  at_other : (u : ℕ) → u ≢ v → u ≢ moved → word f'.at u ≡ word f.at u
  at_other u not-v not-moved = ap (λ (l : List ℕ). word l u) at_is ∙ get_or-set_other (set f.at moved (suc i)) v u 255 0 not-v ∙ get_or-set_other f.at moved u (suc i) 0 not-moved

  label_here : word f'.labels i ≡ word f.labels (f.n - 1)
  label_here = ap (λ (l : List ℕ). word l i) t.labels_are ∙ get_or-set_same f.labels i (word f.labels (f.n - 1)) 0 (omega (arith, a.labels_length, a.few))

  label_other : (p : ℕ) → p ≢ i → word f'.labels p ≡ word f.labels p
  label_other p other = ap (λ (l : List ℕ). word l p) t.labels_are ∙ get_or-set_other f.labels i p (word f.labels (f.n - 1)) 0 other

  vertex_here : word f'.vertices i ≡ moved
  unfolding moved
  vertex_here = ap (λ (l : List ℕ). word l i) t.vertices_are ∙ get_or-set_same f.vertices i (word f.vertices (f.n - 1)) 0 (omega (arith, a.vertices_length, a.few))

  vertex_other : (p : ℕ) → p ≢ i → word f'.vertices p ≡ word f.vertices p
  vertex_other p other = ap (λ (l : List ℕ). word l p) t.vertices_are ∙ get_or-set_other f.vertices i p (word f.vertices (f.n - 1)) 0 other

  -- what waited at p waits there, or came from the last place
  module _ (p : ℕ) (hp : p < f.n - 1) where
    from : (q : ℕ) × (q < f.n) × (word f'.vertices p ≡ word f.vertices q) × (word f'.labels p ≡ word f.labels q)
    unfolding moved
    from = by (ℕ_discrete p i)
      where
        by : Dec (p ≡ i) → (q : ℕ) × (q < f.n) × (word f'.vertices p ≡ word f.vertices q) × (word f'.labels p ≡ word f.labels q)
        by (yes here) = (f.n - 1, omega arith, ap (word f'.vertices) here ∙ vertex_here, ap (word f'.labels) here ∙ label_here)
        by (no other) = (p, omega arith, vertex_other p other, label_other p other)

    still_placed : word f'.at (word f'.vertices p) ≡ suc p
    unfolding moved
    still_placed = by (ℕ_discrete p i)
      where
        by : Dec (p ≡ i) → word f'.at (word f'.vertices p) ≡ suc p
        by (yes here) =
            let apart : moved ≢ v = λ same. omega (arith, one_place (f.n - 1) i (omega arith) hi (same ∙ t.vertex_is)) in
            ap (word f'.at) (ap (word f'.vertices) here ∙ vertex_here) ∙ at_moved apart ∙ ap suc (sym here)
        by (no other) =
            let not-v : word f.vertices p ≢ v = λ same. other (one_place p i (omega arith) hi (same ∙ t.vertex_is)) in
            let not-moved : word f.vertices p ≢ moved = λ same. omega (arith, one_place p (f.n - 1) (omega arith) (omega arith) same) in
            ap (word f'.at) (vertex_other p other) ∙ at_other (word f.vertices p) not-v not-moved ∙ a.placed p (omega arith)

  moved_waits : word f.at moved ≡ 255 → ⊥
  unfolding moved
  moved_waits taken = omega (arith, taken, a.placed (f.n - 1) (omega arith), a.few)

  -- who had been reached still is
  carry : (u l : ℕ) → Reached f u l → Reached f' u l
  unfolding moved
  carry u l (inl taken) = by (ℕ_discrete u v)
    where
      by : Dec (u ≡ v) → Reached f' u l
      by (yes same) = inl (ap (word f'.at) same ∙ now_taken)
      by (no other) = inl (at_other u other (λ same. moved_waits (ap (word f.at) (sym same) ∙ taken)) ∙ taken)
  carry u l (inr (p, hp, is, most)) = by (ℕ_discrete p i) (ℕ_discrete p (f.n - 1))
    where
      by : Dec (p ≡ i) → Dec (p ≡ f.n - 1) → Reached f' u l
      by (yes here) end = inl (ap (word f'.at) (sym is ∙ ap (word f.vertices) here ∙ sym t.vertex_is) ∙ now_taken)
      by (no other) (yes end) =
          inr (i, omega (arith, other, end), vertex_here ∙ ap (word f.vertices) (sym end) ∙ is, omega (arith, label_here, ap (word f.labels) end, most))
      by (no other) (no before) = inr (p, omega (arith, before), vertex_other p other ∙ is, omega (arith, label_other p other, most))

  -- before it was taken, it had not been
  pub not_taken : word f.at v ≢ 255
  not_taken taken = omega (arith, taken, ap (word f.at) t.vertex_is, a.placed i hi, a.few)

  -- none else was taken
  pub others_as_before : (u : ℕ) → u ≢ v → (word f'.at u ≡ 255 → word f.at u ≡ 255) × (word f.at u ≡ 255 → word f'.at u ≡ 255)
  others_as_before u other = by (ℕ_discrete u moved)
    where
      by : Dec (u ≡ moved) → (word f'.at u ≡ 255 → word f.at u ≡ 255) × (word f.at u ≡ 255 → word f'.at u ≡ 255)
      by (no same) = (λ e. sym (at_other u other same) ∙ e, λ e. at_other u other same ∙ e)
      by (yes same) = (
        λ e. absurd (omega (arith, e, ap (word f'.at) same, at_moved (λ is. other (same ∙ is)), a.few)),
        λ e. absurd (moved_waits (ap (word f.at) (sym same) ∙ e)),
      )

  before : {p : ℕ} → p < f'.n → p < f.n - 1
  before hp = omega (arith, hp, t.n_is)

  pub taken_around : Around m x v 0 f'
  taken_around =
      record {
        at_length = ap length at_is ∙ length-set (set f.at moved (suc i)) v 255 ∙ length-set f.at moved (suc i) ∙ a.at_length;
        labels_length = ap length t.labels_are ∙ length-set f.labels i (word f.labels (f.n - 1)) ∙ a.labels_length;
        vertices_length = ap length t.vertices_are ∙ length-set f.vertices i (word f.vertices (f.n - 1)) ∙ a.vertices_length;
        few = omega (arith, a.few);
        placed = λ p hp. still_placed p (before hp);
        is_vertex = λ p hp. let (q, hq, vertex, label) = from p (before hp) in omega (arith, vertex, a.is_vertex q hq);
        walked = λ p hp.
            let (q, hq, vertex, label) = from p (before hp) in
            subst⁻¹ (λ (u : ℕ). Walk m u x (word f'.labels p)) vertex (subst⁻¹ (Walk m (word f.vertices q) x) label (a.walked q hq));
        start = carry x 0 a.start;
        reached = λ j hj taken looked.
            carry (road_at m j).from ((road_at m j).weight + dist m (road_at m j).to x)
            (a.reached j hj ((others_as_before (road_at m j).to (λ same. omega (arith, looked same))).0 taken) (λ same. hj));
      }
