-- A vertex is met at the weight of a walk: it has been taken, or waits with no more than that, and all who had been reached still are.
-- Assumes nothing.
use mathlib.Core.Path.{◌≡◌, refl, sym, ap, subst⁻¹, ◌∙◌}
use mathlib.Core.Logic.{inl, inr, ⊎_elim, ◌≢◌}
use mathlib.Core.List.{List}
use Prim.Native.Nat.{ℕ, suc, ◌+◌, ◌≤◌, ◌<◌}
use native.Mathlib.Decide.{ℕ_discrete, dec_lt}
use native.Mathlib.Omega.{arith}
use lib.ListN.{set, length-set}
use lib.Seq.{get_or-set_same, get_or-set_other}
use lib.Dec.{eqb}
use borrow.Author.Tests.{ne_eqb}
use Rattle.words.specs.Lists.{word}
use Rattle.roads.specs.Map.{Map, road_at, road_count}
use Rattle.roads.specs.Walk.{Walk}
use Rattle.roads.specs.Dist.{dist}
use Rattle.near_vans.specs.Around.{Waits, Reached, Around, Met, was_taken, no_less, lowered, new, SameTaken}

-- more of the roads into v have been looked at
pub further : {m : Map} {x v low : ℕ} (high : ℕ) {f : Waits}
    → ((j : ℕ) → low ≤ j → j < high → j < road_count m → (road_at m j).to ≡ v → Reached f (road_at m j).from ((road_at m j).weight + dist m (road_at m j).to x))
    → Around m x v low f → Around m x v high f
further {m} {x} {v} {low} high {f} more a =
    record {
      at_length = a.at_length;
      labels_length = a.labels_length;
      vertices_length = a.vertices_length;
      few = a.few;
      placed = a.placed;
      is_vertex = a.is_vertex;
      walked = a.walked;
      start = a.start;
      reached = λ j hj taken looked. by j hj taken looked (dec_lt j low) (ℕ_discrete (road_at m j).to v);
    }
  where
    by : (j : ℕ) → j < road_count m → word f.at (road_at m j).to ≡ 255 → ((road_at m j).to ≡ v → j < high) → Dec (j < low) → Dec ((road_at m j).to ≡ v)
        → Reached f (road_at m j).from ((road_at m j).weight + dist m (road_at m j).to x)
    by j hj taken looked (yes before) d = a.reached j hj taken (λ same. before)
    by j hj taken looked (no after) (yes same) = more j (omega (arith, after)) (looked same) hj same
    by j hj taken looked (no after) (no other) = a.reached j hj taken (λ same. absurd (other same))

-- what is so after u was met
pub record After (m : Map) (x v low u far : ℕ) (before : List ℕ) (f : Waits) : Type 0 where
  pub around : Around m x v low f
  pub here : Reached f u far
  pub same : SameTaken before f.at

module _ {m : Map} (few : m.vertices ≤ 4096) {x v low : ℕ} {f : Waits} (a : Around m x v low f) (u far : ℕ) (hu : u < m.vertices) (walk : Walk m u x far) where
  stays : Reached f u far → After m x v low u far f.at f
  stays here = record { around = a; here = here; same = λ w. refl }

  -- a label is lowered
  module _ (i : ℕ) (hi : i < f.n) (is : word f.vertices i ≡ u) (less : far < word f.labels i) where
    abbrev lower : Waits
    lower = record { at = f.at; labels = set f.labels i far; vertices = f.vertices; n = f.n }

    label_now : word (set f.labels i far) i ≡ far
    label_now = get_or-set_same f.labels i far 0 (omega (arith, a.labels_length, a.few))

    label_other : (p : ℕ) → p ≢ i → word (set f.labels i far) p ≡ word f.labels p
    label_other p other = get_or-set_other f.labels i p far 0 other

    no_more : (p : ℕ) → word (set f.labels i far) p ≤ word f.labels p
    no_more p = by (ℕ_discrete p i)
      where
        by : Dec (p ≡ i) → word (set f.labels i far) p ≤ word f.labels p
        by (yes same) = omega (arith, label_now, ap (word (set f.labels i far)) same, ap (word f.labels) same)
        by (no other) = omega (arith, label_other p other)

    carry_lower : (w l : ℕ) → Reached f w l → Reached lower w l
    carry_lower w l = ⊎_elim inl (λ (p, hp, same, most). inr (p, hp, same, omega (arith, no_more p, most)))

    walked_lower : (p : ℕ) → p < f.n → Walk m (word f.vertices p) x (word (set f.labels i far) p)
    walked_lower p hp = by (ℕ_discrete p i)
      where
        by : Dec (p ≡ i) → Walk m (word f.vertices p) x (word (set f.labels i far) p)
        by (no other) = subst⁻¹ (Walk m (word f.vertices p) x) (label_other p other) (a.walked p hp)
        by (yes same) =
            subst⁻¹ (λ (w : ℕ). Walk m w x (word (set f.labels i far) p)) (ap (word f.vertices) same ∙ is)
            (subst⁻¹ (Walk m u x) (ap (word (set f.labels i far)) same ∙ label_now) walk)

    falls : After m x v low u far f.at lower
    falls =
        record {
          around =
              record {
                at_length = a.at_length;
                labels_length = length-set f.labels i far ∙ a.labels_length;
                vertices_length = a.vertices_length;
                few = a.few;
                placed = a.placed;
                is_vertex = a.is_vertex;
                walked = walked_lower;
                start = carry_lower x 0 a.start;
                reached = λ j hj taken looked. carry_lower _ _ (a.reached j hj taken looked);
              };
          here = inr (i, hi, is, omega (arith, label_now));
          same = λ w. refl;
        }

  -- a vertex waits that did not
  module _ (not_taken : word f.at u ≢ 255) (no_place : (i : ℕ) → word f.at u ≡ suc i → i < f.n → word f.vertices i ≢ u) (room : f.n < 128) where
    abbrev at⁺ : List ℕ
    at⁺ = set f.at u (suc f.n)

    abbrev labels⁺ : List ℕ
    labels⁺ = set f.labels f.n far

    abbrev vertices⁺ : List ℕ
    vertices⁺ = set f.vertices f.n u

    abbrev more : Waits
    more = record { at = at⁺; labels = labels⁺; vertices = vertices⁺; n = suc f.n }

    at_now : word at⁺ u ≡ suc f.n
    at_now = get_or-set_same f.at u (suc f.n) 0 (omega (arith, a.at_length))

    at_other : (w : ℕ) → w ≢ u → word at⁺ w ≡ word f.at w
    at_other w other = get_or-set_other f.at u w (suc f.n) 0 other

    label_new : word labels⁺ f.n ≡ far
    label_new = get_or-set_same f.labels f.n far 0 (omega (arith, a.labels_length))

    vertex_new : word vertices⁺ f.n ≡ u
    vertex_new = get_or-set_same f.vertices f.n u 0 (omega (arith, a.vertices_length))

    label_old : (p : ℕ) → p < f.n → word labels⁺ p ≡ word f.labels p
    label_old p hp = get_or-set_other f.labels f.n p far 0 (λ same. omega arith)

    vertex_old : (p : ℕ) → p < f.n → word vertices⁺ p ≡ word f.vertices p
    vertex_old p hp = get_or-set_other f.vertices f.n p u 0 (λ same. omega arith)

    -- u waits at no place
    elsewhere : (p : ℕ) → p < f.n → word f.vertices p ≢ u
    elsewhere p hp same = no_place p (ap (word f.at) (sym same) ∙ a.placed p hp) hp same

    same_taken : SameTaken f.at at⁺
    same_taken w = by (ℕ_discrete w u)
      where
        by : Dec (w ≡ u) → eqb (word at⁺ w) 255 ≡ eqb (word f.at w) 255
        by (no other) = ap (λ (k : ℕ). eqb k 255) (at_other w other)
        by (yes same) =
            ne_eqb (word at⁺ w) 255 (λ e. omega (arith, e, ap (word at⁺) same, at_now))
            ∙ sym (ne_eqb (word f.at w) 255 (λ e. not_taken (ap (word f.at) (sym same) ∙ e)))

    -- a mark of those taken is one from before
    was : (w : ℕ) → word at⁺ w ≡ 255 → word f.at w ≡ 255
    was w e = by (ℕ_discrete w u)
      where
        by : Dec (w ≡ u) → word f.at w ≡ 255
        by (no other) = sym (at_other w other) ∙ e
        by (yes same) = absurd (omega (arith, e, ap (word at⁺) same, at_now))

    carry_new : (w l : ℕ) → Reached f w l → Reached more w l
    carry_new w l =
        ⊎_elim
        (λ taken. inl (at_other w (λ same. not_taken (ap (word f.at) (sym same) ∙ taken)) ∙ taken))
        (λ (p, hp, same, most). inr (p, omega arith, vertex_old p hp ∙ same, omega (arith, label_old p hp, most)))

    -- the entries that wait
    module _ (p : ℕ) (hp : p < suc f.n) where
      old_or_new : (P : ℕ → ℕ → Type 0) → (p < f.n → P (word f.vertices p) (word f.labels p)) → (p ≡ f.n → P u far) → P (word vertices⁺ p) (word labels⁺ p)
      old_or_new P old fresh = by (dec_lt p f.n)
        where
          by : Dec (p < f.n) → P (word vertices⁺ p) (word labels⁺ p)
          by (yes less) = subst⁻¹ (λ (w : ℕ). P w (word labels⁺ p)) (vertex_old p less) (subst⁻¹ (P (word f.vertices p)) (label_old p less) (old less))
          by (no past) =
              let here : p ≡ f.n = omega (arith, past) in
              subst⁻¹ (λ (w : ℕ). P w (word labels⁺ p)) (ap (word vertices⁺) here ∙ vertex_new) (subst⁻¹ (P u) (ap (word labels⁺) here ∙ label_new) (fresh here))

    comes : After m x v low u far f.at more
    comes =
        record {
          around =
              record {
                at_length = length-set f.at u (suc f.n) ∙ a.at_length;
                labels_length = length-set f.labels f.n far ∙ a.labels_length;
                vertices_length = length-set f.vertices f.n u ∙ a.vertices_length;
                few = omega arith;
                placed = λ p hp. old_or_new p hp (λ w l. word at⁺ w ≡ suc p) (λ old. at_other (word f.vertices p) (elsewhere p old) ∙ a.placed p old) (λ here. at_now ∙ ap suc (sym here));
                is_vertex = λ p hp. old_or_new p hp (λ w l. w < m.vertices) (λ old. a.is_vertex p old) (λ here. hu);
                walked = λ p hp. old_or_new p hp (λ w l. Walk m w x l) (λ old. a.walked p old) (λ here. walk);
                start = carry_new x 0 a.start;
                reached = λ j hj taken looked. carry_new _ _ (a.reached j hj (was (road_at m j).to taken) looked);
              };
          here = inr (f.n, omega arith, vertex_new, omega (arith, label_new));
          same = same_taken;
        }

  pub met : {f' : Waits} → Met u far f f' → After m x v low u far f.at f'
  met (was_taken taken is_f) = subst⁻¹ (After m x v low u far f.at) is_f (stays (inl taken))
  met (no_less i hi is less is_f) = subst⁻¹ (After m x v low u far f.at) is_f (stays (inr (i, hi, is, less)))
  met (lowered i hi is less is_f) = subst⁻¹ (After m x v low u far f.at) is_f (falls i hi is less)
  met (new not_taken no_place room is_f) = subst⁻¹ (After m x v low u far f.at) is_f (comes not_taken no_place room)
