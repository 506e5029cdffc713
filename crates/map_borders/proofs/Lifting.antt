-- The loop over the roads that lowers the lifts of their ends.
-- Assumes nothing.
use mathlib.Core.Path.{◌≡◌, refl, sym, ap, ap₂, ◌∙◌}
use mathlib.Core.Bool.{Bool, true, false, ◌&&◌, ◌||◌}
use mathlib.Core.List.{List}
use Prim.Native.Nat.{ℕ, suc, ◌+◌, ◌*◌, ◌-◌, ◌<◌, ◌≤◌, min}
use native.Mathlib.Decide.{ℕ_discrete}
use native.Mathlib.Omega.{arith}
use lib.ListN.{length, get_or, length-set}
use lib.Seq.{get_or-set_same, get_or-set_other}
use lib.Dec.{ltb, eqb}
use borrow.Author.Tests.{ltb-true, ltb-false, lt-ltb, le-ltb, eq-eqb, ne_eqb}
use Rattle.words.specs.Limits.{most_vertices, NONE}
use Rattle.words.specs.Lists.{count_from, word, any}
use Rattle.cells.specs.Lowered.{lowered}
use Rattle.roads.specs.Map.{Road}
use Rattle.maps.specs.Bytes.{field, road_shown}
use Rattle.map_borders.specs.Lift.{most_steps, meet, road_meet, lifted, outside, Lifted}

pub lowered_length : (lifts : List ℕ) (v x : ℕ) → length (lowered lifts v x) ≡ length lifts
lowered_length lifts v x = length-set lifts v _

pub lifted_length : (parents leaves body : List ℕ) (i : ℕ) (lifts : List ℕ) → length (lifted parents leaves body i lifts) ≡ length lifts
unfolding lifted
lifted_length parents leaves body i lifts = simp length-set

-- what `lift_road` has read and done
pub lifted_by : (parents leaves body : List ℕ) (i : ℕ) (lifts : List ℕ) {r : Road} {a b x : ℕ} {first second : List ℕ}
    → r ≡ road_shown body i → a ≡ word leaves r.from → b ≡ word leaves r.to → x ≡ meet parents most_steps a b
    → first ≡ lowered lifts r.from x → second ≡ lowered first r.to x → second ≡ lifted parents leaves body i lifts
unfolding lifted road_meet road_shown
lifted_by parents leaves body i lifts {r} {x = x} isRoad is_a is_b isX isFirst isSecond =
    let isFrom : r.from ≡ field body (8 * i) 2 = ap (λ (s : Road). s.from) isRoad in
    let isTo : r.to ≡ field body (8 * i + 2) 2 = ap (λ (s : Road). s.to) isRoad in
    let whole : x ≡ road_meet parents leaves body i = isX ∙ λ j. meet parents most_steps ((is_a ∙ ap (word leaves) isFrom) j) ((is_b ∙ ap (word leaves) isTo) j) in
    isSecond ∙ (λ j. lowered (isFirst j) (isTo j) (whole j)) ∙ λ j. lowered (lowered lifts (isFrom j) (whole j)) (field body (8 * i + 2) 2) (road_meet parents leaves body i)

-- below c after: below c before, or the new one is
lesser_below : (x y c : ℕ) → ltb (min y x) c ≡ (ltb x c || ltb y c)
lesser_below x y c = by (ltb x c) refl (ltb y c) refl
  where
    by : (p : Bool) → ltb x c ≡ p → (q : Bool) → ltb y c ≡ q → ltb (min y x) c ≡ (p || q)
    by true ex q ey = lt-ltb (min y x) c (omega (arith, ltb-true x c ex))
    by false ex true ey = lt-ltb (min y x) c (omega (arith, ltb-true y c ey))
    by false ex false ey = le-ltb (min y x) c (omega (arith, ltb-false x c ex, ltb-false y c ey))

lowered_below : (lifts : List ℕ) (v x w c : ℕ) → w < length lifts → ltb (get_or (lowered lifts v x) w 0) c ≡ ((eqb v w && ltb x c) || ltb (get_or lifts w 0) c)
lowered_below lifts v x w c h = by (ℕ_discrete w v)
  where
    by : Dec (w ≡ v) → ltb (get_or (lowered lifts v x) w 0) c ≡ ((eqb v w && ltb x c) || ltb (get_or lifts w 0) c)
    by (yes same) =
        rw same
        (ap (λ (n : ℕ). ltb n c) (get_or-set_same lifts v (min (get_or lifts v 0) x) 0 (omega arith))
        ∙ lesser_below x (get_or lifts v 0) c
        ∙ ap (λ (t : Bool). (t && ltb x c) || ltb (get_or lifts v 0) c) (sym (eq-eqb v v refl)))
    by (no other) =
        ap (λ (n : ℕ). ltb n c) (get_or-set_other lifts v w (min (get_or lifts v 0) x) 0 other)
        ∙ ap (λ (t : Bool). (t && ltb x c) || ltb (get_or lifts w 0) c) (sym (ne_eqb v w (λ e. other (sym e))))

-- The loop's state at road i.
pub record Lifting (parents leaves body : List ℕ) (n i : ℕ) (lifts : List ℕ) : Type 0 where
  pub reached : i ≤ n
  pub room : length lifts ≡ most_vertices
  pub each : (v c : ℕ) → v < most_vertices → c < NONE
      → (ltb (get_or lifts v 0) c || any (outside parents leaves body v c) (count_from i (n - i))) ≡ any (outside parents leaves body v c) (count_from 0 n)

module _ {parents leaves body : List ℕ} {n : ℕ} where
  pub lifting_start : {lifts : List ℕ} → length lifts ≡ most_vertices → ((v : ℕ) → v < most_vertices → get_or lifts v 0 ≡ NONE) → Lifting parents leaves body n 0 lifts
  lifting_start {lifts} room high =
      record {
        reached = omega arith;
        room = room;
        each = λ v c hv hc.
            ap₂ (λ (t : Bool) (k : ℕ). t || any (outside parents leaves body v c) (count_from 0 k)) (le-ltb _ c (omega (arith, high v hv))) (let whole : n - 0 ≡ n = omega arith in whole);
      }

  pub lifting_step : {lifts after : List ℕ} (i : ℕ) → Lifting parents leaves body n i lifts → i < n → after ≡ lifted parents leaves body i lifts → Lifting parents leaves body n (i + 1) after
  unfolding lifted outside
  lifting_step {lifts} {after} i s h is =
      record {
        reached = omega arith;
        room = ap length is ∙ lifted_length parents leaves body i lifts ∙ s.room;
        each = λ v c hv hc. ap (λ (l : List ℕ). ltb (get_or l v 0) c || left v c (i + 1)) is ∙ moved v c hv ∙ s.each v c hv hc;
      }
    where
      left : ℕ → ℕ → ℕ → Bool
      left v c j = any (outside parents leaves body v c) (count_from j (n - j))

      from : ℕ
      from = field body (8 * i) 2

      to : ℕ
      to = field body (8 * i + 2) 2

      algebra : (f t x l r : Bool) → (((t && x) || ((f && x) || l)) || r) ≡ (l || (((f || t) && x) || r))
      algebra true true true true r = refl
      algebra true true true false r = refl
      algebra true true false l r = refl
      algebra true false true true r = refl
      algebra true false true false r = refl
      algebra true false false l r = refl
      algebra false true true true r = refl
      algebra false true true false r = refl
      algebra false true false l r = refl
      algebra false false x l r = refl

      next : (v c : ℕ) → left v c i ≡ (outside parents leaves body v c i || left v c (i + 1))
      next v c =
          ap (λ (k : ℕ). any (outside parents leaves body v c) (count_from i k)) (let more : n - i ≡ suc (n - (i + 1)) = omega arith in more)
          ∙ ap (λ (k : ℕ). outside parents leaves body v c i || any (outside parents leaves body v c) (count_from k (n - (i + 1)))) (let after : suc i ≡ i + 1 = omega arith in after)

      moved : (v c : ℕ) → v < most_vertices → (ltb (get_or (lifted parents leaves body i lifts) v 0) c || left v c (i + 1)) ≡ (ltb (get_or lifts v 0) c || left v c i)
      moved v c hv =
          ap (λ (b : Bool). b || left v c (i + 1))
          (lowered_below (lowered lifts from (road_meet parents leaves body i)) to (road_meet parents leaves body i) v c (omega (arith, s.room, lowered_length lifts from (road_meet parents leaves body i)))
          ∙ ap (λ (b : Bool). (eqb to v && ltb (road_meet parents leaves body i) c) || b) (lowered_below lifts from (road_meet parents leaves body i) v c (omega (arith, s.room))))
          ∙ algebra (eqb from v) (eqb to v) (ltb (road_meet parents leaves body i) c) (ltb (get_or lifts v 0) c) (left v c (i + 1))
          ∙ ap (λ (b : Bool). ltb (get_or lifts v 0) c || b) (sym (next v c))

  pub lifting_done : {lifts : List ℕ} (i : ℕ) → Lifting parents leaves body n i lifts → n ≤ i → Lifted parents leaves body n lifts
  lifting_done {lifts} i s h =
      record {
        room = s.room;
        each = λ v c hv hc. let none : n - i ≡ 0 = omega arith in
            sym (or_false (ltb (get_or lifts v 0) c))
            ∙ ap (λ (k : ℕ). ltb (get_or lifts v 0) c || any (outside parents leaves body v c) (count_from i k)) (sym none)
            ∙ s.each v c hv hc;
      }
    where
      or_false : (b : Bool) → (b || false) ≡ b
      or_false true = refl
      or_false false = refl
