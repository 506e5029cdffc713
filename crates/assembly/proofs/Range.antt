-- The roads from one vertex stand side by side, from the number that its record shows to that of the next vertex.
-- Assumes nothing.
use mathlib.Core.Path.{◌≡◌, refl, ap, subst, subst⁻¹}
use mathlib.Core.Logic.{⊎_elim}
use mathlib.Core.Bool.{Bool, true, false, cond}
use mathlib.Core.List.{List, [], ◌∷◌, Memᴰ}
use Prim.Native.Nat.{ℕ, zero, suc, ◌+◌, ◌-◌, ◌≤◌, ◌<◌}
use native.Mathlib.Omega.{arith}
use lib.ListN.{length, get_or}
use lib.Dec.{ltb}
use borrow.Author.Tests.{lt-ltb, le-ltb}
use Rattle.words.specs.Lists.{keep}
use Rattle.roads.specs.Map.{Road, Map, road_count, no_road, road_at}
use Rattle.maps.specs.Sound.{Sound}
use Rattle.image.specs.Image.{first_road_from}

-- how many roads start below v
starts : ℕ → List Road → ℕ
starts v rs = length (keep (λ r. ltb r.from v) rs)

-- roads in the order of their starts
Rising : List Road → Type 0
Rising rs = (i j : ℕ) → i ≤ j → j < length rs → (get_or rs i no_road).from ≤ (get_or rs j no_road).from

rising_rest : (r : Road) (rs : List Road) → Rising (r ∷ rs) → Rising rs
unfolding Rising
rising_rest r rs h i j hij hj = h (suc i) (suc j) (omega arith) (omega arith)

starts_few : (v : ℕ) (rs : List Road) → starts v rs ≤ length rs
unfolding starts
starts_few v [] = omega arith
starts_few v (r ∷ rs) = by (ltb r.from v) (starts_few v rs)
  where
    by : (b : Bool) → length (keep (λ r. ltb r.from v) rs) ≤ length rs → length (cond b (r ∷ keep (λ r. ltb r.from v) rs) (keep (λ r. ltb r.from v) rs)) ≤ suc (length rs)
    by true h = omega arith
    by false h = omega arith

starts_all : (v : ℕ) (rs : List Road) → ((r : Road) → Memᴰ r rs → r.from < v) → starts v rs ≡ length rs
unfolding starts
starts_all v [] h = refl
starts_all v (r ∷ rs) h = rw (lt-ltb r.from v (h r (Memᴰ.head refl))) (ap suc (starts_all v rs (λ q m. h q (Memᴰ.tail m))))

starts_none : (v : ℕ) (rs : List Road) → ((i : ℕ) → i < length rs → v ≤ (get_or rs i no_road).from) → starts v rs ≡ 0
unfolding starts
starts_none v [] h = refl
starts_none v (r ∷ rs) h = rw (le-ltb r.from v (h 0 (omega arith))) (starts_none v rs (λ i m. h (suc i) (omega arith)))

starts_before : (v : ℕ) (rs : List Road) → Rising rs → (i : ℕ) → i < length rs → v ≤ (get_or rs i no_road).from → starts v rs ≤ i
unfolding starts Rising
starts_before v [] up i hi h = absurd (omega arith)
starts_before v (r ∷ rs) up zero hi h =
    rw (le-ltb r.from v h) (omega (arith, starts_none v rs (λ i m. omega (arith, h, up 0 (suc i) (omega arith) (omega arith)))))
starts_before v (r ∷ rs) up (suc i) hi h = by (ltb r.from v) (starts_before v rs (rising_rest r rs up) i (omega arith) h)
  where
    by : (b : Bool) → length (keep (λ r. ltb r.from v) rs) ≤ i → length (cond b (r ∷ keep (λ r. ltb r.from v) rs) (keep (λ r. ltb r.from v) rs)) ≤ suc i
    by true h = omega arith
    by false h = omega arith

starts_after : (v : ℕ) (rs : List Road) → Rising rs → (i : ℕ) → i < length rs → (get_or rs i no_road).from < v → i < starts v rs
unfolding starts Rising
starts_after v [] up i hi h = absurd (omega arith)
starts_after v (r ∷ rs) up zero hi h = rw (lt-ltb r.from v h) (omega arith)
starts_after v (r ∷ rs) up (suc i) hi h =
    let low : r.from < v = omega (arith, h, up 0 (suc i) (omega arith) hi) in
    rw (lt-ltb r.from v low) (omega (arith, starts_after v rs (rising_rest r rs up) i (omega arith) h))

module _ (m : Map) (s : Sound m) where
  rising_from : (i d : ℕ) → i + d < road_count m → (road_at m i).from ≤ (road_at m (i + d)).from
  rising_from i zero h = subst⁻¹ (λ (k : ℕ). (road_at m i).from ≤ (road_at m k).from) (none i) (omega arith)
    where
      none : (k : ℕ) → k + 0 ≡ k
      none k = omega arith
  rising_from i (suc d) h =
      subst⁻¹ (λ (k : ℕ). (road_at m i).from ≤ (road_at m k).from) (more i d)
      (omega (arith, rising_from i d (omega arith), ⊎_elim (λ less. le_of (road_at m (i + d)).from (road_at m (suc (i + d))).from less) (λ same. eq_of (road_at m (i + d)).from (road_at m (suc (i + d))).from same.0) (s.rising (i + d) (omega arith))))
    where
      more : (k l : ℕ) → k + suc l ≡ suc (k + l)
      more k l = omega arith

      le_of : (a b : ℕ) → a < b → a ≤ b
      le_of a b h = omega arith

      eq_of : (a b : ℕ) → a ≡ b → a ≤ b
      eq_of a b h = omega arith

  rising : Rising m.roads
  unfolding Rising
  rising i j hij hj =
      let d : ℕ = j - i in
      let e : i + d ≡ j = omega arith in
      subst (λ (k : ℕ). (road_at m i).from ≤ (road_at m k).from) e (rising_from i d (omega arith))

  -- road r stands among those from its start
  pub road_range : (r : ℕ) → r < road_count m → (first_road_from m (road_at m r).from ≤ r) × (r < first_road_from m (suc (road_at m r).from))
  unfolding first_road_from starts
  road_range r h = (starts_before (road_at m r).from m.roads rising r h (omega arith), starts_after (suc (road_at m r).from) m.roads rising r h (omega arith))

  pub first_road_few : (v : ℕ) → first_road_from m v ≤ road_count m
  unfolding first_road_from starts
  first_road_few v = starts_few v m.roads

  -- past the last vertex
  pub first_road_last : first_road_from m m.vertices ≡ road_count m
  unfolding first_road_from starts
  first_road_last = starts_all m.vertices m.roads (λ r h. (s.road r h).from_exists)
