-- A vertex that waits with the least label is at that distance from x: whoever is nearer has been taken.
-- Assumes nothing.
use mathlib.Core.Path.{◌≡◌, ap, subst, ◌∙◌}
use mathlib.Core.Logic.{⊎_elim}
use Prim.Native.Nat.{ℕ, ◌+◌, ◌≤◌, ◌<◌}
use native.Mathlib.Decide.{dec_lt}
use native.Mathlib.Omega.{arith}
use Rattle.words.specs.Limits.{FAR}
use Rattle.words.specs.Lists.{word}
use Rattle.words.proofs.Places.{numbered}
use Rattle.roads.specs.Map.{Road, Map, no_road, road_count}
use Rattle.roads.specs.Walk.{Walk, stay, go}
use Rattle.roads.specs.Dist.{dist}
use Rattle.roads.proofs.Trail.{Net}
use Rattle.roads.proofs.Exact.{dist_exact}
use Rattle.near_vans.specs.Around.{Waits, Reached, Around, LeastLabel}

module _ {m : Map} (net : Net m) where
  -- whoever has a way to x that weighs less than each label has been taken
  pub nearer_taken : {v x w : ℕ} (low : ℕ) (f : Waits) → Around m x 0 (road_count m) f → ((i : ℕ) → i < f.n → low ≤ word f.labels i)
      → Walk m v x w → w < low → word f.at v ≡ 255
  nearer_taken low f a least (stay h) less = ⊎_elim (λ taken. taken) (λ (i, hi, is, most). absurd (omega (arith, least i hi, most, less))) a.start
  nearer_taken {x = x} low f a least (go {a = u} {b} {w = weight} {rest} road walk) less =
      let (j, hj, is) = numbered no_road m.roads _ road in
      let next : word f.at b ≡ 255 = nearer_taken low f a least walk (omega arith) in
      let reached : Reached f u (weight + dist m b x) =
      subst (λ (r : Road). Reached f r.from (r.weight + dist m r.to x)) is
      (a.reached j hj (ap (λ (r : Road). word f.at r.to) is ∙ next) (λ same. hj)) in
      ⊎_elim (λ taken. taken) (λ (i, hi, is, most). absurd (omega (arith, least i hi, most, less, (dist_exact m net b x (net.to _ road)).least rest walk))) reached

  -- so the least label is its vertex's distance
  pub least_exact : (x : ℕ) (f : Waits) (i : ℕ) → Around m x 0 (road_count m) f → LeastLabel f.labels f.n i
      → (word f.labels i ≡ dist m (word f.vertices i) x) × (word f.labels i < FAR)
  least_exact x f i a l = (omega (arith, no_more, no_less (dec_lt (dist m v x) (word f.labels i))), omega (arith, near, no_less (dec_lt (dist m v x) (word f.labels i))))
    where
      v : ℕ
      v = word f.vertices i

      walk : Walk m v x (word f.labels i)
      walk = a.walked i l.is_place

      real : dist m v x ≡ FAR → ⊥
      real far = (dist_exact m net v x (a.is_vertex i l.is_place)).far.0 far (word f.labels i) walk

      no_more : dist m v x ≤ word f.labels i
      no_more = (dist_exact m net v x (a.is_vertex i l.is_place)).least (word f.labels i) walk

      near : dist m v x < FAR
      near = omega (arith, (dist_exact m net v x (a.is_vertex i l.is_place)).most real)

      no_less : Dec (dist m v x < word f.labels i) → word f.labels i ≤ dist m v x
      no_less (no h) = omega (arith, h)
      no_less (yes less) =
          let taken : word f.at v ≡ 255 = nearer_taken (word f.labels i) f a l.least ((dist_exact m net v x (a.is_vertex i l.is_place)).reached real) less in
          absurd (omega (arith, taken, a.placed i l.is_place, l.is_place, a.few))
