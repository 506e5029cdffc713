-- The bound that rows give for a part that does not hold x is exact: it is the distance of the part's nearest active vertex.
-- Assumes nothing.
use mathlib.Core.Path.{◌≡◌}
use mathlib.Core.Bool.{Bool, true, false}
use Prim.Native.Nat.{ℕ, ◌+◌, ◌≤◌, ◌<◌}
use native.Mathlib.Omega.{arith}
use Rattle.words.specs.Limits.{FAR}
use Rattle.roads.specs.Map.{Map}
use Rattle.roads.specs.Dist.{dist}
use Rattle.roads.proofs.Trail.{Net}
use Rattle.roads.proofs.Laws.{dist_triangle}
use Rattle.parts.specs.Tree.{holds}
use Rattle.parts.specs.Border.{boundary}
use Rattle.parts.proofs.Down.{boundary_inside}
use Rattle.parts.proofs.Tree.{holds_says}
use Rattle.rows.specs.declared.Row.{Row}
use Rattle.rows.specs.Row.{row_of, Arrives, IsRow, empty, shows}
use Rattle.rows.proofs.Least.{row_is}
use Rattle.rows.proofs.Bounds.{key_gate}

-- d is the least, over the boundary of q, of a row's distance and the way from there to x
pub record Key (m : Map) (isActive : ℕ → Bool) (q x d : ℕ) : Type 0 where
  pub least : (b : ℕ) → boundary m q b ≡ true → d ≤ (row_of m isActive q b).distance + dist m b x
  pub found : d < FAR → (b : ℕ) × (boundary m q b ≡ true) × (d ≡ (row_of m isActive q b).distance + dist m b x)

-- the nearest active vertex of q that can reach x, at distance d
pub record NearestAt (m : Map) (isActive : ℕ → Bool) (q x d : ℕ) : Type 0 where
  pub vertex : ℕ
  pub arrives : Arrives m isActive q x vertex
  pub distance : dist m vertex x ≡ d
  pub nearest : (u : ℕ) → Arrives m isActive q x u → d ≤ dist m u x

module _ (m : Map) (net : Net m) (isActive : ℕ → Bool) (q x : ℕ) (outside : holds m q x ≡ false) (d : ℕ) (key : Key m isActive q x d) where
  -- no active vertex is nearer
  no_nearer : (u : ℕ) → Arrives m isActive q x u → d ≤ dist m u x
  no_nearer u a =
      let g = key_gate m isActive net q x u a.vertex a.inside a.active outside a.reaches in
      omega (arith, key.least g.gate g.is_boundary, g.bounds)

  pub key_exact : d < FAR → NearestAt m isActive q x d
  key_exact real = by found.2 (row_is m isActive q found.0)
    where
      found : (b : ℕ) × (boundary m q b ≡ true) × (d ≡ (row_of m isActive q b).distance + dist m b x)
      found = key.found real

      shown : (b w : ℕ) → boundary m q b ≡ true → d ≡ dist m w b + dist m b x → Arrives m isActive q b w → NearestAt m isActive q x d
      shown b w edge same a =
          let hb = (holds_says m q b (boundary_inside m q b edge)).0 in
          let way = dist_triangle m net w a.vertex b x hb in
          let here : Arrives m isActive q x w = record { vertex = a.vertex; inside = a.inside; active = a.active; reaches = omega arith } in
          record { vertex = w; arrives = here; distance = omega (arith, way, no_nearer w here); nearest = no_nearer }

      by : {row : Row} → d ≡ row.distance + dist m found.0 x → IsRow m isActive q found.0 row → NearestAt m isActive q x d
      by same (empty nobody) = absurd (omega arith)
      by same (shows w a first) = shown found.0 w found.1 same a

  -- and where the bound is FAR, none can reach x
  pub key_none : FAR ≤ d → (u : ℕ) → Arrives m isActive q x u → ⊥
  key_none far u a = omega (arith, no_nearer u a, a.reaches)
