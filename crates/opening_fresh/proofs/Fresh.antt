-- The image of an empty fleet shows these records.
-- Assumes nothing.
use mathlib.Core.Path.{◌≡◌, refl, ap}
use mathlib.Core.Bool.{Bool, true, false, ◌&&◌, cond, true≢false}
use mathlib.Core.List.{List, map, foldr}
use Prim.Native.Nat.{ℕ, zero, suc, ◌<◌}
use lib.ListN.{length, drop, replicate, length-replicate, get_or-replicate}
use lib.Dec.{ltb}
use Rattle.words.specs.Limits.{vans, FAR}
use Rattle.words.specs.Lists.{up_to, any, link}
use Rattle.words.proofs.Ranks.{keep_none}
use Rattle.layout.specs.Layout.{words_in_van}
use Rattle.roads.specs.Map.{Map}
use Rattle.roads.specs.Dist.{dist}
use Rattle.parts.specs.Tree.{holds}
use Rattle.rows.specs.declared.Row.{Row}
use Rattle.rows.specs.Row.{empty_row, itself, nearer, arriving, row_of}
use Rattle.fleet.specs.State.{Slot, absent, fresh_state, slot_of, heads_for, active}
use Rattle.image.specs.Image.{vertex_record, van_record, next_van, row_record, part_below, row_below}
use Rattle.image.specs.Records.{van_words}
use Rattle.opening_fresh.specs.Fresh.{fresh_vertex, fresh_row}

no_link : (m : Map) (v i n : ℕ) → link (heads_for m v) i (replicate n absent) ≡ 0
unfolding heads_for
no_link m v i zero = refl
no_link m v i (suc n) = no_link m v (suc i) n

none_heads : (m : Map) (v n : ℕ) → any (heads_for m v) (replicate n absent) ≡ false
unfolding heads_for
none_heads m v zero = refl
none_heads m v (suc n) = none_heads m v n

pub fresh_slots : (start : ℕ) → length (fresh_state start).vans ≡ vans
unfolding fresh_state
fresh_slots start = length-replicate vans absent

pub fresh_count : (start : ℕ) → (fresh_state start).count ≡ start
unfolding fresh_state
fresh_count start = refl

module _ (m : Map) (start : ℕ) where
  pub fresh_inactive : (v : ℕ) → active m (fresh_state start) v ≡ false
  unfolding active fresh_state
  fresh_inactive v = none_heads m v vans

  no_van : (v : ℕ) → link (heads_for m v) 0 (fresh_state start).vans ≡ 0
  unfolding fresh_state
  no_van v = no_link m v 0 vans

  not_itself : (v : ℕ) → itself (active m (fresh_state start)) v ≡ empty_row
  unfolding itself
  not_itself v = ap (λ (b : Bool). cond b (record { vertex = v; distance = 0 }) empty_row) (fresh_inactive v)

  pub fresh_vertex_lem : (v : ℕ) → vertex_record m (fresh_state start) v ≡ fresh_vertex m v
  unfolding vertex_record fresh_vertex
  fresh_vertex_lem v = rw (no_van v, not_itself v)

  no_arrival : (p v u : ℕ) → (holds m p u && active m (fresh_state start) u && ltb (dist m u v) FAR) ≡ false
  no_arrival p v u = by (holds m p u) (active m (fresh_state start) u) (fresh_inactive u)
    where
      by : (inside isActive : Bool) → isActive ≡ false → (inside && isActive && ltb (dist m u v) FAR) ≡ false
      by true true e = absurd (true≢false e)
      by true false e = refl
      by false isActive e = refl

  fresh_nearest : (p v : ℕ) → row_of m (active m (fresh_state start)) p v ≡ empty_row
  unfolding row_of arriving
  fresh_nearest p v =
      ap (λ (l : List ℕ). foldr nearer empty_row (map (λ u. record { vertex = u; distance = dist m u v }) l))
      (keep_none (λ u. holds m p u && active m (fresh_state start) u && ltb (dist m u v) FAR) (up_to m.vertices) (λ u h. no_arrival p v u))

  pub fresh_row_lem : (p v : ℕ) → row_record (row_of m (active m (fresh_state start)) p v) v (part_below m p v) (row_below m p v) ≡ fresh_row m p v
  unfolding fresh_row
  fresh_row_lem p v = ap (λ (row : Row). row_record row v (part_below m p v) (row_below m p v)) (fresh_nearest p v)

  absent_slot : (i : ℕ) → i < vans → slot_of (fresh_state start) i ≡ absent
  unfolding fresh_state
  absent_slot i h = get_or-replicate vans i absent absent h

  pub fresh_van : (i : ℕ) → i < vans → van_words m (fresh_state start) i ≡ replicate words_in_van 0
  unfolding van_words next_van
  fresh_van i h = ap (λ (slot : Slot). van_record slot (next_van m slot (suc i) (drop (suc i) (fresh_state start).vans))) (absent_slot i h)
