-- What one slot that is written anew does to the links of the fleet.
-- Assumes nothing.
use mathlib.Core.Path.{◌≡◌, refl, ◌∙◌, ap}
use mathlib.Core.Bool.{true, false}
use Prim.Native.Nat.{ℕ, suc, ◌≤◌, ◌<◌}
use native.Mathlib.Omega.{arith}
use native.Mathlib.Decide.{dec_lt, ℕ_discrete}
use lib.ListN.{length, length-set}
use lib.Seq.{get_or-set_same, get_or-set_other}
use Rattle.words.specs.Limits.{vans}
use Rattle.words.proofs.Tests.{clash}
use Rattle.roads.specs.Map.{Map}
use Rattle.counts.specs.declared.Counts.{Counts}
use Rattle.fleet.specs.State.{Slot, absent, State, slot_of, heads_for}
use Rattle.van_lists.proofs.Found.{Found, found, found_agrees, found_sooner, found_down}
use Rattle.van_lists.proofs.Links.{with_slot, heads_at, link_from, link_found, link_is}
use Rattle.van_lists.proofs.Spot.{LinkAt, vertex_link, van_link, Spot}

module _ (m : Map) (s : State) (slots : length s.vans ≡ vans) (n : ℕ) (is-van : n < vans) (new : Slot) where
  pub slot_new : slot_of (with_slot s n new) n ≡ new
  slot_new = get_or-set_same s.vans n new absent (omega arith)

  pub slot_kept : (x : ℕ) → (x ≡ n → ⊥) → slot_of (with_slot s n new) x ≡ slot_of s x
  slot_kept x other = get_or-set_other s.vans n x new absent other

  pub slots_kept : length (with_slot s n new).vans ≡ vans
  slots_kept = length-set s.vans n new ∙ slots

  heads_kept : (v x : ℕ) → (x ≡ n → ⊥) → heads_at m (with_slot s n new) v x ≡ heads_at m s v x
  heads_kept v x other = ap (heads_for m v) (slot_kept x other)

  -- a link of the fleet anew, from the same range of the fleet as it was
  again : (v b r : ℕ) → b ≤ vans → Found (heads_at m (with_slot s n new) v) b vans r → link_from m (with_slot s n new) v b ≡ r
  again v b r h f = link_is m (with_slot s n new) slots_kept v b r h f

  -- a list that the van was not in and is not in now
  pub link_elsewhere : (v b : ℕ) → b ≤ vans → heads_for m v new ≡ heads_at m s v n → link_from m (with_slot s n new) v b ≡ link_from m s v b
  link_elsewhere v b h same = again v b _ h (found_agrees (heads_at m s v) _ b vans _ (λ x from to. agree x) (link_found m s slots v b h))
    where
      agree : (x : ℕ) → heads_at m (with_slot s n new) v x ≡ heads_at m s v x
      agree x = elim (ℕ_discrete x n) [ yes here ↦ rw here (ap (heads_for m v) slot_new ∙ same) | no other ↦ heads_kept v x other ]

  -- a link behind the van
  pub link_later : (v b : ℕ) → b ≤ vans → n < b → link_from m (with_slot s n new) v b ≡ link_from m s v b
  link_later v b h after =
      again v b _ h (found_agrees (heads_at m s v) _ b vans _ (λ x from to. heads_kept v x (λ e. omega arith)) (link_found m s slots v b h))

  -- a link that goes on to a van before this one
  link_sooner : (v b w : ℕ) → b ≤ vans → b ≤ w → w < n → heads_at m s v w ≡ true → link_from m (with_slot s n new) v b ≡ link_from m s v b
  link_sooner v b w h from to passes =
      again v b _ h (found_sooner (heads_at m s v) _ b vans _ n w (heads_kept v) from to (omega arith) passes (link_found m s slots v b h))

  module _ (counts : Counts) (p at : ℕ) (spot : Spot m counts s p n at) where
    -- every link of the list but the one that the van belongs behind
    pub link_kept : (b to : ℕ) → LinkAt m counts s p b to → b ≤ vans → (b ≡ spot.from → ⊥) → link_from m (with_slot s n new) p b ≡ link_from m s p b
    link_kept b to link h other =
        elim (dec_lt n b) [
          | yes after ↦ link_later p b h after
          | no before ↦ elim (dec_lt b spot.from) [ yes below ↦ sooner spot.link below | no above ↦ absurd (between link (omega arith) (omega arith)) ]
        ]
      where
        sooner : LinkAt m counts s p spot.from at → b < spot.from → link_from m (with_slot s n new) p b ≡ link_from m s p b
        sooner (vertex_link start e) below = absurd (omega arith)
        sooner (van_link q after q-van q-heads e) below = link_sooner p b q h (omega arith) (omega (arith, spot.within)) q-heads

        between : LinkAt m counts s p b to → spot.from < b → b ≤ n → ⊥
        between (vertex_link start e) above below = omega arith
        between (van_link q after q-van q-heads e) above below = clash q-heads (spot.none q (omega arith) (omega arith))

    -- that one link, where the van is no free van for `p` any more, ..
    pub link_without : heads_for m p new ≡ false → link_from m (with_slot s n new) p spot.from ≡ link_from m s p (suc n)
    link_without gone =
        again p spot.from _ (omega (arith, spot.within))
        (found_down (heads_at m (with_slot s n new) p) spot.from (suc n) vans _ (omega (arith, spot.within)) none
        (found_agrees (heads_at m s p) _ (suc n) vans _ (λ x from to. heads_kept p x (λ e. omega arith)) (link_found m s slots p (suc n) (omega arith))))
      where
        none : (x : ℕ) → spot.from ≤ x → x < suc n → heads_at m (with_slot s n new) p x ≡ false
        none x from to = elim (ℕ_discrete x n) [ yes here ↦ rw here (ap (heads_for m p) slot_new ∙ gone) | no other ↦ heads_kept p x other ∙ spot.none x from (omega arith) ]

    -- .. and where it is one now
    pub link_with : heads_for m p new ≡ true → link_from m (with_slot s n new) p spot.from ≡ suc n
    link_with here =
        again p spot.from _ (omega (arith, spot.within))
        (found n refl spot.within is-van (ap (heads_for m p) slot_new ∙ here) (λ y from to. heads_kept p y (λ e. omega arith) ∙ spot.none y from to))

    -- what that link was, where the van was no free van for `p`
    pub link_was : heads_at m s p n ≡ false → link_from m s p spot.from ≡ link_from m s p (suc n)
    link_was absent-there =
        link_is m s slots p spot.from _ (omega (arith, spot.within))
        (found_down (heads_at m s p) spot.from (suc n) vans _ (omega (arith, spot.within)) none (link_found m s slots p (suc n) (omega arith)))
      where
        none : (x : ℕ) → spot.from ≤ x → x < suc n → heads_at m s p x ≡ false
        none x from to = elim (ℕ_discrete x n) [ yes here ↦ rw here absent-there | no other ↦ spot.none x from (omega arith) ]
