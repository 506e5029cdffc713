-- One van stands anew in the words of a map and a fleet: they are the words of the fleet in which it stands so, rows included.
-- Assumes nothing.
use mathlib.Core.Path.{◌≡◌, refl, sym, ap, ◌∙◌}
use mathlib.Core.Bool.{Bool, true, false, not}
use mathlib.Core.List.{List}
use Prim.Native.Nat.{ℕ, ◌+◌, ◌<◌}
use native.Mathlib.Omega.{arith}
use native.Mathlib.Decide.{ℕ_discrete}
use lib.ListN.{length}
use lib.Dec.{eqb}
use borrow.Author.Tests.{eq-eqb, ne_eqb}
use Rattle.words.specs.Limits.{vans}
use Rattle.words.specs.Lists.{word}
use Rattle.words.proofs.Tests.{clash}
use Rattle.layout.specs.Layout.{vans_in_vertex}
use Rattle.roads.specs.Map.{Map}
use Rattle.maps.specs.Sound.{Sound}
use Rattle.places.specs.Place.{vertex_address}
use Rattle.fleet.specs.State.{Slot, State, slot_of, heads_for, active}
use Rattle.image.specs.Image.{image}
use Rattle.van_lists.specs.Slot.{standing_words}
use Rattle.van_lists.specs.Walk.{van_written, taken_out, put_in}
use Rattle.van_lists.proofs.Found.{Found, nothing, found}
use Rattle.van_lists.proofs.Links.{with_slot, heads_at, link_from, link_found, active_first}
use Rattle.van_lists.proofs.Parked.{Parked}
use Rattle.van_lists.proofs.Relink.{slot_new, slots_kept, link_elsewhere}
use Rattle.van_lists.proofs.OneVan.{one_head, parked_kept, kept_only, parked_out, out_only, parked_in, in_only}
use Rattle.road_lookup.proofs.Shown.{counts_of}
use Rattle.row_memory.specs.Old.{RowsOld}
use Rattle.row_memory.proofs.Whole.{image_unswitched, image_switched}
use Rattle.changes.specs.Made.{switched_alone, van_departed, van_arrived}
use Rattle.changes.proofs.Reading.{image_parked}
use Rattle.changes.proofs.Between.{rows_old}

-- a vertex for which a free van heads is active
active_by : (m : Map) (s : State) → length s.vans ≡ vans → (v n : ℕ) → n < vans → heads_at m s v n ≡ true → active m s v ≡ true
active_by m s slots v n is-van there = active_first m s v ∙ by (link_found m s slots v 0 (omega arith))
  where
    by : Found (heads_at m s v) 0 vans (link_from m s v 0) → not (eqb (link_from m s v 0) 0) ≡ true
    by (nothing e none) = absurd (clash there (none n (omega arith) is-van))
    by (found x e from to passes before) = ap not (ne_eqb (link_from m s v 0) 0 (omega arith))

-- a vertex is active by the first word of its list
by_first : (m : Map) (s : State) (v first : ℕ) → first ≡ link_from m s v 0 → (first ≡ 0 → ⊥) → active m s v ≡ true
by_first m s v first e some = active_first m s v ∙ ap not (ne_eqb (link_from m s v 0) 0 (λ z. some (e ∙ z)))

by_none : (m : Map) (s : State) (v first : ℕ) → first ≡ link_from m s v 0 → first ≡ 0 → active m s v ≡ false
by_none m s v first e none = active_first m s v ∙ ap not (eq-eqb (link_from m s v 0) 0 (sym e ∙ none))

module _ (m : Map) (sound : Sound m) (s : State) (slots : length s.vans ≡ vans) (n : ℕ) (is-van : n < vans) (new : Slot) where
  anew : length (with_slot s n new).vans ≡ vans
  anew = slots_kept m s slots n is-van new

  parked : Parked m (counts_of m) s (image m s)
  parked = image_parked m s slots

  -- where the van did not head and does not head
  active_same : (v : ℕ) → heads_for m v new ≡ heads_at m s v n → active m s v ≡ active m (with_slot s n new) v
  active_same v same =
      active_first m s v ∙ ap (λ (k : ℕ). not (eqb k 0)) (sym (link_elsewhere m s slots n is-van new v 0 (omega arith) same)) ∙ sym (active_first m (with_slot s n new) v)

  pub image_kept : ((v : ℕ) → heads_for m v new ≡ heads_at m s v n) → van_written (image m s) (counts_of m) n (standing_words new) ≡ image m (with_slot s n new)
  image_kept same =
      image_unswitched m s (with_slot s n new) slots anew _
      (rows_old m s (with_slot s n new) slots anew refl _ (parked_kept m (counts_of m) s slots (image m s) parked n is-van new same) (kept_only m (counts_of m) s slots (image m s) parked n is-van new))
      (λ v vertex. active_same v (same v))

  module _ (p : ℕ) (vertex : p < m.vertices) where
    -- the van put in or taken out; p is switched where no other van is in its list
    image_alone : (half : List ℕ) → RowsOld m s (with_slot s n new) half → (others : ℕ) (is : Bool) → (others ≡ 0 → active m (with_slot s n new) p ≡ is)
        → ((others ≡ 0 → ⊥) → active m s p ≡ active m (with_slot s n new) p) → ((u : ℕ) → (u ≡ p → ⊥) → active m s u ≡ active m (with_slot s n new) u)
        → switched_alone half p others is ≡ image m (with_slot s n new)
    unfolding switched_alone
    image_alone half old others is alone more elsewhere =
        elim (ℕ_discrete others 0) [
          | yes none ↦
              rw (eq-eqb others 0 none)
              (image_switched m s (with_slot s n new) slots anew half old p vertex is (record { here = alone none; elsewhere = elsewhere }) sound)
          | no some ↦
              rw (ne_eqb others 0 some)
              (image_unswitched m s (with_slot s n new) slots anew half old
              (λ v is_vertex. elim (ℕ_discrete v p) [ yes here ↦ rw here (more some) | no away ↦ elsewhere v away ]))
        ]

    pub image_departed : heads_at m s p n ≡ true → ((v : ℕ) → heads_for m v new ≡ false) → van_departed (image m s) (counts_of m) n p (standing_words new) ≡ image m (with_slot s n new)
    unfolding van_departed
    image_departed was nowhere =
        image_alone _ half _ false (by_none m (with_slot s n new) p _ first)
        (λ some. active_by m s slots p n is-van was ∙ sym (by_first m (with_slot s n new) p _ first some))
        (λ u away. active_same u (nowhere u ∙ sym (one_head m u p (slot_of s n) was away)))
      where
        out : Parked m (counts_of m) (with_slot s n new) (taken_out (image m s) (counts_of m) n p (standing_words new))
        out = parked_out m (counts_of m) s slots (image m s) parked n is-van new p vertex was nowhere

        half : RowsOld m s (with_slot s n new) (taken_out (image m s) (counts_of m) n p (standing_words new))
        half = rows_old m s (with_slot s n new) slots anew refl _ out (out_only m (counts_of m) s slots (image m s) parked n is-van new p vertex)

        first : word (taken_out (image m s) (counts_of m) n p (standing_words new)) (vertex_address (counts_of m) p + vans_in_vertex) ≡ link_from m (with_slot s n new) p 0
        first = out.first p vertex

    pub image_arrived : ((v : ℕ) → heads_at m s v n ≡ false) → heads_for m p new ≡ true → van_arrived (image m s) (counts_of m) n p (standing_words new) ≡ image m (with_slot s n new)
    unfolding van_arrived
    image_arrived was there =
        image_alone _ half _ true (λ none. now) (λ some. by_first m s p _ (parked.first p vertex) some ∙ sym now)
        (λ u away. active_same u (one_head m u p new there away ∙ sym (was u)))
      where
        half : RowsOld m s (with_slot s n new) (put_in (image m s) (counts_of m) n p (standing_words new))
        half =
            rows_old m s (with_slot s n new) slots anew refl _ (parked_in m (counts_of m) s slots (image m s) parked n is-van new p vertex was there)
            (in_only m (counts_of m) s slots (image m s) parked n is-van new p vertex)

        now : active m (with_slot s n new) p ≡ true
        now = active_by m (with_slot s n new) anew p n is-van (ap (heads_for m p) (slot_new m s slots n is-van new) ∙ there)
