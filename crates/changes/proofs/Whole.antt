-- A change that is made in the words of a map and a fleet: they are the words of the fleet after it.
-- Assumes nothing.
use mathlib.Core.Path.{◌≡◌, refl, sym, ap, subst, ◌∙◌}
use mathlib.Core.Logic.{◌⊎◌, inl, inr}
use mathlib.Core.Bool.{true, false}
use mathlib.Core.List.{List}
use Prim.Native.Nat.{ℕ, ◌+◌, ◌<◌}
use native.Mathlib.Omega.{arith}
use native.Mathlib.Decide.{ℕ_discrete}
use lib.ListN.{length, set}
use lib.Seq.{set-set}
use borrow.Author.Tests.{ne_eqb}
use Rattle.words.specs.Limits.{vans, last_count}
use Rattle.words.specs.Lists.{word}
use Rattle.words.proofs.Places.{entry_in}
use Rattle.roads.specs.Map.{Map, road_count, no_road, road_at}
use Rattle.maps.specs.Sound.{Sound}
use Rattle.fleet.specs.State.{Van, Slot, absent, present, State, slot_of, head_of, heads_for}
use Rattle.image.specs.Image.{image}
use Rattle.van_lists.specs.declared.VanWords.{VanWords}
use Rattle.van_lists.specs.Slot.{standing_words, stamped}
use Rattle.van_lists.proofs.Links.{with_slot, heads_at, heads_there, heads_held, heads_absent}
use Rattle.van_lists.proofs.Relink.{slot_new, slots_kept}
use Rattle.van_lists.proofs.OneVan.{one_head}
use Rattle.road_lookup.specs.Lookup.{end_in}
use Rattle.road_lookup.proofs.Shown.{counts_of, image_roads}
use Rattle.changes.specs.Made.{van_arrived, made, settled}
use Rattle.changes.proofs.Chain.{makes_kept, makes_moved, makes_departed, makes_arrived, makes_written}
use Rattle.changes.proofs.Reading.{count_read}
use Rattle.changes.proofs.Between.{with_count, count_image}
use Rattle.changes.proofs.OneVan.{image_kept, image_departed, image_arrived}

-- the van in the slot, if there is one, is on a road of the map
abbrev pub OnMap : Map → Slot → Type 0
OnMap m slot = (v : Van) → slot ≡ present v → v.road < road_count m

-- a free van that heads for p
record FreeFor (m : Map) (slot : Slot) (p : ℕ) : Type 0 where
  one : (standing_words slot).state ≡ 1
  heads : heads_for m p slot ≡ true
  vertex : p < m.vertices
  road : (standing_words slot).road < road_count m
  end : (road_at m (standing_words slot).road).to ≡ p

-- no free van
record Idle (m : Map) (slot : Slot) : Type 0 where
  not_one : (standing_words slot).state ≡ 1 → ⊥
  nowhere : (v : ℕ) → heads_for m v slot ≡ false

record Free (m : Map) (slot : Slot) : Type 0 where
  head : ℕ
  is : FreeFor m slot head

kind : (m : Map) → Sound m → (slot : Slot) → OnMap m slot → Free m slot ⊎ Idle m slot
kind m sound absent on = inr (record { not_one = λ e. omega arith; nowhere = heads_absent m })
kind m sound (present v) on = elim (ℕ_discrete v.holder 0) [ yes free ↦ inl (is_free_lem free) | no held ↦ inr (record { not_one = λ e. omega arith; nowhere = λ u. heads_held m u v held }) ]
  where
    is_free_lem : v.holder ≡ 0 → Free m (present v)
    is_free_lem free =
        let there = on v refl in
        record {
          head = head_of m v;
          is = record {
            one = omega arith;
            heads = heads_there m v free;
            vertex = (sound.road (road_at m v.road) (entry_in m.roads v.road no_road there)).to_exists;
            road = there;
            end = refl;
          };
        }

module _ (m : Map) (sound : Sound m) where
  -- the end of a free van's road, in the words of the map
  end_read : (s : State) → length s.vans ≡ vans → (slot : Slot) (p : ℕ) → FreeFor m slot p → p ≡ end_in (image m s) (counts_of m) (standing_words slot).road
  end_read s slots slot p f = sym f.end ∙ sym ((image_roads m s slots).end (standing_words slot).road f.road)

  module _ (s : State) (slots : length s.vans ≡ vans) (n : ℕ) (is-van : n < vans) (new : Slot) where
    Made : Type 0
    Made = made (image m s) (counts_of m) n (standing_words (slot_of s n)) (standing_words new) ≡ image m (with_slot s n new)

    stays : (p : ℕ) → FreeFor m (slot_of s n) p → FreeFor m new p → Made
    unfolding Made
    stays p f g =
        sym (makes_kept (image m s) (counts_of m) n (standing_words (slot_of s n)) (standing_words new) p p (end_read s slots (slot_of s n) p f) (end_read s slots new p g) _ f.one g.one refl refl)
        ∙ image_kept m sound s slots n is-van new same
      where
        same : (v : ℕ) → heads_for m v new ≡ heads_at m s v n
        same v =
            elim (ℕ_discrete v p) [
              | yes here ↦ rw here (g.heads ∙ sym f.heads)
              | no away ↦ one_head m v p new g.heads away ∙ sym (one_head m v p (slot_of s n) f.heads away)
            ]

    goes_on_lem : (p q : ℕ) → FreeFor m (slot_of s n) p → FreeFor m new q → (p ≡ q → ⊥) → Made
    unfolding Made
    goes_on_lem p q f g other =
        sym (makes_moved (image m s) (counts_of m) n (standing_words (slot_of s n)) (standing_words new) p q (end_read s slots (slot_of s n) p f) (end_read s slots new q g) _ _ f.one g.one other refl refl)
        ∙ ap (λ (l : List ℕ). van_arrived l (counts_of m) n q (standing_words new)) (image_departed m sound s slots n is-van absent p f.vertex f.heads (heads_absent m))
        ∙ image_arrived m sound (with_slot s n absent) (slots_kept m s slots n is-van absent) n is-van new q g.vertex
        (λ v. ap (heads_for m v) (slot_new m s slots n is-van absent) ∙ heads_absent m v) g.heads
        ∙ ap (λ vans. image m (record { count = s.count; vans = vans })) (set-set s.vans n absent new)

    by_kinds : Free m (slot_of s n) ⊎ Idle m (slot_of s n) → Free m new ⊎ Idle m new → Made
    unfolding Made
    by_kinds (inl f) (inl g) =
        elim (ℕ_discrete f.head g.head) [
          | yes same ↦ stays g.head (subst (FreeFor m (slot_of s n)) same f.is) g.is
          | no other ↦ goes_on_lem f.head g.head f.is g.is other
        ]
    by_kinds (inl f) (inr i) =
        sym (makes_departed (image m s) (counts_of m) n (standing_words (slot_of s n)) (standing_words new) f.head _ (end_read s slots (slot_of s n) f.head f.is) refl _ f.is.one i.not_one refl)
        ∙ image_departed m sound s slots n is-van new f.head f.is.vertex f.is.heads i.nowhere
    by_kinds (inr i) (inl g) =
        sym (makes_arrived (image m s) (counts_of m) n (standing_words (slot_of s n)) (standing_words new) _ g.head refl (end_read s slots new g.head g.is) _ i.not_one g.is.one refl)
        ∙ image_arrived m sound s slots n is-van new g.head g.is.vertex i.nowhere g.is.heads
    by_kinds (inr i) (inr j) =
        sym (makes_written (image m s) (counts_of m) n (standing_words (slot_of s n)) (standing_words new) _ _ refl refl _ i.not_one j.not_one refl)
        ∙ image_kept m sound s slots n is-van new (λ v. j.nowhere v ∙ sym (i.nowhere v))

    pub image_made : OnMap m (slot_of s n) → OnMap m new → made (image m s) (counts_of m) n (standing_words (slot_of s n)) (standing_words new) ≡ image m (with_slot s n new)
    unfolding Made
    image_made on on' = by_kinds (kind m sound (slot_of s n) on) (kind m sound new on')

  -- counted, and made
  pub image_settled : (s : State) → length s.vans ≡ vans → (n : ℕ) → n < vans → (w : VanWords) (new : Slot) → stamped w (s.count + 1) ≡ standing_words new
      → OnMap m (slot_of s n) → OnMap m new → (s.count ≡ last_count → ⊥)
      → settled (image m s) (counts_of m) n (standing_words (slot_of s n)) w ≡ image m (record { count = s.count + 1; vans = set s.vans n new })
  unfolding settled
  image_settled s slots n is-van w new is on on' more =
      rw (ne_eqb (word (image m s) 5) last_count (λ e. more (sym (count_read m s slots) ∙ e)))
      (both ∙ image_made (with_count s (s.count + 1)) slots n is-van new on on')
    where
      first : set (image m s) 5 (word (image m s) 5 + 1) ≡ image m (with_count s (s.count + 1))
      first = ap (λ (k : ℕ). set (image m s) 5 (k + 1)) (count_read m s slots) ∙ count_image m s slots (s.count + 1)

      second : stamped w (word (image m s) 5 + 1) ≡ standing_words new
      second = ap (λ (k : ℕ). stamped w (k + 1)) (count_read m s slots) ∙ is

      both : made (set (image m s) 5 (word (image m s) 5 + 1)) (counts_of m) n (standing_words (slot_of s n)) (stamped w (word (image m s) 5 + 1))
          ≡ made (image m (with_count s (s.count + 1))) (counts_of m) n (standing_words (slot_of s n)) (standing_words new)
      both i = made (first i) (counts_of m) n (standing_words (slot_of s n)) (second i)
