-- A van taken out of a list, put into one, or written anew in its place: the memory has the vans and lists of the fleet in which the van stands so,
-- and no word beside those of van records and lists changed.
-- Assumes nothing.
use mathlib.Core.Path.{◌≡◌, refl, sym, ◌∙◌, ap}
use mathlib.Core.Bool.{true, false}
use mathlib.Core.List.{List}
use Prim.Native.Nat.{ℕ, suc, ◌+◌, ◌<◌}
use native.Mathlib.Omega.{arith}
use native.Mathlib.Numerals.{add-one}
use native.Mathlib.Decide.{ℕ_discrete}
use lib.ListN.{length, set, length-set}
use lib.Seq.{get_or-set_other}
use borrow.Author.Tests.{eq-eqb, ne_eqb}
use Rattle.words.specs.Limits.{vans}
use Rattle.words.specs.Lists.{word}
use Rattle.words.proofs.Tests.{clash}
use Rattle.layout.specs.Layout.{vans_in_vertex, words_in_van, next_in_van}
use Rattle.roads.specs.Map.{Map}
use Rattle.counts.specs.declared.Counts.{Counts}
use Rattle.places.specs.Place.{vertex_address, van_address}
use Rattle.fleet.specs.State.{Slot, absent, present, State, slot_of, head_of, heads_for}
use Rattle.van_lists.specs.Slot.{standing_words}
use Rattle.van_lists.specs.Walk.{behind, van_written, relinked, taken_out, put_in}
use Rattle.van_lists.proofs.Links.{with_slot, heads_at, link_from, heading, heads_there, heads_away, heads_held, heads_absent, record_of, link_of, slot_words}
use Rattle.van_lists.proofs.Parked.{Parked, field, OnlyVans}
use Rattle.van_lists.proofs.Spot.{LinkAt, vertex_link, van_link, Spot, link_reads, behind_spot}
use Rattle.van_lists.proofs.Relink.{slot_new, link_later, link_without, link_with, link_was}
use Rattle.van_lists.proofs.Frame.{record_of_slot, written_word, complete, but_link, but_same, but_linked}

-- a van that heads nowhere has no link, one that heads for a vertex the link to the next one
no_link : (m : Map) (s : State) (n : ℕ) (slot : Slot) → ((v : ℕ) → heads_for m v slot ≡ false) → link_of m s n slot ≡ 0
no_link m s n absent away = refl
no_link m s n (present v) away =
    elim (ℕ_discrete v.holder 0) [ yes free ↦ absurd (clash (heads_there m v free) (away (head_of m v))) | no held ↦ rw (ne_eqb v.holder 0 held) ]

next_link : (m : Map) (s : State) (n p : ℕ) (slot : Slot) → heads_for m p slot ≡ true → link_of m s n slot ≡ link_from m s p (suc n)
next_link m s n p slot there =
    let h = heading m p slot there in
    ap (link_of m s n) h.is ∙ rw (eq-eqb h.van.holder 0 h.free, h.there)

-- a slot that heads for one vertex heads for no other
pub one_head : (m : Map) (v p : ℕ) (slot : Slot) → heads_for m p slot ≡ true → (v ≡ p → ⊥) → heads_for m v slot ≡ false
one_head m v p slot there away =
    let h = heading m p slot there in
    ap (heads_for m v) h.is ∙ heads_away m v h.van (λ e. away (e ∙ h.there))

module _ (m : Map) (counts : Counts) (s : State) (slots : length s.vans ≡ vans) (mem : List ℕ) (g : Parked m counts s mem) (n : ℕ) (is-van : n < vans) (new : Slot) where
  -- the record of the van as it stands, with its link
  record_new : (link : ℕ) → link ≡ link_of m (with_slot s n new) n new
      → record_of (standing_words new).state (standing_words new).road (standing_words new).offset (standing_words new).stamp link ≡ slot_words m (with_slot s n new) n (slot_of (with_slot s n new) n)
  record_new link e =
      ap (record_of (standing_words new).state (standing_words new).road (standing_words new).offset (standing_words new).stamp) e
      ∙ sym (record_of_slot m (with_slot s n new) n new)
      ∙ ap (slot_words m (with_slot s n new) n) (sym (slot_new m s slots n is-van new))

  written_only : (before : List ℕ) → OnlyVans counts mem before → OnlyVans counts mem (van_written before counts n (standing_words new))
  written_only before only =
      record {
        long = rw (length-set, length-set, length-set, length-set) only.long;
        other = λ a no-first no_van. written_word m counts n before (standing_words new) a (λ k small e. no_van n k is-van (omega arith) e) ∙ only.other a no-first no_van;
      }

  -- written anew in its place: it heads where it did
  module _ (same : (v : ℕ) → heads_for m v new ≡ heads_at m s v n) where
    pub parked_kept : Parked m counts (with_slot s n new) (van_written mem counts n (standing_words new))
    parked_kept = complete m counts n mem (standing_words new) (with_slot s n new) _ (but_same m counts s slots mem g n is-van new same) is-van (record_new _ link_same)
      where
        link_same : link_of m s n (slot_of s n) ≡ link_of m (with_slot s n new) n new
        link_same = cases new refl
          where
            nowhere : (slot : Slot) → new ≡ slot → ((v : ℕ) → heads_for m v slot ≡ false) → link_of m s n (slot_of s n) ≡ link_of m (with_slot s n new) n slot
            nowhere slot is away =
                no_link m s n (slot_of s n) (λ v. sym (same v) ∙ ap (heads_for m v) is ∙ away v) ∙ sym (no_link m (with_slot s n new) n slot away)

            cases : (slot : Slot) → new ≡ slot → link_of m s n (slot_of s n) ≡ link_of m (with_slot s n new) n slot
            cases absent is = nowhere absent is (heads_absent m)
            cases (present v) is =
                elim (ℕ_discrete v.holder 0) [
                  | yes free ↦
                      next_link m s n (head_of m v) (slot_of s n) (sym (same (head_of m v)) ∙ ap (heads_for m (head_of m v)) is ∙ heads_there m v free)
                      ∙ sym (link_later m s slots n is-van new (head_of m v) (suc n) (omega arith) (omega arith))
                      ∙ sym (next_link m (with_slot s n new) n (head_of m v) (present v) (heads_there m v free))
                  | no held ↦ nowhere (present v) is (λ u. heads_held m u v held)
                ]

  pub kept_only : OnlyVans counts mem (van_written mem counts n (standing_words new))
  kept_only = written_only mem (record { long = refl; other = λ a no-first no_van. refl })

  -- a list's link and the van's own are among the words of lists and vans
  relinked_only : (p at r link : ℕ) → p < counts.vertices → (a : ℕ) → LinkAt m counts s p a at → OnlyVans counts mem (relinked mem counts n at r link)
  relinked_only p at r link is_vertex a spot =
      record {
        long = rw (length-set, length-set) refl;
        other = λ i no-first no_van.
            get_or-set_other (set mem at r) (van_address counts n + next_in_van) i link 0 (λ e. no_van n 4 is-van (omega arith) e)
            ∙ get_or-set_other mem at i r 0 (away spot i no-first no_van);
      }
    where
      away : LinkAt m counts s p a at → (i : ℕ) → ((v : ℕ) → v < counts.vertices → i ≡ vertex_address counts v + vans_in_vertex → ⊥)
          → ((x f : ℕ) → x < vans → f < words_in_van → i ≡ van_address counts x + f → ⊥) → i ≡ at → ⊥
      away (vertex_link start e) i no-first no_van same = no-first p is_vertex (same ∙ e)
      away (van_link q after q-van q-heads e) i no-first no_van same = no_van q 4 q-van (omega arith) (same ∙ e)

  module _ (p : ℕ) (is_vertex : p < counts.vertices) where
    spot : Spot m counts s p n (behind mem counts p n)
    spot = behind_spot m counts s slots mem g p is_vertex n (omega arith)

    -- a free van for p becomes one that heads nowhere
    pub parked_out : heads_at m s p n ≡ true → ((v : ℕ) → heads_for m v new ≡ false) → Parked m counts (with_slot s n new) (taken_out mem counts n p (standing_words new))
    unfolding taken_out
    parked_out was away =
        complete m counts n _ (standing_words new) (with_slot s n new) 0
        (but_link m counts (with_slot s n new) n _ 0 _
        (but_linked m counts s slots mem g n is-van new p (behind mem counts p n) (word mem (van_address counts n + next_in_van)) is_vertex spot (next ∙ sym (link_without m s slots n is-van new counts p _ spot (away p))) elsewhere))
        is-van (record_new 0 (sym (no_link m (with_slot s n new) n new away)))
      where
        next : word mem (van_address counts n + next_in_van) ≡ link_from m s p (suc n)
        next = field mem (van_address counts n) words_in_van _ 4 (omega arith) (g.van n is-van ∙ record_of_slot m s n (slot_of s n)) ∙ next_link m s n p (slot_of s n) was

        elsewhere : (v : ℕ) → (v ≡ p → ⊥) → heads_for m v new ≡ heads_at m s v n
        elsewhere v other = away v ∙ sym (one_head m v p (slot_of s n) was other)

    pub out_only : OnlyVans counts mem (taken_out mem counts n p (standing_words new))
    unfolding taken_out
    out_only = written_only _ (relinked_only p (behind mem counts p n) _ 0 is_vertex spot.from spot.link)

    -- a van that heads nowhere becomes a free van for p
    pub parked_in : ((v : ℕ) → heads_at m s v n ≡ false) → heads_for m p new ≡ true → Parked m counts (with_slot s n new) (put_in mem counts n p (standing_words new))
    unfolding put_in
    parked_in was there =
        complete m counts n _ (standing_words new) (with_slot s n new) _
        (but_link m counts (with_slot s n new) n _ _ _
        (but_linked m counts s slots mem g n is-van new p (behind mem counts p n) (n + 1) is_vertex spot (add-one n ∙ sym (link_with m s slots n is-van new counts p _ spot there)) elsewhere))
        is-van (record_new _ next)
      where
        elsewhere : (v : ℕ) → (v ≡ p → ⊥) → heads_for m v new ≡ heads_at m s v n
        elsewhere v other = one_head m v p new there other ∙ sym (was v)

        next : word mem (behind mem counts p n) ≡ link_of m (with_slot s n new) n new
        next =
            link_reads m counts s slots mem g p is_vertex spot.from _ spot.link
            ∙ link_was m s slots n is-van new counts p _ spot (was p)
            ∙ sym (link_later m s slots n is-van new p (suc n) (omega arith) (omega arith))
            ∙ sym (next_link m (with_slot s n new) n p new there)

    pub in_only : OnlyVans counts mem (put_in mem counts n p (standing_words new))
    unfolding put_in
    in_only = written_only _ (relinked_only p (behind mem counts p n) (n + 1) _ is_vertex spot.from spot.link)
