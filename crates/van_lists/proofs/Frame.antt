-- The stores of a van's words, and of the one link that a van belongs behind, on the vans and lists of a fleet.
-- Assumes nothing.
use mathlib.Core.Path.{◌≡◌, refl, sym, ◌∙◌, ap}
use mathlib.Core.Bool.{Bool, true, false, cond}
use mathlib.Core.List.{List}
use Prim.Native.Nat.{ℕ, suc, ◌+◌, ◌≤◌, ◌<◌}
use native.Mathlib.Omega.{arith}
use native.Mathlib.Nat.{add-zero}
use native.Mathlib.Decide.{ℕ_discrete}
use lib.ListN.{length, set, length-set}
use lib.Seq.{get_or-set_same, get_or-set_other}
use lib.Dec.{eqb}
use borrow.Author.Tests.{eqb-true, eq-eqb}
use Rattle.words.specs.Limits.{vans}
use Rattle.words.specs.Lists.{word}
use Rattle.cells.specs.Part.{part}
use Rattle.cells.proofs.Part.{part_own, part_other}
use Rattle.layout.specs.Layout.{vans_in_vertex, words_in_van, road_in_van, offset_in_van, stamp_in_van, next_in_van}
use Rattle.roads.specs.Map.{Map}
use Rattle.counts.specs.declared.Counts.{Counts}
use Rattle.places.specs.Place.{vertex_address, van_address}
use Rattle.fleet.specs.State.{Slot, absent, present, State, slot_of, head_of, heads_for}
use Rattle.van_lists.specs.declared.VanWords.{VanWords}
use Rattle.van_lists.specs.Slot.{standing_words}
use Rattle.van_lists.specs.Walk.{van_written}
use Rattle.van_lists.proofs.Links.{with_slot, heads_at, link_from, Heading, heading, heads_there, record_of, link_of, slot_words}
use Rattle.van_lists.proofs.Parked.{Parked}
use Rattle.van_lists.proofs.Spot.{LinkAt, vertex_link, van_link, Spot}
use Rattle.van_lists.proofs.Relink.{slot_kept, link_elsewhere, link_kept}

-- the vans and lists of fleet `s` but for van `n`, of whose record only the last three words are known, and the link
pub record But (m : Map) (counts : Counts) (s : State) (n link : ℕ) (mem : List ℕ) : Type 0 where
  pub size : van_address counts vans ≤ length mem
  pub first : (v : ℕ) → v < counts.vertices → word mem (vertex_address counts v + vans_in_vertex) ≡ link_from m s v 0
  pub van : (x : ℕ) → x < vans → (x ≡ n → ⊥) → part mem (van_address counts x) words_in_van ≡ slot_words m s x (slot_of s x)
  pub a : ℕ
  pub b : ℕ
  pub c : ℕ
  pub d : ℕ
  pub own : part mem (van_address counts n) words_in_van ≡ record_of a b c d link

pub record_of_slot : (m : Map) (s : State) (n : ℕ) (slot : Slot) → slot_words m s n slot ≡ record_of (standing_words slot).state (standing_words slot).road (standing_words slot).offset (standing_words slot).stamp (link_of m s n slot)
record_of_slot m s n absent = refl
record_of_slot m s n (present v) = refl

-- the van's first four words complete it
module _ (m : Map) (counts : Counts) (n : ℕ) (mem : List ℕ) (w : VanWords) where
  pub written_word : (i : ℕ) → ((k : ℕ) → k < 4 → i ≡ van_address counts n + k → ⊥) → word (van_written mem counts n w) i ≡ word mem i
  written_word i away =
      get_or-set_other l₃ (van_address counts n + stamp_in_van) i w.stamp 0 (away 3 (omega arith))
      ∙ get_or-set_other l₂ (van_address counts n + offset_in_van) i w.offset 0 (away 2 (omega arith))
      ∙ get_or-set_other l₁ (van_address counts n + road_in_van) i w.road 0 (away 1 (omega arith))
      ∙ get_or-set_other mem (van_address counts n) i w.state 0 (λ e. away 0 (omega arith) (e ∙ sym (add-zero (van_address counts n))))
    where
      l₁ : List ℕ
      l₁ = set mem (van_address counts n) w.state

      l₂ : List ℕ
      l₂ = set l₁ (van_address counts n + road_in_van) w.road

      l₃ : List ℕ
      l₃ = set l₂ (van_address counts n + offset_in_van) w.offset

  written_other : (base size : ℕ) → ((f k : ℕ) → f < size → k < 4 → van_address counts n + k ≡ base + f → ⊥)
      → part (van_written mem counts n w) base size ≡ part mem base size
  written_other base size away =
      part_other _ base size (van_address counts n + stamp_in_van) w.stamp (λ f h. away f 3 h (omega arith))
      ∙ part_other _ base size (van_address counts n + offset_in_van) w.offset (λ f h. away f 2 h (omega arith))
      ∙ part_other _ base size (van_address counts n + road_in_van) w.road (λ f h. away f 1 h (omega arith))
      ∙ part_other _ base size (van_address counts n) w.state (λ f h at. away f 0 h (omega arith) (add-zero (van_address counts n) ∙ at))

  written_own : (a b c d e : ℕ) → part mem (van_address counts n) words_in_van ≡ record_of a b c d e
      → part (van_written mem counts n w) (van_address counts n) words_in_van ≡ record_of w.state w.road w.offset w.stamp e
  written_own a b c d e own =
      part_own _ (van_address counts n) words_in_van 3 w.stamp (omega arith)
      ∙ ap (λ (l : List ℕ). set l 3 w.stamp) (part_own _ (van_address counts n) words_in_van 2 w.offset (omega arith))
      ∙ ap (λ (l : List ℕ). set (set l 2 w.offset) 3 w.stamp) (part_own _ (van_address counts n) words_in_van 1 w.road (omega arith))
      ∙ ap (λ (l : List ℕ). set (set (set l 1 w.road) 2 w.offset) 3 w.stamp) (start ∙ ap (λ (l : List ℕ). set l 0 w.state) own)
    where
      start : part (set mem (van_address counts n) w.state) (van_address counts n) words_in_van ≡ set (part mem (van_address counts n) 8) 0 w.state
      start =
          ap (λ (k : ℕ). part (set mem k w.state) (van_address counts n) 8) (sym (add-zero (van_address counts n)))
          ∙ part_own mem (van_address counts n) words_in_van 0 w.state (omega arith)

  pub complete : (s : State) (link : ℕ) → But m counts s n link mem → n < vans → record_of w.state w.road w.offset w.stamp link ≡ slot_words m s n (slot_of s n)
      → Parked m counts s (van_written mem counts n w)
  complete s link but is-van is =
      record {
        size = rw (length-set, length-set, length-set, length-set) but.size;
        first = λ v h. written_word (vertex_address counts v + vans_in_vertex) (λ k small e. omega arith) ∙ but.first v h;
        van = λ x h. elim (ℕ_discrete x n) [
          | yes here ↦ rw here (written_own but.a but.b but.c but.d link but.own ∙ is)
          | no other ↦ written_other (van_address counts x) words_in_van (λ f k hf hk e. omega arith) ∙ but.van x h other
        ];
      }

-- a store to the van's link, where all but its first four words are known
pub but_link : (m : Map) (counts : Counts) (s : State) (n old link : ℕ) (mem : List ℕ) → But m counts s n old mem → But m counts s n link (set mem (van_address counts n + next_in_van) link)
but_link m counts s n old link mem but =
    record {
      size = rw length-set but.size;
      first = λ v h. get_or-set_other mem (van_address counts n + next_in_van) (vertex_address counts v + vans_in_vertex) link 0 (λ e. omega arith) ∙ but.first v h;
      van = λ x h other. part_other mem (van_address counts x) words_in_van (van_address counts n + next_in_van) link (λ f hf e. omega arith) ∙ but.van x h other;
      a = but.a;
      b = but.b;
      c = but.c;
      d = but.d;
      own = part_own mem (van_address counts n) words_in_van 4 link (omega arith) ∙ ap (λ (l : List ℕ). set l 4 link) but.own;
    }

-- the record of a van whose link stays
slot_words_kept : (m : Map) (s t : State) (x : ℕ) (slot : Slot) → ((v : ℕ) → heads_for m v slot ≡ true → link_from m t v (suc x) ≡ link_from m s v (suc x))
    → slot_words m s x slot ≡ slot_words m t x slot
slot_words_kept m s t x absent same = refl
slot_words_kept m s t x (present v) same = ap (record_of (suc v.holder) v.road v.offset v.stamp) (go (eqb v.holder 0) refl)
  where
    go : (free : Bool) → eqb v.holder 0 ≡ free → cond free (link_from m s (head_of m v) (suc x)) 0 ≡ cond free (link_from m t (head_of m v) (suc x)) 0
    go true free = sym (same (head_of m v) (heads_there m v (eqb-true v.holder 0 free)))
    go false held = refl

module _ (m : Map) (counts : Counts) (s : State) (slots : length s.vans ≡ vans) (mem : List ℕ) (g : Parked m counts s mem) (n : ℕ) (is-van : n < vans) (new : Slot) where
  -- nothing is linked anew
  pub but_same : ((v : ℕ) → heads_for m v new ≡ heads_at m s v n) → But m counts (with_slot s n new) n (link_of m s n (slot_of s n)) mem
  but_same same =
      record {
        size = g.size;
        first = λ v h. g.first v h ∙ sym (link_elsewhere m s slots n is-van new v 0 (omega arith) (same v));
        van = λ x h other. g.van x h
            ∙ slot_words_kept m s (with_slot s n new) x (slot_of s x) (λ v there. link_elsewhere m s slots n is-van new v (suc x) (omega arith) (same v))
            ∙ ap (slot_words m (with_slot s n new) x) (sym (slot_kept m s slots n is-van new x other));
        a = (standing_words (slot_of s n)).state;
        b = (standing_words (slot_of s n)).road;
        c = (standing_words (slot_of s n)).offset;
        d = (standing_words (slot_of s n)).stamp;
        own = g.van n is-van ∙ record_of_slot m s n (slot_of s n);
      }

  -- the one link that the van belongs behind is written anew
  module _ (p at r : ℕ) (is_vertex : p < counts.vertices) (spot : Spot m counts s p n at) (right : r ≡ link_from m (with_slot s n new) p spot.from)
      (elsewhere : (v : ℕ) → (v ≡ p → ⊥) → heads_for m v new ≡ heads_at m s v n)
    where
      -- at `b`, which is not that link
      stays : (v b to : ℕ) → (v ≡ p → LinkAt m counts s p b to) → b ≤ vans → (b ≡ spot.from → ⊥) → link_from m (with_slot s n new) v b ≡ link_from m s v b
      stays v b to link h other =
          elim (ℕ_discrete v p) [
            | yes here ↦ rw here (link_kept m s slots n is-van new counts p at spot b to (link here) h other)
            | no away ↦ link_elsewhere m s slots n is-van new v b h (elsewhere v away)
          ]

      first_stays : (v : ℕ) → v < counts.vertices → (v ≡ p → 0 ≡ spot.from → ⊥) → word mem (vertex_address counts v + vans_in_vertex) ≡ link_from m (with_slot s n new) v 0
      first_stays v h other = g.first v h ∙ sym same
        where
          same : link_from m (with_slot s n new) v 0 ≡ link_from m s v 0
          same =
              elim (ℕ_discrete v p) [
                | yes here ↦ stays v 0 (vertex_address counts p + vans_in_vertex) (λ e. vertex_link refl refl) (omega arith) (other here)
                | no away ↦ link_elsewhere m s slots n is-van new v 0 (omega arith) (elsewhere v away)
              ]

      van_stays : (x : ℕ) → x < vans → (x ≡ n → ⊥) → (suc x ≡ spot.from → ⊥) → part mem (van_address counts x) words_in_van ≡ slot_words m (with_slot s n new) x (slot_of (with_slot s n new) x)
      van_stays x h not-n other =
          g.van x h
          ∙ slot_words_kept m s (with_slot s n new) x (slot_of s x) (λ v there. stays v (suc x) (van_address counts x + next_in_van) (link v there) (omega arith) other)
          ∙ ap (slot_words m (with_slot s n new) x) (sym (slot_kept m s slots n is-van new x not-n))
        where
          link : (v : ℕ) → heads_at m s v x ≡ true → v ≡ p → LinkAt m counts s p (suc x) (van_address counts x + next_in_van)
          link v there here = van_link x refl h (rw here at there) refl

      first_after : LinkAt m counts s p spot.from at → (v : ℕ) → v < counts.vertices → word (set mem at r) (vertex_address counts v + vans_in_vertex) ≡ link_from m (with_slot s n new) v 0
      first_after (vertex_link start e) v h =
          elim (ℕ_discrete v p) [
            | yes here ↦ rw (e, here) (get_or-set_same mem (vertex_address counts p + vans_in_vertex) r 0 (omega (arith, g.size)) ∙ right ∙ ap (link_from m (with_slot s n new) p) start)
            | no away ↦ get_or-set_other mem at (vertex_address counts v + vans_in_vertex) r 0 (λ same. omega arith) ∙ first_stays v h (λ here. absurd (away here))
          ]
      first_after (van_link q after q-van q-heads e) v h =
          get_or-set_other mem at (vertex_address counts v + vans_in_vertex) r 0 (λ same. omega arith) ∙ first_stays v h (λ here zero_is. omega arith)

      van_after : LinkAt m counts s p spot.from at → (x : ℕ) → x < vans → (x ≡ n → ⊥)
          → part (set mem at r) (van_address counts x) words_in_van ≡ slot_words m (with_slot s n new) x (slot_of (with_slot s n new) x)
      van_after (vertex_link start e) x h not-n = part_other mem (van_address counts x) words_in_van at r (λ f small same. omega arith) ∙ van_stays x h not-n (λ same. omega arith)
      van_after (van_link q after q-van q-heads e) x h not-n =
          elim (ℕ_discrete x q) [
            | yes here ↦ rw (e, here)
                (part_own mem (van_address counts q) words_in_van 4 r (omega arith)
                ∙ ap (λ (l : List ℕ). set l 4 r) (g.van q q-van)
                ∙ ap (λ slot. set (slot_words m s q slot) 4 r) there.is
                ∙ ap (record_of (suc there.van.holder) there.van.road there.van.offset there.van.stamp) linked
                ∙ ap (slot_words m (with_slot s n new) q) (sym (slot_kept m s slots n is-van new q (λ k. not-n (here ∙ k)) ∙ there.is)))
            | no away ↦ part_other mem (van_address counts x) words_in_van at r (λ f small same. omega arith) ∙ van_stays x h not-n (λ same. omega arith)
          ]
        where
          there : Heading m p (slot_of s q)
          there = heading m p (slot_of s q) q-heads

          linked : r ≡ link_of m (with_slot s n new) q (present there.van)
          linked = rw (eq-eqb there.van.holder 0 there.free, there.there) (right ∙ ap (link_from m (with_slot s n new) p) after)

      own_after : LinkAt m counts s p spot.from at → part (set mem at r) (van_address counts n) words_in_van ≡ slot_words m s n (slot_of s n)
      own_after (vertex_link start e) = part_other mem (van_address counts n) words_in_van at r (λ f small same. omega arith) ∙ g.van n is-van
      own_after (van_link q after q-van q-heads e) = part_other mem (van_address counts n) words_in_van at r (λ f small same. omega (arith, spot.within)) ∙ g.van n is-van

      pub but_linked : But m counts (with_slot s n new) n (link_of m s n (slot_of s n)) (set mem at r)
      but_linked =
          record {
            size = rw length-set g.size;
            first = first_after spot.link;
            van = van_after spot.link;
            a = (standing_words (slot_of s n)).state;
            b = (standing_words (slot_of s n)).road;
            c = (standing_words (slot_of s n)).offset;
            d = (standing_words (slot_of s n)).stamp;
            own = own_after spot.link ∙ record_of_slot m s n (slot_of s n);
          }
