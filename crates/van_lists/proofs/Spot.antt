-- In the memory of a fleet the walk along the links of a vertex stops where a van belongs.
-- Assumes nothing.
use mathlib.Core.Path.{◌≡◌, refl, sym, ◌∙◌, ap}
use mathlib.Core.Bool.{true, false}
use mathlib.Core.List.{List}
use Prim.Native.Nat.{ℕ, zero, suc, ◌+◌, ◌≤◌, ◌<◌}
use native.Mathlib.Omega.{arith}
use native.Mathlib.Decide.{dec_lt}
use lib.ListN.{length}
use borrow.Author.Tests.{eq-eqb}
use Rattle.words.specs.Limits.{vans}
use Rattle.words.specs.Lists.{word}
use Rattle.layout.specs.Layout.{vans_in_vertex, words_in_van, next_in_van}
use Rattle.roads.specs.Map.{Map}
use Rattle.counts.specs.declared.Counts.{Counts}
use Rattle.places.specs.Place.{vertex_address, van_address}
use Rattle.fleet.specs.State.{State, slot_of}
use Rattle.van_lists.specs.Walk.{walk, behind}
use Rattle.van_lists.proofs.Found.{Found, nothing, found}
use Rattle.van_lists.proofs.Links.{heads_at, link_from, link_found, heading, slot_words}
use Rattle.van_lists.proofs.Parked.{Parked, field}
use Rattle.van_lists.proofs.Walk.{walk_stops, walk_on, walk_done}

-- `at` is the address of the link that goes on to the free vans for `p` from number `a` on
pub data LinkAt (m : Map) (counts : Counts) (s : State) (p a at : ℕ) : Type 0 where
  vertex_link : a ≡ 0 → at ≡ vertex_address counts p + vans_in_vertex → LinkAt m counts s p a at
  van_link : (q : ℕ) → a ≡ suc q → q < vans → heads_at m s p q ≡ true → at ≡ van_address counts q + next_in_van → LinkAt m counts s p a at

-- .. and no free van for `p` stands between it and `n`
pub record Spot (m : Map) (counts : Counts) (s : State) (p n at : ℕ) : Type 0 where
  pub from : ℕ
  pub within : from ≤ n
  pub link : LinkAt m counts s p from at
  pub none : (x : ℕ) → from ≤ x → x < n → heads_at m s p x ≡ false

module _ (m : Map) (counts : Counts) (s : State) (slots : length s.vans ≡ vans) (mem : List ℕ) (g : Parked m counts s mem) (p : ℕ) (is_vertex : p < counts.vertices) where
  pub link_reads : (a at : ℕ) → LinkAt m counts s p a at → word mem at ≡ link_from m s p a
  link_reads a at (vertex_link start e) = ap (word mem) e ∙ g.first p is_vertex ∙ ap (link_from m s p) (sym start)
  link_reads a at (van_link q after q-van q-heads e) =
      let h = heading m p (slot_of s q) q-heads in
      ap (word mem) e
      ∙ field mem (van_address counts q) words_in_van (slot_words m s q (slot_of s q)) 4 (omega arith) (g.van q q-van)
      ∙ ap (λ slot. word (slot_words m s q slot) 4) h.is
      ∙ rw (eq-eqb h.van.holder 0 h.free, h.there)
      (ap (link_from m s p) (sym after))

  module _ (n : ℕ) (is-van : n ≤ vans) where
    -- one turn, where the rest of the walk is right
    walk_turn : (left a at : ℕ) → LinkAt m counts s p a at → a ≤ n → n ≤ a + suc left → Found (heads_at m s p) a vans (link_from m s p a)
        → ((b to : ℕ) → LinkAt m counts s p b to → b ≤ n → n ≤ b + left → Spot m counts s p n (walk mem counts n to left))
        → Spot m counts s p n (walk mem counts n at (suc left))
    walk_turn left a at link within far (nothing e none) rest =
        rw (walk_stops mem counts n at (suc left) (λ some. omega (arith, link_reads a at link, e)))
        (record { from = a; within = within; link = link; none = λ x h l. none x h (omega arith) })
    walk_turn left a at link within far (found x e from to passes before) rest =
        elim (dec_lt n (suc x)) [
          | yes past ↦
              rw (walk_stops mem counts n at (suc left) (λ some. omega (arith, reads)))
              (record { from = a; within = within; link = link; none = λ y h l. before y h (omega arith) })
          | no on ↦
              rw (walk_on mem counts n at x left (omega (arith, reads)) (omega arith))
              (rest (suc x) (van_address counts x + next_in_van) (van_link x refl to passes refl) (omega arith) (omega arith))
        ]
      where
        reads : word mem at ≡ suc x
        reads = link_reads a at link ∙ e

    walk_spot : (left a at : ℕ) → LinkAt m counts s p a at → a ≤ n → n ≤ a + left → Spot m counts s p n (walk mem counts n at left)
    walk_spot zero a at link within far =
        rw (walk_done mem counts n at zero (omega arith)) (record { from = a; within = within; link = link; none = λ x h l. absurd (omega arith) })
    walk_spot (suc left) a at link within far = walk_turn left a at link within far (link_found m s slots p a (omega arith)) (walk_spot left)

    pub behind_spot : Spot m counts s p n (behind mem counts p n)
    behind_spot = walk_spot n 0 (vertex_address counts p + vans_in_vertex) (vertex_link refl refl) (omega arith) (omega arith)
