-- What waits at a place, and the least label of those before it.
-- Assumes nothing.
use mathlib.Core.Path.{◌≡◌, ap}
use mathlib.Core.List.{List}
use Prim.Native.Nat.{ℕ, ◌+◌, ◌≤◌, ◌<◌}
use native.Mathlib.Decide.{dec_lt}
use native.Mathlib.Omega.{arith}
use lib.ListN.{get_or, get_or-map}
use Rattle.std.specs.Prelude.{map}
use Rattle.words.specs.Lists.{word}
use Rattle.near_vans.specs.declared.front.WaitingVertex.{WaitingVertex}
use Rattle.near_vans.specs.Around.{LeastLabel}

pub label_at : (ws : List WaitingVertex) (i : ℕ) → word (map (λ w. w.label) ws) i ≡ (get_or ws i (record { label = 0; vertex = 0 })).label
label_at ws i = get_or-map (λ (w : WaitingVertex). w.label) ws i (record { label = 0; vertex = 0 })

pub vertex_at : (ws : List WaitingVertex) (i : ℕ) → word (map (λ w. w.vertex) ws) i ≡ (get_or ws i (record { label = 0; vertex = 0 })).vertex
vertex_at ws i = get_or-map (λ (w : WaitingVertex). w.vertex) ws i (record { label = 0; vertex = 0 })

-- The least label.

pub least_first : (labels : List ℕ) → LeastLabel labels 1 0
least_first labels = record { is_place = omega arith; least = λ i h. omega (arith, ap (word labels) (first i h)) }
  where
    first : (i : ℕ) → i < 1 → 0 ≡ i
    first i h = omega arith

module _ (labels : List ℕ) (i place low : ℕ) (so_far : LeastLabel labels i place) (is-low : low ≡ word labels place) where
  before_or_here : (p : ℕ) → p < i + 1 → (P : Type 0) → (p < i → P) → (p ≡ i → P) → P
  before_or_here p hp P before here = elim (dec_lt p i) [ yes less ↦ before less | no past ↦ here (omega arith) ]

  pub least_less : word labels i < low → LeastLabel labels (i + 1) i
  least_less less =
      record {
        is_place = omega arith;
        least = λ p hp. before_or_here p hp (word labels i ≤ word labels p) (λ h. omega (arith, so_far.least p h)) (λ same. omega (arith, ap (word labels) same));
      }

  pub least_same : low ≤ word labels i → LeastLabel labels (i + 1) place
  least_same more =
      record {
        is_place = omega (arith, so_far.is_place);
        least = λ p hp. before_or_here p hp (word labels place ≤ word labels p) (λ h. so_far.least p h) (λ same. omega (arith, ap (word labels) same));
      }
