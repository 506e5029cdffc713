-- A vertex offered to a row, and to a line of rows.
-- Assumes nothing.
use mathlib.Core.Path.{◌≡◌, refl, sym, ◌∙◌, ap}
use mathlib.Core.Bool.{◌&&◌, cond}
use mathlib.Core.List.{List}
use mathlib.Core.Logic.{inl, inr}
use Prim.Native.Nat.{ℕ, zero, suc, ◌+◌, ◌/◌, ◌%◌, ◌≤◌, ◌<◌, min}
use native.Mathlib.Decide.{ℕ_discrete, dec_lt}
use native.Mathlib.Omega.{arith}
use lib.ListN.{get_or, set}
use lib.Dec.{eqb, ltb}
use borrow.Author.Tests.{lt-ltb, le-ltb, eq-eqb, ne_eqb}
use Rattle.words.specs.Limits.{FAR}
use Rattle.words.proofs.Tests.{PairBefore, pair_if}
use Rattle.rows.specs.declared.Row.{Row}
use Rattle.row_words.specs.Words.{shown, placed, unplaced}
use Rattle.row_arrivals.specs.Arrival.{improves, offered_to, offered, placed_seen, spread}
use Rattle.row_words.proofs.Words.{placed_row}

-- An offer.
module _ (v x d : ℕ) where
  module _ (row seen : ℕ) (e : seen ≡ placed_seen v x d) (small : v < 4294967296) (fits : row < 18446744073709551616) where
    nearer_taken : seen < row → unplaced seen ≡ offered_to (unplaced row) v x d
    unfolding placed_seen offered_to improves
    nearer_taken less = by (dec_lt (x + d) FAR)
      where
        by : Dec (x + d < FAR) → unplaced seen ≡ offered_to (unplaced row) v x d
        by (no far) = let s : (seen ≡ 18446744073709551615) = e ∙ rw (le-ltb (x + d) FAR (omega (arith, far))) in absurd (omega arith)
        by (yes near) =
            let s : (seen ≡ placed v (x + d)) = e ∙ rw (lt-ltb (x + d) FAR near) in
            rw (lt-ltb (x + d) FAR near, pair_if (x + d) v (row / 4294967296) (row % 4294967296) (before s (dec_lt (x + d) (row / 4294967296)))) (ap unplaced s ∙ placed_row v (x + d) small)
          where
            before : seen ≡ placed v (x + d) → Dec (x + d < row / 4294967296) → PairBefore (x + d) v (row / 4294967296) (row % 4294967296)
            before s (yes nearer) = inl nearer
            before s (no tie) = inr (omega (arith, tie), omega (arith, tie))

    nearer_left : row ≤ seen → unplaced row ≡ offered_to (unplaced row) v x d
    unfolding placed_seen offered_to improves
    nearer_left most = by (dec_lt (x + d) FAR)
      where
        by : Dec (x + d < FAR) → unplaced row ≡ offered_to (unplaced row) v x d
        by (no far) = rw (le-ltb (x + d) FAR (omega (arith, far)))
        by (yes near) =
            let s : (seen ≡ placed v (x + d)) = e ∙ rw (lt-ltb (x + d) FAR near) in
            rw (lt-ltb (x + d) FAR near, le-ltb (x + d) (row / 4294967296) (omega arith)) (tie s (ℕ_discrete (x + d) (row / 4294967296)))
          where
            tie : seen ≡ placed v (x + d) → Dec (x + d ≡ row / 4294967296) → unplaced row ≡ cond (eqb (x + d) (row / 4294967296) && ltb v (row % 4294967296)) (record { vertex = v; distance = x + d }) (unplaced row)
            tie s (yes same) = rw (eq-eqb (x + d) (row / 4294967296) same, le-ltb v (row % 4294967296) (omega arith))
            tie s (no other) = rw (ne_eqb (x + d) (row / 4294967296) other)

    -- the lesser of the two
    pub nearer_least : (least : ℕ) → least ≡ min seen row → unplaced least ≡ offered_to (unplaced row) v x d
    nearer_least least m = by (dec_lt seen row)
      where
        by : Dec (seen < row) → unplaced least ≡ offered_to (unplaced row) v x d
        by (yes less) = let same : least ≡ seen = omega arith in ap unplaced same ∙ nearer_taken less
        by (no more) = let same : least ≡ row = omega (arith, more) in ap unplaced same ∙ nearer_left (omega (arith, more))

  pub offered_is : (mem : List ℕ) (to old new : ℕ) (row : Row) → (old % 4294967296 ≡ get_or mem to 0) × (old / 4294967296 ≡ get_or mem (to + 1) 0) → unplaced new ≡ offered_to (unplaced old) v x d → row ≡ unplaced new
      → set (set mem to row.vertex) (to + 1) row.distance ≡ offered mem to v x d
  unfolding offered
  offered_is mem to old new row p q r =
      let a = p.0 in let b = p.1 in ap (shown mem to) (r ∙ q ∙ λ t. offered_to (record { vertex = a t; distance = b t }) v x d)

-- One turn of a loop does one step of its model, and where nothing is left the model is done.

pub spread_turn : (n left : ℕ) (mem end : List ℕ) (row to next at after v x : ℕ) → left ≡ suc n → row ≡ to → next ≡ to + 4 → after ≡ at + 1 → end ≡ offered mem row v x (get_or mem at 0)
    → spread n end next after v x ≡ spread left mem to at v x
unfolding spread
spread_turn n left mem end row to next at after v x e r t a q =
    (λ j. spread n ((q ∙ ap (λ (k : ℕ). offered mem k v x (get_or mem at 0)) r) j) (t j) (a j) v x) ∙ sym (ap (λ (l : ℕ). spread l mem to at v x) e)

pub spread_done : (left : ℕ) (mem : List ℕ) (to at v x : ℕ) → left ≤ 0 → spread left mem to at v x ≡ mem
unfolding spread
spread_done zero mem to at v x none = refl
spread_done (suc n) mem to at v x none = absurd (omega arith)
