-- What one offer does to the rows of a part.
-- Assumes nothing.
use mathlib.Core.Path.{◌≡◌, refl, sym, ◌∙◌, subst⁻¹}
use mathlib.Core.Logic.{◌⊎◌, inl, inr, ⊎_elim, ◌≢◌}
use mathlib.Core.List.{List}
use Prim.Native.Nat.{ℕ, ◌+◌, ◌*◌, ◌<◌}
use native.Mathlib.Decide.{dec_lt}
use native.Mathlib.Omega.{arith}
use lib.ListN.{length, set, length-set}
use lib.Seq.{get_or-set_same, get_or-set_other}
use borrow.Author.Tests.{lt-ltb, le-ltb, ne_eqb}
use Rattle.words.specs.Limits.{FAR}
use Rattle.words.specs.Lists.{word}
use Rattle.layout.specs.Layout.{words_in_row}
use Rattle.rows.specs.declared.Row.{Row}
use Rattle.rows.specs.Row.{empty_row, nearer}
use Rattle.rows.specs.Refresh.{onward}
use Rattle.rows.proofs.Order.{nearer_is}
use Rattle.row_words.specs.Words.{row_in, shown}
use Rattle.row_arrivals.specs.Arrival.{improves, offered_to, offered}
use Rattle.row_memory.specs.Kept.{Kept}

-- a row is empty or shows a vertex that reaches
abbrev pub Plain : Row → Type 0
Plain row = (row ≡ empty_row) ⊎ (row.distance < FAR)

pub onward_plain : (row : Row) (d : ℕ) → Plain (onward row d)
unfolding onward
onward_plain row d = by (dec_lt (row.distance + d) FAR)
  where
    by : Dec (row.distance + d < FAR) → Plain (onward row d)
    by (yes near) = rw (lt-ltb (row.distance + d) FAR near) (inr near)
    by (no far) = rw (le-ltb (row.distance + d) FAR (omega (arith, far))) (inl refl)

pub nearer_plain : (a b : Row) → Plain a → Plain b → Plain (nearer a b)
nearer_plain a b p q = ⊎_elim (λ e. subst⁻¹ Plain e p) (λ e. subst⁻¹ Plain e q) (nearer_is a b).one

-- an empty row is nearer than none
pub nearer_empty : (row : Row) → Plain row → nearer empty_row row ≡ row
unfolding nearer
nearer_empty row (inl none) = rw none
nearer_empty row (inr near) = rw (le-ltb FAR row.distance (omega arith), ne_eqb FAR row.distance (omega arith))

-- an offer to a row is a comparison of rows
pub offered_near : (row : Row) (v x d : ℕ) → Plain row → offered_to row v x d ≡ nearer (onward (record { vertex = v; distance = x }) d) row
unfolding offered_to improves nearer onward
offered_near row v x d plain = by (dec_lt (x + d) FAR)
  where
    by : Dec (x + d < FAR) → offered_to row v x d ≡ nearer (onward (record { vertex = v; distance = x }) d) row
    by (yes near) = rw (lt-ltb (x + d) FAR near)
    by (no far) = rw (le-ltb (x + d) FAR (omega (arith, far))) (sym (nearer_empty row plain))

pub shown_row : (mem : List ℕ) (at : ℕ) (row : Row) → at + 1 < length mem → row_in (shown mem at row) at ≡ row
shown_row mem at row fits =
    let a : word (shown mem at row) at ≡ row.vertex =
    get_or-set_other (set mem at row.vertex) (at + 1) at row.distance 0 (omega arith) ∙ get_or-set_same mem at row.vertex 0 (omega arith)
    in
    let b : word (shown mem at row) (at + 1) ≡ row.distance =
    get_or-set_same (set mem at row.vertex) (at + 1) row.distance 0 (omega (arith, length-set mem at row.vertex))
    in
    λ t. record { vertex = a t; distance = b t }

pub shown_others : (mem : List ℕ) (at : ℕ) (row : Row) (a : ℕ) → (a ≡ at → ⊥) → (a ≡ at + 1 → ⊥) → word (shown mem at row) a ≡ word mem a
shown_others mem at row a p q = get_or-set_other (set mem at row.vertex) (at + 1) a row.distance 0 q ∙ get_or-set_other mem at a row.vertex 0 p

pub shown_length : (mem : List ℕ) (at : ℕ) (row : Row) → length (shown mem at row) ≡ length mem
shown_length mem at row = simp length-set

module _ (mem : List ℕ) (to v x d : ℕ) where
  pub offered_row : to + 1 < length mem → Plain (row_in mem to) → row_in (offered mem to v x d) to ≡ nearer (onward (record { vertex = v; distance = x }) d) (row_in mem to)
  unfolding offered
  offered_row fits plain = shown_row mem to (offered_to (row_in mem to) v x d) fits ∙ offered_near (row_in mem to) v x d plain

  pub offered_word : (a : ℕ) → (a ≡ to → ⊥) → (a ≡ to + 1 → ⊥) → word (offered mem to v x d) a ≡ word mem a
  unfolding offered
  offered_word a p q = shown_others mem to (offered_to (row_in mem to) v x d) a p q

  pub offered_length : length (offered mem to v x d) ≡ length mem
  unfolding offered
  offered_length = shown_length mem to (offered_to (row_in mem to) v x d)

-- Only row i of a part's rows changed.
pub record OneRow (rows size i : ℕ) (mem after : List ℕ) : Type 0 where
  pub kept : Kept rows size mem after
  pub others : (k : ℕ) → k ≢ i → row_in after (rows + words_in_row * k) ≡ row_in mem (rows + words_in_row * k)

module _ (rows size : ℕ) where
  pub kept_self : (mem : List ℕ) → Kept rows size mem mem
  kept_self mem = record { long = refl; outside = λ a out. refl }

  pub kept_trans : {a b c : List ℕ} → Kept rows size a b → Kept rows size b c → Kept rows size a c
  kept_trans p q = record { long = q.long ∙ p.long; outside = λ w out. q.outside w out ∙ p.outside w out }

  module _ (i : ℕ) (hi : i < size) where
    -- what writes no other words than the two of row i
    one_row : (mem after : List ℕ) → length after ≡ length mem → ((a : ℕ) → (a ≡ rows + words_in_row * i → ⊥) → (a ≡ rows + words_in_row * i + 1 → ⊥) → word after a ≡ word mem a)
        → OneRow rows size i mem after
    one_row mem after long words =
        record {
          kept = record { long = long; outside = λ a out. words a (out i hi).0 (out i hi).1 };
          others =
              λ k other.
              let p : word after (rows + words_in_row * k) ≡ word mem (rows + words_in_row * k) = words (rows + words_in_row * k) (λ e. other (omega arith)) (λ e. omega arith) in
              let q : word after (rows + words_in_row * k + 1) ≡ word mem (rows + words_in_row * k + 1) = words (rows + words_in_row * k + 1) (λ e. omega arith) (λ e. other (omega arith)) in
              λ t. record { vertex = p t; distance = q t };
        }

    pub one_offered : (mem : List ℕ) (v x d : ℕ) → OneRow rows size i mem (offered mem (rows + words_in_row * i) v x d)
    one_offered mem v x d = one_row mem (offered mem (rows + words_in_row * i) v x d) (offered_length mem (rows + words_in_row * i) v x d) (offered_word mem (rows + words_in_row * i) v x d)

    pub one_shown : (mem : List ℕ) (row : Row) → OneRow rows size i mem (shown mem (rows + words_in_row * i) row)
    one_shown mem row = one_row mem (shown mem (rows + words_in_row * i) row) (shown_length mem (rows + words_in_row * i) row) (shown_others mem (rows + words_in_row * i) row)

    pub one_self : (mem : List ℕ) → OneRow rows size i mem mem
    one_self mem = record { kept = kept_self mem; others = λ k other. refl }
