-- Each of the five ways in which a van that stood as `old` says comes to stand as `new` says, over plain values.
-- Assumes nothing.
use mathlib.Core.Path.{◌≡◌, sym, ◌∙◌, ap}
use mathlib.Core.List.{List}
use Prim.Native.Nat.{ℕ}
use borrow.Author.Tests.{eq-eqb, ne_eqb}
use Rattle.counts.specs.declared.Counts.{Counts}
use Rattle.fleet.specs.State.{absent}
use Rattle.van_lists.specs.declared.VanWords.{VanWords}
use Rattle.van_lists.specs.Slot.{standing_words}
use Rattle.van_lists.specs.Walk.{van_written}
use Rattle.road_lookup.specs.Lookup.{end_in}
use Rattle.changes.specs.Made.{van_departed, van_arrived, moved, made}

module _ (mem : List ℕ) (counts : Counts) (van : ℕ) (old new : VanWords) (from to : ℕ) (f : from ≡ end_in mem counts old.road) (t : to ≡ end_in mem counts new.road) (end : List ℕ) where
  pub makes_kept : old.state ≡ 1 → new.state ≡ 1 → from ≡ to → end ≡ van_written mem counts van new → end ≡ made mem counts van old new
  unfolding made moved
  makes_kept was is same e =
      rw (eq-eqb old.state 1 was, eq-eqb new.state 1 is, eq-eqb (end_in mem counts old.road) (end_in mem counts new.road) (sym f ∙ same ∙ t)) e

  pub makes_moved : (out : List ℕ) → old.state ≡ 1 → new.state ≡ 1 → (from ≡ to → ⊥) → out ≡ van_departed mem counts van from (standing_words absent)
      → end ≡ van_arrived out counts van to new → end ≡ made mem counts van old new
  unfolding made moved
  makes_moved out was is other o e =
      rw (eq-eqb old.state 1 was, eq-eqb new.state 1 is, ne_eqb (end_in mem counts old.road) (end_in mem counts new.road) (λ same. other (f ∙ same ∙ sym t))) (e ∙ both)
    where
      out' : out ≡ van_departed mem counts van (end_in mem counts old.road) (standing_words absent)
      out' = o ∙ ap (λ (k : ℕ). van_departed mem counts van k (standing_words absent)) f

      both : van_arrived out counts van to new ≡ van_arrived (van_departed mem counts van (end_in mem counts old.road) (standing_words absent)) counts van (end_in mem counts new.road) new
      both i = van_arrived (out' i) counts van (t i) new

  pub makes_departed : old.state ≡ 1 → (new.state ≡ 1 → ⊥) → end ≡ van_departed mem counts van from new → end ≡ made mem counts van old new
  unfolding made
  makes_departed was is-not e = rw (eq-eqb old.state 1 was, ne_eqb new.state 1 is-not) (e ∙ ap (λ (k : ℕ). van_departed mem counts van k new) f)

  pub makes_arrived : (old.state ≡ 1 → ⊥) → new.state ≡ 1 → end ≡ van_arrived mem counts van to new → end ≡ made mem counts van old new
  unfolding made
  makes_arrived was-not is e = rw (ne_eqb old.state 1 was-not, eq-eqb new.state 1 is) (e ∙ ap (λ (k : ℕ). van_arrived mem counts van k new) t)

  pub makes_written : (old.state ≡ 1 → ⊥) → (new.state ≡ 1 → ⊥) → end ≡ van_written mem counts van new → end ≡ made mem counts van old new
  unfolding made
  makes_written was-not is-not e = rw (ne_eqb old.state 1 was-not, ne_eqb new.state 1 is-not) e
