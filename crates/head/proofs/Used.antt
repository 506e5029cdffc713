-- What the number of words used tells of the head, and of a memory that shows a fleet.
-- Assumes nothing.
use mathlib.Core.Path.{◌≡◌, ap, ◌∙◌}
use mathlib.Core.Logic.{inl, inr}
use mathlib.Core.Bool.{true, false}
use mathlib.Core.List.{List}
use Prim.Native.Nat.{ℕ}
use lib.ListN.{take}
use Rattle.std.specs.Prelude.{Result, Ok, Err}
use Rattle.words.proofs.Tests.{true_or_false}
use Rattle.roads.specs.Map.{Map}
use Rattle.answers.specs.declared.Refusal.{Refusal}
use Rattle.answers.specs.declared.Refusal.TheVariants.{NotOpened}
use Rattle.fleet.specs.State.{State}
use Rattle.image.specs.Image.{image}
use Rattle.calls.specs.Head.{opened, used_of, Shows}
use Rattle.calls.proofs.Head.{used_word}
use Rattle.head.specs.Used.{used_words}

-- so many words are used of an opened memory
pub record Used (mem : List ℕ) (used : ℕ) : Type 0 where
  pub there : opened mem ≡ true
  pub is : used ≡ used_of mem

abbrev Same : Result ℕ Refusal → Result ℕ Refusal → Type 0
Same a b = a ≡ b

module _ (mem : List ℕ) where
  pub used_there : (used : ℕ) → Ok used ≡ used_words mem → Used mem used
  used_there used e = elim (true_or_false (opened mem)) [
    | inl there ↦ let is : Same (Ok used) (Ok (used_of mem)) = e ∙ rw there in record { there = there; is = cc }
    | inr shut ↦ let is : Same (Ok used) (Err NotOpened) = e ∙ rw shut in absurd cc
  ]

  -- a memory with no opened head
  pub unused : (refusal : Refusal) → Err refusal ≡ used_words mem → (opened mem ≡ false) × (refusal ≡ NotOpened)
  unused refusal e = elim (true_or_false (opened mem)) [
    | inl there ↦ let is : Same (Err refusal) (Ok (used_of mem)) = e ∙ rw there in absurd cc
    | inr shut ↦ let is : Same (Err refusal) (Err NotOpened) = e ∙ rw shut in (shut, cc)
  ]

  -- the words used of a memory that shows a fleet are the fleet's
  pub used_shown : (used : ℕ) (m : Map) (s : State) → Used mem used → Shows m s mem → take used mem ≡ image m s
  used_shown used m s u shows = ap (λ (n : ℕ). take n mem) (u.is ∙ used_word shows) ∙ shows.words
