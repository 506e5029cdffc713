-- Refusals 6 and 7, for a change as for a question: each of the three ways through them.
-- Assumes nothing.
use mathlib.Core.Path.{◌≡◌, refl}
use mathlib.Core.Logic.{◌≢◌}
use mathlib.Core.Bool.{Bool, true, false}
use mathlib.Core.List.{List}
use Prim.Native.Nat.{ℕ}
use Rattle.words.proofs.Tests.{clash}
use Rattle.fleet.specs.Change.{Answer, refused, number_of}
use Rattle.calls.specs.Head.{opened}
use Rattle.calls.specs.Outcome.{Screened}

module _ {mem : List ℕ} {fits : Bool} where
  pub screened_unopened : opened mem ≡ false → Screened mem fits (refused 6)
  screened_unopened shut = record { unopened = λ e. refl; range = λ there out. absurd (clash there shut); neither = λ there fit. absurd (clash there shut) }

  pub screened_range : opened mem ≡ true → fits ≡ false → Screened mem fits (refused 7)
  screened_range there out = record { unopened = λ shut. absurd (clash there shut); range = λ e o. refl; neither = λ e fit. absurd (clash fit out) }

  pub screened_neither : {answer : Answer} → opened mem ≡ true → fits ≡ true → (number_of answer ≢ 6) × (number_of answer ≢ 7) → Screened mem fits answer
  screened_neither there fit other = record { unopened = λ shut. absurd (clash there shut); range = λ e out. absurd (clash fit out); neither = λ e f. other }
