-- n words 0 stored from `at` on.
use Rattle.std.specs.Prelude.{ℕ, List, replicate}
use Rattle.std.proofs.lemmas.List.Edits.{sets}

unfoldable pub cleared : List ℕ → ℕ → ℕ → List ℕ
cleared mem at n = sets mem at (replicate n 0)
