-- Bytes stored one after the other. A store past the end changes nothing.
use Rattle.std.specs.Prelude.{◌≡◌, List, ℕ, ◌+◌, length}
use Rattle.std.proofs.lemmas.List.Edits.{sets}

-- `new` was stored in `out` from `at` on, up to `end`
pub record Wrote (out : List ℕ) (at : ℕ) (new : List ℕ) (end : ℕ) (out' : List ℕ) : Type 0 where
  pub ends : end ≡ at + length new
  pub bytes : out' ≡ sets out at new
