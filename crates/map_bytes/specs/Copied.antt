-- The numbers of a record's body, copied into words.
use Rattle.std.specs.Prelude.{◌≡◌, List, ℕ, ◌<◌, length}
use Rattle.words.specs.Lists.{word}
use Rattle.maps.specs.Bytes.{number_at}

-- the first n words of `after`, which has as many words as `before`, are the first n numbers of the body
pub record Copied (body : List ℕ) (n : ℕ) (before after : List ℕ) : Type 0 where
  pub room : length after ≡ length before
  pub each : (i : ℕ) → i < n → word after i ≡ number_at body i
