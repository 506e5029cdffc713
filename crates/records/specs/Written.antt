-- Records of `size` words each stand one after the other from `base` on. Those with the numbers from `low` on below `high` are written,
-- and no other word has changed.
use Rattle.std.specs.Prelude.{◌≡◌, List, ℕ, ◌+◌, ◌*◌, ◌≤◌, ◌<◌, length}
use Rattle.words.specs.Lists.{word}

-- the address i is word w of one of these records
pub record InRecords (base size low high i : ℕ) : Type 0 where
  pub number : ℕ
  pub at : ℕ
  pub from : low ≤ number
  pub to : number < high
  pub inside : at < size
  pub place : i ≡ base + size * number + at

-- `record_of` gives the words of each record
pub record Written (base size low high : ℕ) (record_of : ℕ → List ℕ) (mem mem' : List ℕ) : Type 0 where
  pub long : length mem' ≡ length mem
  pub right : (k w : ℕ) → low ≤ k → k < high → w < size → word mem' (base + size * k + w) ≡ word (record_of k) w
  pub kept : (i : ℕ) → (InRecords base size low high i → ⊥) → word mem' i ≡ word mem i
