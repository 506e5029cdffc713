-- Keys that rows give to the children that they lie in, the parts that wait, and the least key of these.
use Rattle.std.specs.Prelude.{◌≡◌, ◌⊎◌, ◌≢◌, Bool, cond, ◌&&◌, List, [], ◌∷◌, ℕ, ◌+◌, ◌≤◌, ◌<◌, min, length, leb, ltb}
use Rattle.words.specs.Limits.{FAR}
use Rattle.words.specs.Lists.{word}
use Rattle.row_lists.specs.Rows.{child_at, below_at, near_at}

-- a part with this key had none
unfoldable pub is_new : List ℕ → ℕ → ℕ → Bool
is_new keys part key = ltb key FAR && leb FAR (word keys part)

-- how many parts have no key
unfoldable pub far_count : List ℕ → ℕ
far_count [] = 0
far_count (x ∷ xs) = cond (leb FAR x) 1 0 + far_count xs

-- the key that row i gives: the distance that the row further down shows, and on from there
unfoldable pub key_of : List ℕ → ℕ → List ℕ → ℕ → ℕ
key_of mem first dx i = min (below_at mem first i + near_at mem first dx i) FAR

-- Some rows have given keys. The parts that wait are the first n of `waits`; those that had no key join them.
pub record Spread (mem : List ℕ) (first : ℕ) (dx : List ℕ) (Given : ℕ → Type 0) (keys waits : List ℕ) (n : ℕ) (keys' waits' : List ℕ) (n' : ℕ) : Type 0 where
  pub total : far_count keys' + n' ≤ far_count keys + n
  pub keys_length : length keys' ≡ length keys
  pub waits_length : length waits' ≡ 512
  pub grows : n ≤ n'
  pub no_more : (q : ℕ) → word keys' q ≤ word keys q
  pub bound : (i : ℕ) → Given i → key_of mem first dx i < FAR → word keys' (child_at mem first i) ≤ key_of mem first dx i
  pub kept : (t : ℕ) → t < n → word waits' t ≡ word waits t
  pub new : (t : ℕ) → n ≤ t → t < n' → (i : ℕ) × Given i × (word waits' t ≡ child_at mem first i) × (FAR ≤ word keys (child_at mem first i))
  pub joined : (q : ℕ) → word keys' q < FAR → (word keys q < FAR) ⊎ ((t : ℕ) × (n ≤ t) × (t < n') × (word waits' t ≡ q))
  -- those that join have a key, and no two of them are one part
  pub has_key : (t : ℕ) → n ≤ t → t < n' → word keys' (word waits' t) < FAR
  pub differ : (t u : ℕ) → n ≤ t → t < u → u < n' → word waits' t ≢ word waits' u

-- the key of the t-th part that waits
unfoldable pub key_at : List ℕ → List ℕ → ℕ → ℕ
key_at keys waits t = word keys (word waits t)

-- the least key of the parts that wait, from the one at `from` on, and its place
pub record Nearest (keys waits : List ℕ) (from n key at : ℕ) : Type 0 where
  pub most : key ≤ FAR
  pub below : (t : ℕ) → from ≤ t → t < n → key ≤ key_at keys waits t
  pub place : key < FAR → (from ≤ at) × (at < n) × (key ≡ key_at keys waits at)
