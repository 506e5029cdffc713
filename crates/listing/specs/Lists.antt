-- The numbers below a limit that pass a test, as the first entries of a list.
use Rattle.std.specs.Prelude.{◌≡◌, Bool, true, List, ℕ, ◌≤◌, ◌<◌, length, take}
use Rattle.words.specs.Lists.{word, up_to, keep}

-- each entry is below `size`
abbrev pub EachBelow : ℕ → List ℕ → Type 0
EachBelow size numbers = (k : ℕ) → k < length numbers → word numbers k < size

-- i is one of the first `count` numbers of a list
abbrev pub Among : List ℕ → ℕ → ℕ → Type 0
Among list count i = (t : ℕ) × (t < count) × (word list t ≡ i)

-- the first `count` numbers of a list are those below `done` that pass a test
pub record Lists (test : ℕ → Bool) (done : ℕ) (list : List ℕ) (count : ℕ) : Type 0 where
  pub few : count ≤ done
  pub all : (i : ℕ) → i < done → test i ≡ true → Among list count i
  pub only : (t : ℕ) → t < count → (word list t < done) × (test (word list t) ≡ true)
  pub these : take count list ≡ keep test (up_to done)
  pub rise : (s t : ℕ) → s < t → t < count → word list s < word list t
