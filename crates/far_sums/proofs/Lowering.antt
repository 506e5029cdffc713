-- A word made less: what it is then, and what the others are.
-- Assumes nothing.
use mathlib.Core.Path.{◌≡◌, ap, ◌∙◌}
use mathlib.Core.Logic.{◌⊎◌, inl, inr, ⊎_elim}
use mathlib.Core.List.{List}
use Prim.Native.Nat.{ℕ, ◌≤◌, ◌<◌, min}
use native.Mathlib.Decide.{dec_lt, ℕ_discrete}
use native.Mathlib.Omega.{arith}
use lib.ListN.{length, set, length-set, get_or-eq_default}
use lib.Seq.{get_or-set_same, get_or-set_other, set-get_or}
use Rattle.words.specs.Lists.{word}
use Rattle.cells.specs.Lowered.{lowered}

module _ (words : List ℕ) (i x : ℕ) where
  pub lowered_set : x < word words i → lowered words i x ≡ set words i x
  lowered_set h = ap (set words i) (omega arith)

  pub lowered_same : word words i ≤ x → lowered words i x ≡ words
  lowered_same h = let e : min (word words i) x ≡ word words i = omega arith in ap (set words i) e ∙ set-get_or words i 0

  pub lowered_length : length (lowered words i x) ≡ length words
  lowered_length = by (dec_lt x (word words i))
    where
      by : Dec (x < word words i) → length (lowered words i x) ≡ length words
      by (yes less) = ap length (lowered_set less) ∙ length-set words i x
      by (no more) = ap length (lowered_same (omega (arith, more)))

  -- the lesser of both, written in any case
  pub lowered_lesser : {least : ℕ} → least ≡ min x (word words i) → set words i least ≡ lowered words i x
  lowered_lesser isLeast = ap (set words i) (omega arith)

  -- a word that is not 0 stands within
  within : x < word words i → i < length words
  within less = by (dec_lt i (length words))
    where
      by : Dec (i < length words) → i < length words
      by (yes h) = h
      by (no out) =
          let past : length words ≤ i = omega (arith, out) in
          let zero' : word words i ≡ 0 = get_or-eq_default words 0 past in
          absurd (omega arith)

  -- a word stays, or it is the one made less
  lowered_at : (u : ℕ) → (word (lowered words i x) u ≡ word words u) ⊎ ((u ≡ i) × (word (lowered words i x) u ≡ x) × (x < word words i))
  lowered_at u = by (dec_lt x (word words i)) (ℕ_discrete u i)
    where
      by : Dec (x < word words i) → Dec (u ≡ i) → (word (lowered words i x) u ≡ word words u) ⊎ ((u ≡ i) × (word (lowered words i x) u ≡ x) × (x < word words i))
      by (no more) d = inl (ap (λ (l : List ℕ). word l u) (lowered_same (omega (arith, more))))
      by (yes less) (yes same) =
          inr (same, ap (λ (l : List ℕ). word l u) (lowered_set less) ∙ ap (word (set words i x)) same ∙ get_or-set_same words i x 0 (within less), less)
      by (yes less) (no other) = inl (ap (λ (l : List ℕ). word l u) (lowered_set less) ∙ get_or-set_other words i u x 0 other)

  pub lowered_where : (u : ℕ) → (word (lowered words i x) u ≡ word words u) ⊎ (u ≡ i)
  lowered_where u = ⊎_elim inl (λ (same, e, less). inr same) (lowered_at u)

  pub lowered_no_more : (u : ℕ) → word (lowered words i x) u ≤ word words u
  lowered_no_more u = ⊎_elim (λ e. omega arith) (λ (same, e, less). omega (arith, ap (word words) same)) (lowered_at u)

  pub lowered_here : word (lowered words i x) i ≤ x
  lowered_here = by (dec_lt x (word words i)) (lowered_at i)
    where
      by : Dec (x < word words i) → (word (lowered words i x) i ≡ word words i) ⊎ ((i ≡ i) × (word (lowered words i x) i ≡ x) × (x < word words i)) → word (lowered words i x) i ≤ x
      by (no more) e = omega (arith, ap (λ (l : List ℕ). word l i) (lowered_same (omega (arith, more))), more)
      by (yes less) (inr t) = omega (arith, t.1)
      by (yes less) (inl e) = omega (arith, ap (λ (l : List ℕ). word l i) (lowered_set less), get_or-set_same words i x 0 (within less))

  -- what is at most the word, and at most x where it is the one made less, still is
  pub lowered_honest : (bound u : ℕ) → bound ≤ word words u → (u ≡ i → bound ≤ x) → bound ≤ word (lowered words i x) u
  lowered_honest bound u h k = ⊎_elim (λ e. omega arith) (λ (same, e, less). omega (arith, k same)) (lowered_at u)

  -- what is below a limit now was before, or is the one made less
  pub lowered_found : (limit u : ℕ) → word (lowered words i x) u < limit → (word words u < limit) ⊎ ((u ≡ i) × (x < word words i) × (x < limit))
  lowered_found limit u h = ⊎_elim (λ e. inl (omega arith)) (λ (same, e, less). inr (same, less, omega arith)) (lowered_at u)
