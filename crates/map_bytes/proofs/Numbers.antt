-- Numbers of 2 and of 4 bytes, by their bytes.
-- Assumes nothing.
use mathlib.Core.Path.{◌≡◌, refl, ap, ap₂, ◌∙◌}
use mathlib.Core.List.{List, [], ◌∷◌}
use Prim.Native.Nat.{ℕ, ◌+◌, ◌*◌}
use native.Mathlib.Omega.{arith}
use lib.ListN.{get_or, take, drop}
use Rattle.maps.specs.Bytes.{number, field}

two : (xs : List ℕ) → get_or xs 0 0 + 256 * get_or xs 1 0 ≡ number (take 2 xs)
two [] = refl
two (a ∷ []) = omega arith
two (a ∷ b ∷ xs) = omega arith

four : (xs : List ℕ) → number (take 2 xs) + 65536 * number (take 2 (drop 2 xs)) ≡ number (take 4 xs)
four [] = refl
four (a ∷ []) = omega arith
four (a ∷ b ∷ []) = omega arith
four (a ∷ b ∷ c ∷ []) = omega arith
four (a ∷ b ∷ c ∷ d ∷ xs) = omega arith

-- the bytes from `at` on give the number
pub field_two : (bytes : List ℕ) (at : ℕ) {rest : List ℕ} → rest ≡ drop at bytes → get_or rest 0 0 + 256 * get_or rest 1 0 ≡ field bytes at 2
unfolding field
field_two bytes at {rest} is = two rest ∙ ap (λ (l : List ℕ). number (take 2 l)) is

pub field_four : (bytes : List ℕ) (at : ℕ) {rest : List ℕ} {low high : ℕ} → rest ≡ drop at bytes → low ≡ field rest 0 2 → high ≡ field rest 2 2
    → low + 65536 * high ≡ field bytes at 4
unfolding field
field_four bytes at {rest} is isLow isHigh = ap₂ (λ (x y : ℕ). x + 65536 * y) isLow isHigh ∙ four rest ∙ ap (λ (l : List ℕ). number (take 4 l)) is
