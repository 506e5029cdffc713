-- What is left in the window: moved to its start, and after bytes that are taken.
-- Assumes nothing.
use mathlib.Core.Path.{◌≡◌, sym, ap, ◌∙◌}
use mathlib.Core.List.{List, [], ◌∷◌}
use Prim.Native.Nat.{ℕ, zero, suc, ◌+◌, ◌-◌}
use native.Mathlib.Omega.{arith}
use lib.ListN.{take, drop}
use lib.Seq.{take-nil, drop-drop}

-- a part of a part
pub take_drop : (k n : ℕ) (l : List ℕ) → take (n - k) (drop k l) ≡ drop k (take n l)
take_drop zero n l = ap (λ (i : ℕ). take i l) (let same : n - 0 ≡ n = omega arith in same)
take_drop (suc k) zero l = ap (λ (i : ℕ). take i (drop (suc k) l)) (let same : 0 - suc k ≡ 0 = omega arith in same)
take_drop (suc k) (suc n) [] = take-nil (suc n - suc k)
take_drop (suc k) (suc n) (x ∷ l) = ap (λ (i : ℕ). take i (drop k l)) (let same : suc n - suc k ≡ n - k = omega arith in same) ∙ take_drop k n l

-- bytes are taken of those from `from` to `to`
pub part_left : (from to taken : ℕ) (window : List ℕ) → take (to - (from + taken)) (drop (from + taken) window) ≡ drop taken (take (to - from) (drop from window))
part_left from to taken window =
    take_drop (from + taken) to window ∙ sym (drop-drop taken from (take to window)) ∙ ap (drop taken) (sym (take_drop from to window))
