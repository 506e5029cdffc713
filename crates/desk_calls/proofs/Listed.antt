-- The answer words of a list show each of its vans, and so the lines of all.
-- Assumes nothing.
use mathlib.Core.Path.{◌≡◌, refl, sym, ap, ◌∙◌}
use mathlib.Core.List.{List, [], ◌∷◌, ◌++◌, map, map-append}
use Prim.Native.Nat.{ℕ, zero, suc, ◌+◌, ◌*◌, ◌≤◌, ◌<◌}
use native.Mathlib.Omega.{arith}
use lib.ListN.{length, get_or, take}
use lib.Seq.{take-suc}
use Rattle.words.specs.Lists.{gather}
use Rattle.fleet.specs.Question.{Listed, listed_words}
use Rattle.desk_lines.specs.Desk.{van_line}
use Rattle.desk_calls.specs.Listed.{listed_at, van_lines}

past_three : (a b c : ℕ) (words : List ℕ) (n m : ℕ) → n ≡ m + 3 → get_or (a ∷ b ∷ c ∷ words) n 0 ≡ get_or words m 0
past_three a b c words n m e = let f : n ≡ suc (suc (suc m)) = omega arith in ap (λ (k : ℕ). get_or (a ∷ b ∷ c ∷ words) k 0) f

pub listed_shown : (list : List Listed) (after : List ℕ) (d : Listed) (i : ℕ) → i < length list → listed_at (gather listed_words list ++ after) i ≡ get_or list i d
listed_shown [] after d i h = absurd (omega arith)
listed_shown (l ∷ list) after d zero h = refl
listed_shown (l ∷ list) after d (suc i) h =
    let past = past_three l.van l.distance l.stamp (gather listed_words list ++ after) in
    (λ j. record { van = past (3 * suc i) (3 * i) (omega arith) j; distance = past (3 * suc i + 1) (3 * i + 1) (omega arith) j; stamp = past (3 * suc i + 2) (3 * i + 2) (omega arith) j })
    ∙ listed_shown list after d i (omega arith)

-- the lines of the first n vans
pub lines_shown : (place : ℕ) (list : List Listed) (after : List ℕ) (n : ℕ) → n ≤ length list → van_lines place (gather listed_words list ++ after) n ≡ map (van_line place) (take n list)
unfolding van_lines
lines_shown place list after zero h = refl
lines_shown place list after (suc n) h =
    let d : Listed = record { van = 0; distance = 0; stamp = 0 } in
    (λ i. lines_shown place list after n (omega arith) i ++ (van_line place (listed_shown list after d n (omega arith) i) ∷ []))
    ∙ sym (ap (map (van_line place)) (take-suc list n d (omega arith)) ∙ map-append (van_line place) (take n list) (get_or list n d ∷ []))
