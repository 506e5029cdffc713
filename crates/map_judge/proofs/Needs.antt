-- The words that the tables and rows of all parts need, summed part by part.
-- Assumes nothing.
use mathlib.Core.Path.{◌≡◌, refl, sym, ap, ◌∙◌}
use mathlib.Core.List.{List, map}
use Prim.Native.Nat.{ℕ, zero, suc, ◌+◌, ◌*◌, ◌<◌, ◌≤◌}
use native.Mathlib.Nat.{mul-le-mul}
use native.Mathlib.Omega.{arith}
use lib.ListN.{length, take}
use Rattle.std.specs.List.{sum_by}
use Rattle.std.proofs.lemmas.List.Sums.{sum_by_more}
use Rattle.words.specs.Limits.{most_borders}
use Rattle.words.specs.Lists.{up_to, word, sum}
use Rattle.words.proofs.Lists.{sum_times}
use Rattle.words.proofs.Sums.{sum_last}
use Rattle.words.proofs.Tested.{sum_counted, sum_both}
use Rattle.roads.specs.Map.{Map, part_count, road_count}
use Rattle.parts.specs.Size.{size_of, table_words_below, rows_below, table_words, row_count, need}
use Rattle.map_borders.specs.Sizes.{Sizes}
use Rattle.map_parts.specs.Bodies.{the_counts}
use Rattle.map_judge.specs.Need.{size_words, tables_and_rows, need_of}

-- a part of at most 128 rows
size_few : (size : ℕ) → size ≤ most_borders → size_words size ≤ 16896
size_few size h = let square : size * size ≤ 16384 = mul-le-mul h h in omega arith

-- the words of the first n parts
module _ (sizes : List ℕ) where
  more : (n : ℕ) → n < length sizes → sum_by size_words (take (suc n) sizes) ≡ sum_by size_words (take n sizes) + size_words (word sizes n)
  more n h = ap (λ (k : ℕ). sum_by size_words (take k sizes)) (let next : suc n ≡ n + 1 = omega arith in next) ∙ sum_by_more size_words sizes n 0 h

  pub words_sum : (n : ℕ) → n ≤ length sizes → sum_by size_words (take n sizes) ≡ tables_and_rows sizes n
  unfolding tables_and_rows
  words_sum zero h = refl
  words_sum (suc n) h =
      more n (omega arith) ∙ ap (λ (k : ℕ). k + size_words (word sizes n)) (words_sum n (omega arith)) ∙ sym (sum_last (λ p. size_words (word sizes p)) n)

  pub words_few : (n : ℕ) → n ≤ length sizes → ((p : ℕ) → p < n → word sizes p ≤ most_borders) → sum_by size_words (take n sizes) ≤ 16896 * n
  words_few zero h small = omega arith
  words_few (suc n) h small =
      omega (arith, more n (omega arith), words_few n (omega arith) (λ p less. small p (omega arith)), size_few (word sizes n) (small n (omega arith)))

-- the sizes of the parts of a map give its need
pub need_is : (m : Map) (v r p : ℕ) (sizes : List ℕ) → m.vertices ≡ v → road_count m ≡ r → part_count m ≡ p → Sizes m sizes → need_of (the_counts v r p) sizes ≡ need m
unfolding need_of tables_and_rows need table_words table_words_below row_count rows_below
need_is m v r p sizes isV isR isP sized =
    omega (
      arith,
      isV,
      isR,
      isP,
      ap (λ (n : ℕ). sum (map (λ q. size_words (word sizes q)) (up_to n))) (sym isP)
          ∙ sum_counted (λ q. size_words (word sizes q)) (λ q. size_words (size_of m q)) 0 (part_count m)
          (λ q low h. let hq : q < part_count m = omega arith in ap size_words (sized.size q hq))
          ∙ sum_both (λ q. size_of m q * size_of m q) (λ q. 4 * size_of m q) (up_to (part_count m)),
      sum_times 4 (size_of m) (up_to (part_count m)),
    )
