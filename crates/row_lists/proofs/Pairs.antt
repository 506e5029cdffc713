-- A loop over the known rows and their distances, side by side.
-- Assumes nothing.
use mathlib.Core.Path.{◌≡◌, ap, ◌∙◌}
use mathlib.Core.List.{List}
use Prim.Native.Nat.{ℕ, ◌<◌}
use native.Mathlib.Omega.{arith}
use lib.ListN.{length, take, length-take}
use lib.Seq.{get_or-take}
use denote.Ref.{Bor}
use Rattle.std.specs.declared.option.Option.{Option}
use Rattle.std.specs.declared.option.Option.TheVariants.{None, Some}
use Rattle.std.specs.Iterator.{Yields}
use Rattle.std.specs.Iterator.Adapters.{zip_first, zip_second}
use Rattle.std.specs.Slice.Iter.{iter_rest}
use Rattle.std.specs.declared.iter.Zip.{Zip}
use Rattle.std.specs.declared.slice.Iter.{Iter}
use Rattle.std.proofs.iter.Yields.{fronts}
use Rattle.std.proofs.lemmas.Iterator.{zips}
use Rattle.std.proofs.lemmas.Slice.Zip.{zip_turn, zip_end}
use Rattle.words.specs.Lists.{word}

-- so many pairs came
module _ (places near : List ℕ) (known : ℕ) (xs : List (Bor ℕ × Bor ℕ)) (s t u : Zip (Iter ℕ) (Iter ℕ)) (r : Option (Bor ℕ × Bor ℕ)) (first : iter_rest (zip_first s) ≡ take known places)
    (second : iter_rest (zip_second s) ≡ take known near) (y : Yields (zips fronts fronts) s xs t) where
  -- the next pair
  pub pair_turn : (p : Bor ℕ × Bor ℕ) → r ≡ Some p → zips fronts fronts t r u → (length xs < known) × (p.0.now ≡ word places (length xs)) × (p.1.now ≡ word near (length xs))
  pair_turn p e h =
      let (few, few', a, b) = zip_turn (take known places) (take known near) xs s t u r first second y p e h in
      let below : length xs < known = omega (arith, few, length-take known places) in
      (below, a 0 ∙ get_or-take known places (length xs) 0 below, b 0 ∙ get_or-take known near (length xs) 0 below)

  -- there is no other
  pub pair_end : length (take known places) ≡ known → length (take known near) ≡ known → r ≡ None → zips fronts fronts t r u → length xs ≡ known
  pair_end long long' e h = omega (arith, zip_end (take known places) (take known near) xs s t u r first second y e h, long, long')

-- the next of the rows that are asked for
pub asked_turn : (asked : List ℕ) (count : ℕ) {items : List ℕ} {t row : ℕ} → items ≡ take count asked → t < count → row ≡ word items t → row ≡ word asked t
asked_turn asked count {t = t} cut h is_row =
    is_row ∙ ap (λ (l : List ℕ). word l t) cut ∙ get_or-take count asked t 0 h
