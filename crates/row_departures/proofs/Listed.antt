-- The sources of a part, listed: their keys are small, and their lines are in the table.
-- Assumes nothing.
use mathlib.Core.Path.{◌≡◌, refl, subst⁻¹}
use mathlib.Core.List.{List, map}
use Prim.Native.Nat.{ℕ, suc, ◌+◌, ◌*◌, ◌≤◌, ◌<◌}
use native.Mathlib.Nat.{mul-suc, mul-le-mul_left}
use native.Mathlib.Omega.{arith}
use lib.Dec.{ltb}
use lib.ListN.{length, get_or}
use Rattle.std.proofs.lemmas.List.Elements.{All-map}
use Rattle.std.proofs.lemmas.List.{get_or_default}
use Rattle.words.specs.Limits.{FAR}
use Rattle.words.specs.Lists.{word, up_to, keep}
use Rattle.listing.proofs.Turns.{kept_below}
use Rattle.row_words.specs.Words.{source_in}
use Rattle.row_departures.specs.declared.Source.{Source}
use Rattle.row_departures.specs.Departure.{filled, source_of, Sound}

-- where all words are below 2^32
pub listed_sound : (mem : List ℕ) (rows size : ℕ) → ((k : ℕ) → word mem k < 4294967296) → (sources : List Source) → sources ≡ map (source_of mem rows size) (filled mem rows size) → Sound size sources
unfolding filled
listed_sound mem rows size words sources e =
    subst⁻¹ (Sound size) e (All-map (λ source. (source.key < 562949953421312) × (source.step + size ≤ size * size)) (source_of mem rows size) (filled mem rows size) each)
  where
    list : List ℕ
    list = keep (λ i. ltb (source_in mem (rows + 4 * i)).distance FAR) (up_to size)

    each : (k d : ℕ) → k < length list → ((source_of mem rows size (get_or list k d)).key < 562949953421312) × (size * get_or list k d + size ≤ size * size)
    each k d h =
        let i : get_or list k d < size = omega (arith, kept_below (λ i. ltb (source_in mem (rows + 4 * i)).distance FAR) size list refl k h, get_or_default list k d 0 h) in
        let below : ℕ = word mem (rows + 4 * get_or list k d + 3) in
        (omega (arith, words below, words (below + 1)), omega (arith, mul-suc size (get_or list k d), mul-le-mul_left {m = suc (get_or list k d)} {n = size} size (omega (arith, i))))
