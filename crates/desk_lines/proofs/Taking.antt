-- The records of a map, taken one after the other.
-- Assumes nothing.
use mathlib.Core.Path.{◌≡◌, refl, sym, ◌∙◌}
use mathlib.Core.Bool.{Bool, cond}
use mathlib.Core.List.{List}
use Rattle.std.specs.Prelude.{Some, None}
use Prim.Native.Nat.{ℕ, zero, suc, ◌+◌, ◌-◌, ◌≤◌, ◌<◌}
use native.Mathlib.Omega.{arith}
use lib.ListN.{length}
use lib.Dec.{leb, ltb}
use borrow.Author.Tests.{le-leb, lt-leb, le-ltb, lt-ltb}
use Rattle.maps.specs.Bytes.{field}
use Rattle.desk_lines.specs.Read.{map_room, take_records}

module _ (bytes : List ℕ) (at : ℕ) where
  pub none_left : (left : ℕ) → left ≤ 0 → take_records left at bytes ≡ Some at
  unfolding take_records
  none_left zero h = refl
  none_left (suc n) h = absurd (omega arith)

  -- one record, where the outcomes of its two tests are known
  taken_by : (n : ℕ) {there long : Bool} → leb (at + 4) (length bytes) ≡ there → ltb map_room (at + 4 + field bytes at 4) ≡ long
      → take_records (suc n) at bytes ≡ cond there (cond long None (take_records n (at + 4 + field bytes at 4) bytes)) (Some at)
  unfolding take_records
  taken_by n p q = λ i. cond (p i) (cond (q i) None (take_records n (at + 4 + field bytes at 4) bytes)) (Some at)

  pub take_ended : (left : ℕ) → 0 < left → length bytes < at + 4 → take_records left at bytes ≡ Some at
  take_ended zero some h = absurd (omega arith)
  take_ended (suc n) some h = taken_by n (lt-leb (at + 4) (length bytes) h) refl

  module _ (len : ℕ) (shown : len ≡ field bytes at 4) where
    pub take_long : (left : ℕ) → 0 < left → at + 4 ≤ length bytes → 65536 < at + 4 + len → take_records left at bytes ≡ None
    take_long zero some h long = absurd (omega arith)
    take_long (suc n) some h long = taken_by n (le-leb (at + 4) (length bytes) h) (lt-ltb map_room (at + 4 + field bytes at 4) (omega arith))

    pub take_next : (left : ℕ) → 0 < left → at + 4 ≤ length bytes → at + 4 + len ≤ 65536 → take_records left at bytes ≡ take_records (left - 1) (at + 4 + len) bytes
    take_next zero some h fits = absurd (omega arith)
    take_next (suc n) some h fits =
        taken_by n (le-leb (at + 4) (length bytes) h) (le-ltb map_room (at + 4 + field bytes at 4) (omega arith))
        ∙ (λ i. take_records (less n i) (at + 4 + sym shown i) bytes)
      where
        less : (k : ℕ) → k ≡ suc k - 1
        less k = omega arith
