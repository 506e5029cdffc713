-- Ways by the known places, over the memory and over the words of one row; and distances out of a child.
-- Assumes nothing.
use mathlib.Core.Path.{◌≡◌, refl, sym, ◌∙◌, ap, subst}
use mathlib.Core.Logic.{◌≢◌}
use mathlib.Core.List.{List}
use Prim.Native.Nat.{ℕ, ◌+◌, ◌*◌, ◌/◌, ◌%◌, ◌<◌, min}
use native.Mathlib.Decide.{dec_lt}
use native.Mathlib.Omega.{arith}
use lib.ListN.{drop, take}
use lib.Seq.{get_or-take, get_or-drop}
use borrow.Author.Tests.{eq-eqb, ne_eqb}
use Rattle.words.specs.Limits.{FAR}
use Rattle.words.specs.Lists.{word}
use Rattle.far_sums.specs.Least.{Least}
use Rattle.far_sums.proofs.Least.{least_same, least_lower_by, least_stays_by}
use Rattle.row_lists.specs.Rows.{child_at}
use Rattle.row_lists.proofs.Rows.{near_read}
use Rattle.row_distances.specs.Distances.{way_in, way_over, out_of}

-- the least of one way more
pub least_more : (f : ℕ → ℕ) {n r w r' : ℕ} → Least f n r → w ≡ f n → r' ≡ min r w → Least f (n + 1) r'
least_more f {n} {r} {w} {r'} l is least = by (dec_lt w r)
  where
    by : Dec (w < r) → Least f (n + 1) r'
    by (yes less) = subst (Least f (n + 1)) (let e : w ≡ r' = omega arith in e) (least_lower_by f l is less)
    by (no more) = subst (Least f (n + 1)) (let e : r ≡ r' = omega (arith, more) in e) (least_stays_by f l is (omega (arith, more)))

-- the next way over a row
pub over_next : (row places near : List ℕ) (t : ℕ) → word row (word places t) + word near t ≡ way_over row places near t
unfolding way_over
over_next row places near t = refl

-- over the words of a row that starts at `at`
pub over_row : (mem : List ℕ) (at size : ℕ) (places near : List ℕ) (count : ℕ) {row : List ℕ} {r : ℕ} → row ≡ take size (drop at mem) → ((t : ℕ) → t < count → word places t < size)
    → Least (way_over row places near) count r → Least (way_in mem at places near) count r
unfolding way_over way_in
over_row mem at size places near count {row} is_row inside l =
    least_same (way_over row places near) (way_in mem at places near)
    (λ t h. ap (λ (k : ℕ). k + word near t) (ap (λ (w : List ℕ). word w (word places t)) is_row ∙ get_or-take size (drop at mem) (word places t) 0 (inside t h) ∙ get_or-drop at mem (word places t) 0))
    l

module _ (mem : List ℕ) (first : ℕ) (dx : List ℕ) (i : ℕ) {owner : ℕ} (isOwner : owner ≡ word mem (first + 4 * i + 2)) where
  pub out_read : {c d : ℕ} → owner / 65536 ≡ c → d ≡ word dx (owner % 65536) → d ≡ out_of mem first dx c i
  unfolding out_of
  out_read {c} same isNear =
      rw (eq-eqb (child_at mem first i) c (ap (λ (k : ℕ). k / 65536) (sym isOwner) ∙ same)) (near_read mem first dx i isOwner isNear)

  pub out_elsewhere : {c : ℕ} → owner / 65536 ≢ c → FAR ≡ out_of mem first dx c i
  unfolding out_of
  out_elsewhere {c} other = rw (ne_eqb (child_at mem first i) c (λ e. other (ap (λ (k : ℕ). k / 65536) isOwner ∙ e)))
