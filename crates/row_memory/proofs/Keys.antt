-- A key stands for a row, and the lesser of two keys for the nearer row.
-- Assumes nothing.
use mathlib.Core.Path.{◌≡◌, refl, sym, ◌∙◌, ap, subst⁻¹}
use mathlib.Core.Logic.{inl, inr}
use mathlib.Core.Bool.{cond, ◌&&◌}
use Prim.Native.Nat.{ℕ, ◌+◌, ◌*◌, ◌/◌, ◌%◌, ◌≤◌, ◌<◌, min}
use native.Mathlib.Decide.{ℕ_discrete, dec_lt}
use native.Mathlib.Omega.{arith}
use lib.Dec.{eqb, ltb}
use borrow.Author.Tests.{lt-ltb, le-ltb, eq-eqb, ne_eqb}
use Rattle.words.specs.Limits.{FAR}
use Rattle.words.proofs.Tests.{PairBefore, pair_if}
use Rattle.rows.specs.declared.Row.{Row}
use Rattle.rows.specs.Row.{empty_row, nearer}
use Rattle.rows.specs.Refresh.{onward}
use Rattle.row_departures.specs.Departure.{keyed, far_key, unkeyed}
use Rattle.row_memory.proofs.Offered.{Plain, nearer_empty}

-- the key is of this row
pub record KeyOf (row : Row) (key : ℕ) : Type 0 where
  pub most : key ≤ far_key
  pub shows : unkeyed key ≡ row

pub key_none : KeyOf empty_row far_key
unfolding unkeyed
key_none = record { most = omega arith; shows = refl }

-- what a key shows, where it is of something that reaches
abbrev seen_by : ℕ → Row
seen_by key = record { vertex = key % 65536; distance = key / 65536 }

near_row : (key : ℕ) → key < far_key → unkeyed key ≡ seen_by key
unfolding unkeyed
near_row key near = rw (lt-ltb key far_key near)

far_row : unkeyed far_key ≡ empty_row
far_row = key_none.shows

module _ (v d key : ℕ) (small : v < 65536) where
  abbrev new : ℕ
  new = d * 65536 + v

  abbrev new_row : Row
  new_row = record { vertex = v; distance = d }

  new_row_lem : seen_by new ≡ new_row
  new_row_lem =
      let a : new % 65536 ≡ v = omega arith in
      let b : new / 65536 ≡ d = omega arith in
      λ t. record { vertex = a t; distance = b t }

  -- the lesser key comes before
  first : new < key → key < far_key → nearer new_row (seen_by key) ≡ new_row
  unfolding nearer
  first less near = rw (pair_if d v (key / 65536) (key % 65536) (before (dec_lt d (key / 65536))))
    where
      before : Dec (d < key / 65536) → PairBefore d v (key / 65536) (key % 65536)
      before (yes nearer-by) = inl nearer-by
      before (no tie) = inr (omega (arith, tie), omega (arith, tie))

  first_of_none : d < FAR → nearer new_row empty_row ≡ new_row
  unfolding nearer
  first_of_none near = rw (pair_if d v FAR 65535 (inl near))

  -- the greater does not
  later : key ≤ new → nearer new_row (seen_by key) ≡ seen_by key
  unfolding nearer
  later most = rw (le-ltb d (key / 65536) (omega arith)) (tie (ℕ_discrete d (key / 65536)))
    where
      tie : Dec (d ≡ key / 65536) → cond (eqb d (key / 65536) && ltb v (key % 65536)) new_row (seen_by key) ≡ seen_by key
      tie (yes same) = rw (eq-eqb d (key / 65536) same, le-ltb v (key % 65536) (omega arith))
      tie (no other) = rw (ne_eqb d (key / 65536) other)

key_plain : (row : Row) (key : ℕ) → KeyOf row key → Plain row
key_plain row key k = by (dec_lt key far_key)
  where
    by : Dec (key < far_key) → Plain row
    by (yes near) = subst⁻¹ Plain (sym k.shows ∙ near_row key near) (inr (omega arith))
    by (no far) = inl (sym k.shows ∙ ap unkeyed (let e : key ≡ far_key = omega (arith, far, k.most) in e) ∙ far_row)

-- a source seen d further on
pub key_nearer : (source row : Row) (d key : ℕ) → source.vertex < 65536 → KeyOf row key → KeyOf (nearer (onward source d) row) (min key (keyed source + d * 65536))
unfolding onward
key_nearer source row d key small k = by (dec_lt (source.distance + d) FAR)
  where
    v : ℕ
    v = source.vertex

    x : ℕ
    x = source.distance + d

    seen : ℕ
    seen = keyed source + d * 65536

    same : seen ≡ x * 65536 + v
    same = omega arith

    as_row : seen < far_key → unkeyed seen ≡ record { vertex = v; distance = x }
    as_row near = near_row seen near ∙ ap seen_by same ∙ new_row_lem v x key small

    taken : x < FAR → seen < key → Dec (key < far_key) → nearer (record { vertex = v; distance = x }) row ≡ record { vertex = v; distance = x }
    taken near less (yes inside) =
        ap (nearer (record { vertex = v; distance = x })) (sym k.shows ∙ near_row key inside) ∙ first v x key small (omega (arith, same)) inside
    taken near less (no far) =
        ap (nearer (record { vertex = v; distance = x })) (sym k.shows ∙ ap unkeyed (let e : key ≡ far_key = omega (arith, far, k.most) in e) ∙ far_row) ∙ first_of_none v x key small near

    lesser : seen < key → min key seen ≡ seen
    lesser less = omega arith

    no_less : key ≤ seen → min key seen ≡ key
    no_less more = omega arith

    which : x < FAR → Dec (seen < key) → KeyOf (nearer (record { vertex = v; distance = x }) row) (min key seen)
    which near (yes less) =
        rw (lesser less) (record { most = omega (arith, k.most); shows = as_row (omega (arith, k.most)) ∙ sym (taken near less (dec_lt key far_key)) })
    which near (no more) =
        rw (no_less (omega (arith, more)))
        (record {
          most = k.most;
          shows = k.shows ∙ sym (ap (nearer (record { vertex = v; distance = x })) stands ∙ later v x key small (omega (arith, same, more)) ∙ sym stands);
        })
      where
        stands : row ≡ seen_by key
        stands = sym k.shows ∙ near_row key (omega (arith, same, more))

    by : Dec (source.distance + d < FAR) → KeyOf (nearer (cond (ltb (source.distance + d) FAR) (record { vertex = v; distance = x }) empty_row) row) (min key seen)
    by (yes near) = rw (lt-ltb (source.distance + d) FAR near) (which near (dec_lt seen key))
    by (no far) =
        rw (le-ltb (source.distance + d) FAR (omega (arith, far)), no_less (omega (arith, far, same, k.most)))
        (record { most = k.most; shows = k.shows ∙ sym (nearer_empty row (key_plain row key k)) })
