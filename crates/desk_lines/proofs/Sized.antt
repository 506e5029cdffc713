-- What a record's length and kind decide.
-- Assumes nothing.
use mathlib.Core.Path.{◌≡◌, refl, sym, ◌∙◌, ap}
use mathlib.Core.Bool.{Bool, true, false, ◌&&◌, cond}
use Rattle.std.specs.Prelude.{None, Result, Ok, Err}
use mathlib.Core.List.{List, [], ◌∷◌}
use Prim.Native.Nat.{ℕ, ◌+◌, ◌-◌, ◌≤◌, ◌<◌}
use native.Mathlib.Nat.{add-zero}
use native.Mathlib.Omega.{arith}
use lib.ListN.{length, get_or, take, drop}
use lib.Seq.{get_or-drop}
use lib.Dec.{leb}
use borrow.Author.Tests.{le-leb, lt-leb, leb-true, eq-eqb, ne_eqb}
use Rattle.maps.specs.Bytes.{number, field}
use Rattle.desk_lines.specs.declared.record.Call.{Call}
use Rattle.desk_lines.specs.declared.record.BadRecord.{BadRecord}
use Rattle.desk_lines.specs.Read.{bad, sized, call_of, record_size, turn_for, turn_in, turn_of, opening_in, opening_of}

pub field_one : (bytes : List ℕ) (at : ℕ) → get_or bytes at 0 ≡ field bytes at 1
unfolding field
field_one bytes at = ap (λ (i : ℕ). get_or bytes i 0) (sym (add-zero at)) ∙ sym (get_or-drop at bytes 0 0) ∙ one (drop at bytes)
  where
    one : (xs : List ℕ) → get_or xs 0 0 ≡ number (take 1 xs)
    one [] = refl
    one (x ∷ xs) = omega arith

pub sized_no : {A : Type 0} (len : ℕ) (body : List ℕ) (said : A) → (length body ≡ len → ⊥) → Err bad ≡ sized len body said
sized_no {A} len body said other = sym (ap (λ (fits : Bool). let r : Result A BadRecord = cond fits (Ok said) (Err bad) in r) (ne_eqb (length body) len other))

pub sized_yes : {A : Type 0} (len : ℕ) (body : List ℕ) (shown said : A) → length body ≡ len → shown ≡ said → Ok shown ≡ sized len body said
sized_yes {A} len body shown said same e = ap Ok e ∙ sym (ap (λ (fits : Bool). let r : Result A BadRecord = cond fits (Ok said) (Err bad) in r) (eq-eqb (length body) len same))

-- a kind that is known
pub call_as : {kind known : ℕ} (body : List ℕ) {request : Result Call BadRecord} → kind ≡ known → request ≡ call_of known body → request ≡ call_of kind body
call_as body is e = rw is e

-- every other kind is bad
module _ (kind : ℕ) (body : List ℕ) where
  other : (kind ≡ 16 → ⊥) → (kind ≡ 17 → ⊥) → (kind ≡ 18 → ⊥) → (kind ≡ 19 → ⊥) → (kind ≡ 20 → ⊥) → (kind ≡ 21 → ⊥) → Err bad ≡ call_of kind body
  unfolding call_of
  other a b c d e f = simp (ne_eqb kind 16 a, ne_eqb kind 17 b, ne_eqb kind 18 c, ne_eqb kind 19 d, ne_eqb kind 20 e, ne_eqb kind 21 f)

  pub below_calls : kind ≤ 15 → Err bad ≡ call_of kind body
  below_calls h = other (λ e. omega arith) (λ e. omega arith) (λ e. omega arith) (λ e. omega arith) (λ e. omega arith) (λ e. omega arith)

  pub above_calls : 22 ≤ kind → Err bad ≡ call_of kind body
  above_calls h = other (λ e. omega arith) (λ e. omega arith) (λ e. omega arith) (λ e. omega arith) (λ e. omega arith) (λ e. omega arith)

-- The size of the first record, where `len` is its length field.
module _ (bytes : List ℕ) (len : ℕ) (shown : len ≡ field bytes 0 4) where
  size_by : {long whole : Bool} → leb 2 (field bytes 0 4) ≡ long → leb (4 + field bytes 0 4) (length bytes) ≡ whole → cond (long && whole) (Ok (4 + field bytes 0 4)) (Err bad) ≡ record_size bytes
  unfolding record_size
  size_by p q = sym (λ i. cond (p i && q i) (Ok (4 + field bytes 0 4)) (Err bad))

  pub size_short : len < 2 → Err bad ≡ record_size bytes
  size_short h = size_by (lt-leb 2 (field bytes 0 4) (omega arith)) refl

  pub size_cut : 2 ≤ len → length bytes < 4 + len → Err bad ≡ record_size bytes
  size_cut two h = size_by (le-leb 2 (field bytes 0 4) (omega arith)) (lt-leb (4 + field bytes 0 4) (length bytes) (omega arith))

  pub size_whole : 2 ≤ len → 4 + len ≤ length bytes → Ok (4 + len) ≡ record_size bytes
  size_whole two h = ap (λ (n : ℕ). Ok (4 + n)) shown ∙ size_by (le-leb 2 (field bytes 0 4) (omega arith)) (le-leb (4 + field bytes 0 4) (length bytes) (omega arith))

-- a record that is there has room for its length and its kind, and is not cut
pub record SizeFits (bytes : List ℕ) (size : ℕ) : Type 0 where
  pub kind : 6 ≤ size
  pub whole : size ≤ length bytes
  pub is : size ≡ 4 + field bytes 0 4

pub size_fits : (bytes : List ℕ) {size : ℕ} → record_size bytes ≡ Ok size → SizeFits bytes size
unfolding record_size
size_fits bytes {size} e = by (leb 2 (field bytes 0 4)) (leb (4 + field bytes 0 4) (length bytes)) refl refl e
  where
    by : (long whole : Bool) → leb 2 (field bytes 0 4) ≡ long → leb (4 + field bytes 0 4) (length bytes) ≡ whole
        → cond (long && whole) (Ok (4 + field bytes 0 4)) (Err bad) ≡ Ok size → SizeFits bytes size
    by true true p q f =
        let same : 4 + field bytes 0 4 ≡ size = cc in
        record { kind = omega (arith, leb-true 2 (field bytes 0 4) p); whole = omega (arith, leb-true (4 + field bytes 0 4) (length bytes) q); is = sym same }
    by true false p q f = absurd (cc)
    by false whole p q f = absurd (cc)

module _ (bytes : List ℕ) where
  pub turn_over : length bytes ≡ 0 → turn_of bytes ≡ Ok None
  unfolding turn_of
  turn_over e = simp (eq-eqb (length bytes) 0 e)

  -- where bytes are left the turn is that of the first record
  pub turn_is : {size : Result ℕ BadRecord} → 0 < length bytes → record_size bytes ≡ size → turn_of bytes ≡ turn_in size bytes
  unfolding turn_of
  turn_is some e = simp (ne_eqb (length bytes) 0 (λ none. omega arith)) (ap (λ (size : Result ℕ BadRecord). turn_in size bytes) e)

  pub turn_bad : {e : BadRecord} → 0 < length bytes → record_size bytes ≡ Err e → turn_of bytes ≡ Err e
  turn_bad some e = turn_is some e

  pub turn_call : {size : ℕ} → 0 < length bytes → record_size bytes ≡ Ok size → (call : Result Call BadRecord) → call ≡ call_of (field bytes 4 2) (take (size - 6) (drop 6 bytes))
      → turn_of bytes ≡ turn_for call size
  turn_call {size} some e call is = turn_is some e ∙ ap (λ (c : Result Call BadRecord). turn_for c size) (sym is)

  pub opening_is : {size : Result ℕ BadRecord} → record_size bytes ≡ size → opening_of bytes ≡ opening_in size bytes
  unfolding opening_of
  opening_is e = ap (λ (size : Result ℕ BadRecord). opening_in size bytes) e
