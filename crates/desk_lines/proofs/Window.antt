-- The program reads its input through a window: what it finds there is what it would find in all that is left of the input, where the
-- window has as many bytes as the longest call (for a call), as an opening record (for that), or as the map may have and a length field (for the map).
-- Assumes nothing.
use mathlib.Core.Path.{◌≡◌, refl, sym, ◌∙◌, ap, ap₂}
use mathlib.Core.Bool.{Bool, true, false, ◌&&◌, cond}
use mathlib.Core.List.{List, ◌++◌}
use Rattle.std.specs.Prelude.{Some, None, Result, Ok, Err}
use Prim.Native.Nat.{ℕ, zero, suc, ◌+◌, ◌-◌, ◌≤◌, ◌<◌}
use native.Mathlib.Decide.{dec_lt, ℕ_discrete}
use native.Mathlib.Omega.{arith}
use lib.ListN.{length, take, drop, length-append, length-take, length-drop}
use lib.Seq.{take-append-le, drop-append-le}
use lib.Dec.{eqb}
use borrow.Author.Tests.{ne_eqb}
use Rattle.maps.specs.Bytes.{number, field}
use Rattle.fleet.specs.declared.Change.TheVariants.{Add, Move}
use Rattle.desk_lines.specs.declared.record.Call.{Call}
use Rattle.desk_lines.specs.declared.record.Call.TheVariants.{Changes}
use Rattle.desk_lines.specs.declared.record.BadRecord.{BadRecord}
use Rattle.desk_lines.specs.declared.record.Place.{Place}
use Rattle.desk_lines.specs.Read.{map_room, opening_bytes, longest_call, take_records, bad, sized, put_by, place_of, add_of, move_of, remove_of, claim_of, release_of, question_of, call_of, record_size, turn_for, Turn, turn_in, turn_of, opening_in, opening_of}
use Rattle.desk_lines.proofs.Sized.{sized_no, size_short, size_whole, size_fits, turn_is, opening_is}
use Rattle.desk_lines.proofs.Taking.{none_left, take_long, take_next}

-- a part of the window
part_within : (w more : List ℕ) (at size : ℕ) → at + size ≤ length w → take size (drop at (w ++ more)) ≡ take size (drop at w)
part_within w more at size h =
    ap (take size) (drop-append-le at w more (omega arith)) ∙ take-append-le size (drop at w) more (omega (arith, length-drop at w))

pub field_within : (w more : List ℕ) (at size : ℕ) → at + size ≤ length w → field (w ++ more) at size ≡ field w at size
unfolding field
field_within w more at size h = ap number (part_within w more at size h)

either : (b : Bool) {r s : Result Call BadRecord} → r ≡ Err bad → s ≡ Err bad → cond b r s ≡ Err bad
either true p q = p
either false p q = q

-- no call has a body of more than 10 bytes
call_long : (kind : ℕ) (body : List ℕ) → 10 < length body → call_of kind body ≡ Err bad
unfolding call_of place_of add_of move_of remove_of claim_of release_of question_of
call_long kind body h =
    either (eqb kind 16) (put (λ p. Changes (Add p.van p.from p.to p.offset)))
    (either (eqb kind 17) (put (λ p. Changes (Move p.van p.from p.to p.offset)))
    (either (eqb kind 18) (longer 2 _ (omega arith))
    (either (eqb kind 19) (longer 7 _ (omega arith))
    (either (eqb kind 20) (longer 3 _ (omega arith))
    (either (eqb kind 21) (longer 4 _ (omega arith))
    refl)))))
  where
    longer : {A : Type 0} (len : ℕ) (said : A) → len < length body → sized len body said ≡ Err bad
    longer len said h = sym (sized_no len body said (λ e. omega arith))

    put : (call : Place → Call) → put_by call (sized 10 body (record { van = field body 0 2; from = field body 2 2; to = field body 4 2; offset = field body 6 4 })) ≡ Err bad
    put call = ap (put_by call) (longer 10 (record { van = field body 0 2; from = field body 2 2; to = field body 4 2; offset = field body 6 4 }) h)

-- a record that is longer than any call is bad, cut or not
turn_long : (bytes : List ℕ) → 0 < length bytes → 12 < field bytes 0 4 → turn_of bytes ≡ Err bad
turn_long bytes some h = by (record_size bytes) refl
  where
    by : (size : Result ℕ BadRecord) → record_size bytes ≡ size → turn_of bytes ≡ Err bad
    by (Err e) is = turn_is bytes some is
    by (Ok size) is =
        let fits = size_fits bytes is in
        turn_is bytes some is
        ∙ ap (λ (c : Result Call BadRecord). turn_for c size)
        (call_long (field bytes 4 2) (take (size - 6) (drop 6 bytes)) (omega (arith, fits, length-take (size - 6) (drop 6 bytes), length-drop 6 bytes)))

-- a record that is longer than an opening is no opening, cut or not
opening_long : (bytes : List ℕ) → 6 < field bytes 0 4 → opening_of bytes ≡ Err bad
opening_long bytes h = by (record_size bytes) refl
  where
    by : (size : Result ℕ BadRecord) → record_size bytes ≡ size → opening_of bytes ≡ Err bad
    by (Err e) is = opening_is bytes is
    by (Ok size) is = opening_is bytes is ∙ (λ i. cond (ne_eqb size 10 (λ ten. omega (arith, size_fits bytes is)) i && eqb (field bytes 4 2) 5) (Ok (field bytes 6 4)) (Err bad))

module _ (w more : List ℕ) where
  longer : length (w ++ more) ≡ length w + length more
  longer = length-append w more

  same_length : 4 ≤ length w → field (w ++ more) 0 4 ≡ field w 0 4
  same_length h = field_within w more 0 4 (omega arith)

  -- a record that lies in the window
  same_size : 4 ≤ length w → 4 + field w 0 4 ≤ length w → record_size (w ++ more) ≡ record_size w
  same_size four fits = by (dec_lt (field w 0 4) 2)
    where
      by : Dec (field w 0 4 < 2) → record_size (w ++ more) ≡ record_size w
      by (yes short) = sym (size_short (w ++ more) (field w 0 4) (sym (same_length four)) short) ∙ size_short w (field w 0 4) refl short
      by (no long) =
          sym (size_whole (w ++ more) (field w 0 4) (sym (same_length four)) (omega (arith, long)) (omega (arith, longer, fits)))
          ∙ size_whole w (field w 0 4) refl (omega (arith, long)) fits

  -- the next call is what a window for the longest call shows
  pub turn_window : longest_call ≤ length w → turn_of (w ++ more) ≡ turn_of w
  turn_window room = by (dec_lt 12 (field w 0 4))
    where
      in-window : (size : Result ℕ BadRecord) → record_size w ≡ size → turn_in size (w ++ more) ≡ turn_in size w
      in-window (Err e) is = refl
      in-window (Ok size) is =
          ap₂ (λ (kind : ℕ) (body : List ℕ). turn_for (call_of kind body) size)
          (field_within w more 4 2 (omega arith)) (part_within w more 6 (size - 6) (omega (arith, size_fits w is)))

      by : Dec (12 < field w 0 4) → turn_of (w ++ more) ≡ turn_of w
      by (yes long) =
          turn_long (w ++ more) (omega (arith, longer)) (omega (arith, same_length (omega arith))) ∙ sym (turn_long w (omega arith) long)
      by (no few) =
          turn_is (w ++ more) (omega (arith, longer)) (same_size (omega arith) (omega (arith, few)))
          ∙ in-window (record_size w) refl
          ∙ sym (turn_is w (omega arith) refl)

  -- the opening record is what a window for it shows
  pub opening_window : opening_bytes ≤ length w → opening_of (w ++ more) ≡ opening_of w
  opening_window room = by (dec_lt 6 (field w 0 4))
    where
      in-window : (size : Result ℕ BadRecord) → opening_in size (w ++ more) ≡ opening_in size w
      in-window (Err e) = refl
      in-window (Ok size) = λ i. cond (eqb size 10 && eqb (field_within w more 4 2 (omega arith) i) 5) (Ok (field_within w more 6 4 (omega arith) i)) (Err bad)

      by : Dec (6 < field w 0 4) → opening_of (w ++ more) ≡ opening_of w
      by (yes long) = opening_long (w ++ more) (omega (arith, same_length (omega arith))) ∙ sym (opening_long w long)
      by (no few) =
          opening_is (w ++ more) (same_size (omega arith) (omega (arith, few)))
          ∙ in-window (record_size w)
          ∙ sym (opening_is w refl)

  -- the map is what a window for it and a length field shows
  pub take_window : map_room + 4 ≤ length w → (n at : ℕ) → at ≤ map_room → take_records n at (w ++ more) ≡ take_records n at w
  take_window room zero at h = none_left (w ++ more) at 0 (omega arith) ∙ sym (none_left w at 0 (omega arith))
  take_window room (suc n) at h = by (dec_lt map_room (at + 4 + field w at 4)) (take_window room n (at + 4 + field w at 4))
    where
      less : suc n - 1 ≡ n
      less = omega arith

      len : field w at 4 ≡ field (w ++ more) at 4
      len = sym (field_within w more at 4 (omega arith))

      by : Dec (map_room < at + 4 + field w at 4) → (at + 4 + field w at 4 ≤ map_room → take_records n (at + 4 + field w at 4) (w ++ more) ≡ take_records n (at + 4 + field w at 4) w)
          → take_records (suc n) at (w ++ more) ≡ take_records (suc n) at w
      by (yes long) later =
          take_long (w ++ more) at (field w at 4) len (suc n) (omega arith) (omega (arith, longer)) long
          ∙ sym (take_long w at (field w at 4) refl (suc n) (omega arith) (omega arith) long)
      by (no fits) later =
          let within : at + 4 + field w at 4 ≤ map_room = omega (arith, fits) in
          take_next (w ++ more) at (field w at 4) len (suc n) (omega arith) (omega (arith, longer)) within
          ∙ (λ i. take_records (less i) (at + 4 + field w at 4) (w ++ more))
          ∙ later within
          ∙ sym (take_next w at (field w at 4) refl (suc n) (omega arith) (omega arith) within ∙ (λ i. take_records (less i) (at + 4 + field w at 4) w))

size_shown : Turn → ℕ
size_shown (Ok (Some next)) = next.1
size_shown (Ok None) = 0
size_shown (Err bad') = 0

-- A call's record lies within the bytes that show it.
pub turn_within : (bytes : List ℕ) {call : Call} {size : ℕ} → turn_of bytes ≡ Ok (Some (call, size)) → size ≤ length bytes
unfolding turn_of size_shown
turn_within bytes {call} {size} e = by (eqb (length bytes) 0) (record_size bytes) refl e
  where
    same : (c : Result Call BadRecord) (n : ℕ) → turn_for c n ≡ Ok (Some (call, size)) → size ≡ n
    same (Err bad') n f = absurd (cc)
    same (Ok other) n f = sym (ap size_shown f)

    by : (empty : Bool) (r : Result ℕ BadRecord) → record_size bytes ≡ r → cond empty (Ok None) (turn_in r bytes) ≡ Ok (Some (call, size)) → size ≤ length bytes
    by true r is f = absurd (cc)
    by false (Err bad') is f = absurd (cc)
    by false (Ok n) is f = omega (arith, size_fits bytes is, same (call_of (field bytes 4 2) (take (n - 6) (drop 6 bytes))) n f)

-- And so does an opening record.
pub opening_within : (bytes : List ℕ) {start : ℕ} → opening_of bytes ≡ Ok start → opening_bytes ≤ length bytes
unfolding opening_of
opening_within bytes {start} e = by (record_size bytes) refl e
  where
    by : (r : Result ℕ BadRecord) → record_size bytes ≡ r → opening_in r bytes ≡ Ok start → 10 ≤ length bytes
    by (Err bad') is f = absurd (cc)
    by (Ok n) is f = whole (ℕ_discrete n 10)
      where
        whole : Dec (n ≡ 10) → 10 ≤ length bytes
        whole (yes ten) = omega (arith, size_fits bytes is)
        whole (no other) = let g : Err bad ≡ Ok start = rw (ne_eqb n 10 other) at f in absurd (cc)
