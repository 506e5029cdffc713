-- Bytes written one after the other.
-- Assumes nothing.
use mathlib.Core.Path.{◌≡◌, refl, sym, ◌∙◌, ap}
use mathlib.Core.Bool.{Bool, true, false, cond}
use mathlib.Core.List.{List, [], ◌∷◌, ◌++◌}
use Prim.Native.Nat.{ℕ, zero, suc, ◌+◌, ◌-◌, ◌/◌, ◌%◌, ◌≤◌, ◌<◌}
use native.Mathlib.Nat.{add-zero}
use native.Mathlib.Numerals.{add-one}
use native.Mathlib.Omega.{arith}
use lib.ListN.{length, set, take, drop, get_or, length-append}
use lib.Seq.{length-take-le, take-suc, take_at, sets, length-sets, sets-eq}
use lib.Dec.{ltb}
use borrow.Author.Tests.{lt-ltb, le-ltb}
use Rattle.desk_lines.specs.Line.{digits}
use Rattle.desk_lines.specs.Written.{Wrote}

pub sets_append : (out : List ℕ) (at : ℕ) (a b : List ℕ) → sets out at (a ++ b) ≡ sets (sets out at a) (at + length a) b
sets_append out at [] b = ap (λ (n : ℕ). sets out n b) (sym (add-zero at))
sets_append out at (x ∷ a) b = sets_append (set out at x) (suc at) a b ∙ ap (λ (n : ℕ). sets (sets (set out at x) (suc at) a) n b) (over at (length a))
  where
    over : (k l : ℕ) → suc k + l ≡ k + suc l
    over k l = omega arith

pub wrote_none : (out : List ℕ) (at : ℕ) → Wrote out at [] at out
wrote_none out at = record { ends = sym (add-zero at); bytes = refl }

pub wrote_byte : (out : List ℕ) (at b : ℕ) {out' : List ℕ} → out' ≡ set out at b → Wrote out at (b ∷ []) (at + 1) out'
wrote_byte out at b e = record { ends = refl; bytes = e }

pub wrote_more : {out : List ℕ} {at : ℕ} {a b : List ℕ} {mid end : ℕ} {out₁ out₂ : List ℕ} → Wrote out at a mid out₁ → Wrote out₁ mid b end out₂ → Wrote out at (a ++ b) end out₂
wrote_more {out} {at} {a} {b} {mid} {end} {out₁} {out₂} first second =
    record {
      ends = omega (arith, first.ends, second.ends, length-append a b);
      bytes =
          second.bytes
          ∙ (λ i. sets (first.bytes i) (first.ends i) b)
          ∙ sym (sets_append out at a b);
    }

pub wrote_as : {out : List ℕ} {at : ℕ} {a : List ℕ} (b : List ℕ) {end : ℕ} {out' : List ℕ} → a ≡ b → Wrote out at a end out' → Wrote out at b end out'
wrote_as b e w = rw e at w

pub wrote_length : {out : List ℕ} {at : ℕ} {new : List ℕ} {end : ℕ} {out' : List ℕ} → Wrote out at new end out' → length out' ≡ length out
wrote_length {out} {at} {new} w = ap length w.bytes ∙ length-sets out at new

-- what stood before `at` and what was stored from there on, where there is room for it
pub wrote_shown : {out : List ℕ} {at : ℕ} {new : List ℕ} {end : ℕ} {out' : List ℕ} → Wrote out at new end out' → end ≤ length out → take end out' ≡ take at out ++ new
wrote_shown {out} {at} {new} {end} {out'} w room =
    ap (take end) (w.bytes ∙ sets-eq new out at (omega (arith, w.ends)))
    ∙ take_at (take at out ++ new) (drop (at + length new) out) end (length-append (take at out) new ∙ ap (λ (n : ℕ). n + length new) (length-take-le at out (omega (arith, w.ends))) ∙ sym w.ends)

-- the first i bytes of a text, and one more
pub wrote_next : (out : List ℕ) (at : ℕ) (text : List ℕ) (i : ℕ) (out₁ : List ℕ) {out₂ : List ℕ} → i < length text → Wrote out at (take i text) (at + i) out₁
    → out₂ ≡ set out₁ (at + i) (get_or text i 0) → Wrote out at (take (i + 1) text) (at + (i + 1)) out₂
wrote_next out at text i out₁ {out₂} h so_far e =
    let more = wrote_more so_far (wrote_byte out₁ (at + i) (get_or text i 0) e) in
    let ends : at + (i + 1) ≡ (at + i) + 1 = omega arith in
    let longer : take (i + 1) text ≡ take i text ++ (get_or text i 0 ∷ []) = rw (add-one, take-suc text i 0) in
    record { ends = ends ∙ more.ends ∙ ap (λ (l : List ℕ). at + length l) (sym longer); bytes = more.bytes ∙ ap (sets out at) (sym longer) }

-- a byte before what is written after it
pub wrote_front : {out : List ℕ} {at b : ℕ} {new : List ℕ} {end : ℕ} {out₁ out₂ : List ℕ} → out₁ ≡ set out at b → Wrote out₁ (at + 1) new end out₂ → Wrote out at (b ∷ new) end out₂
wrote_front {out} {at} {b} e w = wrote_more (wrote_byte out at b e) w

-- Digits.

pub digits_few : (n value : ℕ) → length (digits n value) ≤ n
unfolding digits
digits_few zero value = omega arith
digits_few (suc n) value = by (ltb value 10) (digits_few n (value / 10))
  where
    by : (small : Bool) → length (digits n (value / 10)) ≤ n → length (cond small ((48 + value) ∷ []) (digits n (value / 10) ++ ((48 + value % 10) ∷ []))) ≤ suc n
    by true few = omega arith
    by false few = omega (arith, length-append (digits n (value / 10)) ((48 + value % 10) ∷ []))

pub digits_none : (most value : ℕ) → most ≡ 0 → digits most value ≡ []
unfolding digits
digits_none most value e = rw e

pub digits_one : (most value : ℕ) → (most ≡ 0 → ⊥) → value < 10 → digits most value ≡ (48 + value) ∷ []
unfolding digits
digits_one zero value some small = absurd (some refl)
digits_one (suc n) value some small = ap (λ (s : Bool). cond s ((48 + value) ∷ []) (digits n (value / 10) ++ ((48 + value % 10) ∷ []))) (lt-ltb value 10 small)

pub digits_more : (most value : ℕ) → (most ≡ 0 → ⊥) → 10 ≤ value → digits most value ≡ digits (most - 1) (value / 10) ++ ((48 + value % 10) ∷ [])
unfolding digits
digits_more zero value some large = absurd (some refl)
digits_more (suc n) value some large = ap (λ (s : Bool). cond s ((48 + value) ∷ []) (digits n (value / 10) ++ ((48 + value % 10) ∷ []))) (le-ltb value 10 large) ∙ ap (λ (k : ℕ). digits k (value / 10) ++ ((48 + value % 10) ∷ [])) (less n)
  where
    less : (k : ℕ) → k ≡ suc k - 1
    less k = omega arith
