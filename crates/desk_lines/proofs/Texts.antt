-- The text of each line, as it is put together.
-- Assumes nothing.
use mathlib.Core.Path.{◌≡◌, refl, sym, ◌∙◌, ap}
use mathlib.Core.List.{List, [], ◌∷◌, ◌++◌, map, append_assoc, append-nil}
use Prim.Native.Nat.{ℕ, ◌+◌, ◌≤◌, ◌<◌}
use native.Mathlib.Numerals.{add-one}
use lib.ListN.{length, take, set, get_or}
use lib.Seq.{take-suc, take_all}
use Rattle.words.specs.Lists.{gather}
use Rattle.desk_lines.specs.declared.line.Line.{Line}
use Rattle.desk_lines.specs.declared.line.Line.TheVariants.{Opened, Ok, No, Length, Van, Bad, End}
use Rattle.desk_lines.specs.Line.{codes, decimal, spaced, text_of}
use Rattle.desk_lines.specs.Written.{Wrote}
use Rattle.desk_lines.proofs.Writing.{wrote_as, wrote_byte, wrote_more, wrote_front}

-- a number with a space before it
abbrev pub spaced_number : ℕ → List ℕ
spaced_number value = 32 ∷ decimal value

spaced_numbers : (numbers : List ℕ) → gather spaced_number numbers ++ (10 ∷ []) ≡ spaced (map decimal numbers)
spaced_numbers [] = refl
spaced_numbers (n ∷ ns) = append_assoc (spaced_number n) (gather spaced_number ns) (10 ∷ []) ∙ ap (λ (l : List ℕ). spaced_number n ++ l) (spaced_numbers ns)

one_more : (numbers : List ℕ) (value : ℕ) → gather spaced_number numbers ++ spaced_number value ≡ gather spaced_number (numbers ++ (value ∷ []))
one_more [] value = sym (append-nil (spaced_number value))
one_more (n ∷ ns) value = append_assoc (spaced_number n) (gather spaced_number ns) (spaced_number value) ∙ ap (λ (l : List ℕ). spaced_number n ++ l) (one_more ns value)

-- the first i numbers, and one more
pub wrote_number : (out : List ℕ) (at : ℕ) (numbers : List ℕ) (i : ℕ) {mid end : ℕ} {out₁ out₂ out₃ : List ℕ} → i < length numbers → Wrote out at (gather spaced_number (take i numbers)) mid out₁
    → out₂ ≡ set out₁ mid 32 → Wrote out₂ (mid + 1) (decimal (get_or numbers i 0)) end out₃ → Wrote out at (gather spaced_number (take (i + 1) numbers)) end out₃
wrote_number out at numbers i h so_far e w =
    wrote_as _ (one_more (take i numbers) (get_or numbers i 0) ∙ ap (gather spaced_number) (let longer : take i numbers ++ (get_or numbers i 0 ∷ []) ≡ take (i + 1) numbers = sym (rw (add-one, take-suc numbers i 0)) in longer))
    (wrote_more so_far (wrote_front e w))

-- all of them, and the end of the line
pub wrote_numbers : {out : List ℕ} {at : ℕ} (numbers : List ℕ) (i : ℕ) {mid : ℕ} {out₁ out₂ : List ℕ} → length numbers ≤ i → Wrote out at (gather spaced_number (take i numbers)) mid out₁
    → out₂ ≡ set out₁ mid 10 → Wrote out at (spaced (map decimal numbers)) (mid + 1) out₂
wrote_numbers numbers i {mid} {out₁} h so_far e =
    wrote_as _ (ap (λ (l : List ℕ). gather spaced_number l ++ (10 ∷ [])) (take_all i numbers h) ∙ spaced_numbers numbers) (wrote_more so_far (wrote_byte out₁ mid 10 e))

module _ {line : Line} where
  pub opened_text : {a b c : ℕ} → line ≡ Opened a b c → decimal 0 ++ codes " open" ++ spaced (map decimal (a ∷ b ∷ c ∷ [])) ≡ text_of line
  unfolding text_of
  opened_text e = simp append_assoc (sym (ap text_of e ∙ simp append_assoc))

  pub ok_text : {place a : ℕ} → line ≡ Ok place a → decimal place ++ codes " ok" ++ spaced (map decimal (a ∷ [])) ≡ text_of line
  unfolding text_of
  ok_text e = simp append_assoc (sym (ap text_of e ∙ simp append_assoc))

  pub no_text : {place a : ℕ} → line ≡ No place a → decimal place ++ codes " no" ++ spaced (map decimal (a ∷ [])) ≡ text_of line
  unfolding text_of
  no_text e = simp append_assoc (sym (ap text_of e ∙ simp append_assoc))

  pub length_text : {place a : ℕ} → line ≡ Length place a → decimal place ++ codes " list" ++ spaced (map decimal (a ∷ [])) ≡ text_of line
  unfolding text_of
  length_text e = simp append_assoc (sym (ap text_of e ∙ simp append_assoc))

  pub van_text : {place a b c : ℕ} → line ≡ Van place a b c → decimal place ++ codes " van" ++ spaced (map decimal (a ∷ b ∷ c ∷ [])) ≡ text_of line
  unfolding text_of
  van_text e = simp append_assoc (sym (ap text_of e ∙ simp append_assoc))

  pub bad_text : {place : ℕ} → line ≡ Bad place → decimal place ++ codes " bad" ++ spaced (map decimal []) ≡ text_of line
  unfolding text_of
  bad_text e = simp append_assoc (sym (ap text_of e ∙ simp append_assoc))

  pub end_text : {place : ℕ} → line ≡ End place → codes "end" ++ spaced (map decimal (place ∷ [])) ≡ text_of line
  unfolding text_of
  end_text e = simp append_assoc (sym (ap text_of e ∙ simp append_assoc))
