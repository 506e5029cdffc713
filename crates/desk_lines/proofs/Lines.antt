-- Lines written one after the other, and how many bytes they take.
-- Assumes nothing.
use mathlib.Core.Path.{◌≡◌, refl, sym, ◌∙◌, ap}
use mathlib.Core.List.{List, [], ◌∷◌, ◌++◌, map, append_assoc, append-nil}
use Prim.Native.Nat.{ℕ, ◌+◌, ◌*◌, ◌≤◌}
use Prim.Native.String.{String}
use native.Mathlib.Omega.{arith}
use lib.ListN.{length, length-append}
use Rattle.words.specs.Lists.{gather}
use Rattle.desk_lines.specs.declared.line.Line.{Line}
use Rattle.desk_lines.specs.declared.line.Line.TheVariants.{Opened, Ok, No, Length, Van, Bad, End}
use Rattle.desk_lines.specs.Line.{codes, decimal, spaced, line_text, text_of, line_bytes}
use Rattle.desk_lines.specs.Written.{Wrote}
use Rattle.desk_lines.proofs.Writing.{digits_few, wrote_as, wrote_more}

pub texts_append : (a b : List Line) → gather text_of (a ++ b) ≡ gather text_of a ++ gather text_of b
texts_append [] b = refl
texts_append (line ∷ a) b = ap (λ (l : List ℕ). text_of line ++ l) (texts_append a b) ∙ sym (append_assoc (text_of line) (gather text_of a) (gather text_of b))

-- A line alone, and one after others.

module _ {out : List ℕ} {at end : ℕ} {out' : List ℕ} where
  pub wrote_line : (line : Line) → Wrote out at (text_of line) end out' → Wrote out at (gather text_of (line ∷ [])) end out'
  wrote_line line w = wrote_as (text_of line ++ []) (sym (append-nil (text_of line))) w

  pub wrote_after : (lines : List Line) (line : Line) {mid : ℕ} {out₁ : List ℕ} → Wrote out at (gather text_of lines) mid out₁ → Wrote out₁ mid (text_of line) end out'
      → Wrote out at (gather text_of (lines ++ (line ∷ []))) end out'
  wrote_after lines line a b =
      wrote_as (gather text_of (lines ++ (line ∷ []))) (sym (texts_append lines (line ∷ []) ∙ ap (λ (l : List ℕ). gather text_of lines ++ l) (append-nil (text_of line)))) (wrote_more a b)

-- No line takes more than `line_bytes`.

spaced_few : (numbers : List ℕ) → length (spaced (map decimal numbers)) ≤ 1 + 11 * length numbers
spaced_few [] = omega arith
spaced_few (n ∷ ns) = omega (arith, length-append (decimal n) (spaced (map decimal ns)), digits_few 10 n, spaced_few ns)

named : (place : ℕ) (name : String) (numbers : List ℕ) → length (codes name) ≤ 4 → length numbers ≤ 3 → length (line_text place name numbers) ≤ line_bytes
named place name numbers short few =
    omega (arith, length-append (decimal place ++ codes " " ++ codes name) (spaced (map decimal numbers)), length-append (decimal place ++ codes " ") (codes name), length-append (decimal place) (codes " "), digits_few 10 place, spaced_few numbers)

pub line_few : (line : Line) → length (text_of line) ≤ line_bytes
unfolding text_of
line_few (Opened vertices roads parts) = named 0 "open" (vertices ∷ roads ∷ parts ∷ []) (omega arith) (omega arith)
line_few (Ok place stamp) = named place "ok" (stamp ∷ []) (omega arith) (omega arith)
line_few (No place number) = named place "no" (number ∷ []) (omega arith) (omega arith)
line_few (Length place count) = named place "list" (count ∷ []) (omega arith) (omega arith)
line_few (Van place number distance stamp) = named place "van" (number ∷ distance ∷ stamp ∷ []) (omega arith) (omega arith)
line_few (Bad place) = named place "bad" [] (omega arith) (omega arith)
line_few (End place) = omega (arith, spaced_few (place ∷ []))

pub lines_few : (lines : List Line) → length (gather text_of lines) ≤ line_bytes * length lines
lines_few [] = omega arith
lines_few (line ∷ lines) = omega (arith, length-append (text_of line) (gather text_of lines), line_few line, lines_few lines)
