-- NextStep that end the program, and how much room the lines of a step take.
-- Assumes nothing.
use mathlib.Core.Path.{◌≡◌}
use mathlib.Core.List.{List, [], ◌∷◌}
use Prim.Native.Nat.{ℕ, ◌+◌, ◌≤◌}
use native.Mathlib.Omega.{arith}
use lib.ListN.{length}
use Rattle.words.specs.Lists.{gather}
use Rattle.desk_lines.specs.declared.line.Line.{Line}
use Rattle.desk_lines.specs.Line.{line_bytes, text_of}
use Rattle.desk_lines.specs.Written.{Wrote}
use Rattle.desk_lines.proofs.Lines.{line_few, lines_few}
use Rattle.desk_lines.proofs.Writing.{wrote_more}
use Rattle.desk_calls.specs.Served.{most_lines}
use Rattle.desk_steps.specs.declared.Step.{Step}
use Rattle.desk_steps.specs.Plan.{last_lines}
use Rattle.desk_steps.specs.Step.{Room, LastStep, GoesBy}

module _ {out out' : List ℕ} {at end : ℕ} where
  pub line_ends : (line : Line) → Wrote out at (text_of line) end out' → end ≤ at + line_bytes
  line_ends line w = omega (arith, w.ends, line_few line)

  -- the lines of a step fit
  pub lines_fit : (lines : List Line) → length lines ≤ most_lines → Room at (length out) → Wrote out at (gather text_of lines) end out' → end ≤ length out
  lines_fit lines few room w = omega (arith, w.ends, lines_few lines, room.free)

module _ {r : Step} {out out₁ out' : List ℕ} {at mid : ℕ} where
  pub closed_two : (first second : Line) → Wrote out at (text_of first) mid out₁ → LastStep (second ∷ []) r out₁ mid out' → LastStep (first ∷ second ∷ []) r out at out'
  closed_two first second w c = record { wrote = wrote_more w c.wrote; over = c.over }

pub closed_goes : (lines : List Line) {r : Step} {mem mem' out out' : List ℕ} {at : ℕ} → LastStep lines r out at out' → mem' ≡ mem → GoesBy (last_lines lines) r mem mem' out at out'
closed_goes lines c e = record { wrote = c.wrote; follows = (c.over, e) }
