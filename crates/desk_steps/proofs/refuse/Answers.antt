-- `refuse` stores the lines of a refused opening.
-- Assumes nothing.
use mathlib.Core.Path.{subst}
use Prim.Native.Nat.{ℕ}
use native.Mathlib.Omega.{arith}
use Rattle.desk_lines.specs.Desk.{refused_opening}
use Rattle.desk_steps.specs.Step.{LastStep}
use Rattle.desk_steps.proofs.Closing.{line_ends, closed_two}
use Rattle.desk_steps.proofs.refuse.Goals as goal

pub finish-requires : goal.finish-requires
finish-requires c = omega (arith, line_ends _ c.write_line-said.ensures)

pub returns : goal.returns
returns c =
    subst (λ (n : ℕ). LastStep (refused_opening n) c.finish.result c.args.out.now 0 c.finish.new.out) c.number-number.ensures
    (closed_two _ _ c.write_line-said.ensures c.finish.ensures)
