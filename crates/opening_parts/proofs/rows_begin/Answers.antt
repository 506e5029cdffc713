-- `rows_begin` goes back over the rows of each part.
-- Assumes nothing.
use mathlib.Core.Path.{◌≡◌, subst}
use Prim.Native.Nat.{ℕ, ◌-◌}
use native.Mathlib.Omega.{arith}
use Rattle.image.specs.Places.{first_row_of}
use Rattle.opening_parts.proofs.Step.{rows_last, rows_back, rows_first}
use Rattle.opening_parts.proofs.rows_begin.Goals as goal

pub loop-p-init : goal.loop-p-init
loop-p-init c = let args = c.args in λ m given. rows_last m args.sizes.now args.parts args.rows_end given

pub loop-p-preserved : goal.loop-p-preserved
loop-p-preserved c =
    let args = c.args in
    let loop = c.loop-p in
    λ m given. rows_back m args.sizes.now args.parts args.rows_end given (loop.p - 1) loop.p _ loop.row _ (omega arith) (omega arith) c.word.ensures c.row_start-row.ensures (loop.invariant m given)

pub returns : goal.returns
returns c =
    let args = c.args in
    let loop = c.loop-p in
    λ m given. rows_first m args.sizes.now args.parts args.rows_end given loop.row (subst (λ (k : ℕ). loop.row ≡ first_row_of m k) (omega arith) (loop.invariant m given))
