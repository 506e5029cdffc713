-- `record::next_call` is `turn_of`.
-- Assumes nothing.
use Rattle.std.proofs.Common.{rules, ◌≡◌, sym, ◌∙◌, Ok, Err, arith}
use Rattle.desk_lines.specs.Read.{bad}
use Rattle.desk_lines.proofs.Sized.{turn_over, turn_bad, turn_call, size_fits}
use Rattle.desk_lines.proofs.record.next_call.Goals as goal

pub returns-then-is_empty : goal.returns-then-is_empty
returns-then-is_empty c = sym (turn_over c.args.bytes.now (search rules))

pub returns-in_err-size : goal.returns-in_err-size
returns-in_err-size c =
    let told : c.from_residual.result ≡ Err bad = search rules in
    told ∙ sym (turn_bad c.args.bytes.now (search rules) (sym c.in_err-size.ensures))

pub slice_bounds-call_of-count : goal.slice_bounds-call_of-count
slice_bounds-call_of-count c = omega (arith, size_fits c.args.bytes.now (sym c.in_ok-size.ensures))

pub slice_bounds-call_of-start : goal.slice_bounds-call_of-start
slice_bounds-call_of-start c = omega (arith, size_fits c.args.bytes.now (sym c.in_ok-size.ensures))

pub slice_bounds-call_of-end : goal.slice_bounds-call_of-end
slice_bounds-call_of-end c = omega (arith, size_fits c.args.bytes.now (sym c.in_ok-size.ensures))

pub returns-in_err-call : goal.returns-in_err-call
returns-in_err-call c =
    let told : c.from_residual-in_err-call.result ≡ Err bad = search rules in
    told ∙ sym (turn_call c.args.bytes.now (search rules) (sym c.in_ok-size.ensures) (Err bad) (search rules))

pub returns : goal.returns
returns c = sym (turn_call c.args.bytes.now (search rules) (sym c.in_ok-size.ensures) (Ok c.in_ok-call.call) (search rules))
