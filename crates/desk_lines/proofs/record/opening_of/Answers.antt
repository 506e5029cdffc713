-- `record::opening_of` is `opening_of`.
-- Assumes nothing.
use Rattle.std.proofs.Common.{rules, ◌≡◌, sym, ◌∙◌, Err}
use Rattle.desk_lines.specs.Read.{bad}
use Rattle.desk_lines.proofs.Sized.{opening_is}
use Rattle.desk_lines.proofs.record.opening_of.Goals as goal

pub returns-in_err-size : goal.returns-in_err-size
returns-in_err-size c =
    let told : c.from_residual.result ≡ Err bad = search rules in
    told ∙ sym (opening_is c.args.bytes.now (sym c.in_err-size.ensures))

pub returns-then-size-ne-OPENING_BYTES : goal.returns-then-size-ne-OPENING_BYTES
returns-then-size-ne-OPENING_BYTES c = rw (opening_is c.args.bytes.now (sym c.in_ok-size.ensures)) (search rules)

pub returns : goal.returns
returns c = rw (opening_is c.args.bytes.now (sym c.in_ok-size.ensures)) (search rules)
