-- `number2` is the field of 2 bytes.
-- Assumes nothing.
use native.Mathlib.Omega.{arith}
use Rattle.std.proofs.lemmas.List.{get_or_past}
use Rattle.map_bytes.proofs.Numbers.{field_two}
use Rattle.map_bytes.proofs.number2.Goals as goal

pub returns-in-empty : goal.returns-in-empty
returns-in-empty c =
    let none = get_or_past c.rest.result.now in
    (omega (arith, field_two c.args.bytes.now c.args.at c.rest.ensures, none 0 0 (omega arith), none 1 0 (omega arith)), omega arith)

pub returns-in-len1 : goal.returns-in-len1
returns-in-len1 c = (omega (arith, field_two c.args.bytes.now c.args.at c.rest.ensures, get_or_past c.rest.result.now 1 0 (omega arith)), omega arith)

pub returns-in-len2-up : goal.returns-in-len2-up
returns-in-len2-up c = (omega (arith, field_two c.args.bytes.now c.args.at c.rest.ensures, c.from_le_bytes.ensures), omega arith)
