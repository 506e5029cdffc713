-- `open` opens the map where the opening record is good.
-- Assumes nothing.
use mathlib.Core.Path.{refl}
use native.Mathlib.Omega.{arith}
use Rattle.desk_steps.proofs.Beginning.{opens_refused, opens}
use Rattle.desk_steps.proofs.open.Goals as goal

pub returns-in-Err : goal.returns-in-Err
returns-in-Err c = opens_refused c.args.input.now c.args.map _ c.in-Ok.ensures refl c.in-Err.ensures c.in-Err.refusal refl

pub returns : goal.returns
returns c = opens c.args.input.now c.args.map _ c.in-Ok.ensures refl c.open.ensures _ (omega arith) refl c.write_line-end.ensures
