-- `number4` is the field of 4 bytes.
-- Assumes nothing.
use Rattle.map_bytes.proofs.Numbers.{field_four}
use Rattle.map_bytes.proofs.number4.Goals as goal

pub returns : goal.returns
returns c = field_four c.args.bytes.now c.args.at c.rest-rest.ensures c.number2.ensures.0 c.number2-2.ensures.0
