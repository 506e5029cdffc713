-- `lower_key` makes the key less; a part that had none joins those that wait.
-- Assumes nothing.
use Rattle.part_keys.proofs.Spreading.{key_lowered, key_counted}
use Rattle.part_keys.proofs.lower_key.Goals as goal

pub returns : goal.returns
returns c = (
  key_lowered c.args.keys.now c.args.part c.args.key c.word-old.ensures c.min.ensures c.put.ensures,
  c.put-2.ensures,
  key_counted c.args.keys.now c.args.part c.args.key c.args.count c.word-old.ensures c.joins.ensures c.more.ensures.0,
)
