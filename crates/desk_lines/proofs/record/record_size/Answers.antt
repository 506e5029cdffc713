-- `record::record_size` is `record_size`.
-- Assumes nothing.
use Rattle.desk_lines.proofs.Sized.{size_short, size_cut, size_whole}
use Rattle.desk_lines.proofs.record.record_size.Goals.{then-len-lt2-via-then-len-lt2, then-len-lt2-via-else-len-lt2+then-bytes-len}
use Rattle.desk_lines.proofs.record.record_size.Goals as goal

pub returns-then-len-lt2 : goal.returns-then-len-lt2
returns-then-len-lt2 c = elim c.then-len-lt2.branch [
  | then-len-lt2-via-then-len-lt2 w ↦ size_short c.args.bytes.now _ c.number4-len.ensures w.if-len-lt2.true
  | then-len-lt2-via-else-len-lt2+then-bytes-len w ↦ size_cut c.args.bytes.now _ c.number4-len.ensures w.if-len-lt2.false w.if-bytes-len.true
]

pub returns : goal.returns
returns c = size_whole c.args.bytes.now _ c.number4-len.ensures c.if-len-lt2.false c.if-bytes-len.false
