-- `record::take_map` is `take_records` of four records. The loop's invariant: what is left to take from here is what there was to take.
-- Assumes nothing.
use mathlib.Core.Path.{◌≡◌, sym, ◌∙◌}
use Prim.Native.Nat.{◌+◌, ◌-◌}
use native.Mathlib.Omega.{arith}
use Rattle.desk_lines.specs.Read.{take_records}
use Rattle.desk_lines.proofs.Taking.{none_left, take_ended, take_long, take_next}
use Rattle.desk_lines.proofs.record.take_map.Goals as goal

pub returns-then-bytes-at : goal.returns-then-bytes-at
returns-then-bytes-at c = sym (take_ended c.args.bytes.now c.loop.at (4 - c.loop.counter) (omega arith) c.if-bytes-at.true) ∙ c.loop.invariant.1

pub returns-then-at-gt-MAP_ROOM : goal.returns-then-at-gt-MAP_ROOM
returns-then-at-gt-MAP_ROOM c =
    sym (take_long c.args.bytes.now c.loop.at _ c.number4.ensures (4 - c.loop.counter) (omega arith) c.if-bytes-at.false (omega arith)) ∙ c.loop.invariant.1

pub loop-preserved : goal.loop-preserved
loop-preserved c =
    let left : 4 - (c.loop.counter + 1) ≡ 4 - c.loop.counter - 1 = omega arith in
    let end : c.loop.at + (4 + c.number4.result) ≡ c.loop.at + 4 + c.number4.result = omega arith in (
      omega arith,
      (λ k. take_records (left k) (end k) c.args.bytes.now)
          ∙ sym (take_next c.args.bytes.now c.loop.at _ c.number4.ensures (4 - c.loop.counter) (omega arith) c.if-bytes-at.false (omega arith))
          ∙ c.loop.invariant.1,
    )

pub returns : goal.returns
returns c = sym (none_left c.args.bytes.now c.loop.at (4 - c.loop.counter) (omega arith)) ∙ c.loop.invariant.1
