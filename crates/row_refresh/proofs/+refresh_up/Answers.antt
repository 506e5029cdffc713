-- `row_refresh::refresh_up` is `refreshed_up`.
use mathlib.Core.Path.{refl, ◌∙◌}
use Prim.Native.Nat.{◌-◌}
use native.Mathlib.Omega.{arith}
use Rattle.row_refresh.proofs.Chain.{up_done, up_untouched, up_end, up_turn}
use Rattle.row_refresh.proofs.+refresh_up.Goals as goal
use Rattle.row_refresh.proofs.+refresh_up.Goals.{then-levels-eq0-via-then-levels-eq0, then-levels-eq0-via-else-levels-eq0+then-not-refresh}

pub returns-then-levels-eq0 : goal.returns-then-levels-eq0
returns-then-levels-eq0 t c =
    elim c.then-levels-eq0.branch [
      | then-levels-eq0-via-then-levels-eq0 w ↦ w.mem-is ∙ up_done c.args.mem.now c.args.p c.args.v c.args.arrives c.args.levels (omega arith)
      | then-levels-eq0-via-else-levels-eq0+then-not-refresh w ↦
          w.mem-is ∙ up_untouched c.args.mem.now c.args.p c.args.v c.args.arrives (c.args.levels - 1) c.args.levels _ _ (omega arith) w.refresh.ensures w.if-not-refresh.true
    ]

pub returns-then-above-p : goal.returns-then-above-p
returns-then-above-p t c =
    up_turn c.args.mem.now c.args.p c.args.v c.args.arrives (c.args.levels - 1) c.args.levels _ _ (omega arith) c.refresh.ensures _ c.part_word-above.ensures c.if-not-refresh.false _ _ refl c.if-above-p.true c.refresh_up.ensures

pub returns-else-above-p : goal.returns-else-above-p
returns-else-above-p t c =
    up_end c.args.mem.now c.args.p c.args.v c.args.arrives (c.args.levels - 1) c.args.levels _ _ (omega arith) c.refresh.ensures _ c.part_word-above.ensures c.if-not-refresh.false c.if-above-p.false
