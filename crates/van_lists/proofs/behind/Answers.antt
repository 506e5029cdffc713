-- `van_lists::behind` is the walk of specs/.
-- Assumes nothing.
use mathlib.Core.Path.{◌≡◌, sym, ap, ◌∙◌}
use Prim.Native.Nat.{ℕ, suc, ◌+◌, ◌-◌}
use native.Mathlib.Omega.{arith}
use Rattle.std.specs.Prelude.{get_or}
use Rattle.van_lists.specs.Walk.{walk}
use Rattle.van_lists.proofs.Walk.{walk_done, walk_stops, walk_on}
use Rattle.van_lists.proofs.behind.Goals as goal

pub returns-in_default : goal.returns-in_default
returns-in_default c =
    sym (walk_stops c.args.mem.now c.args.counts c.args.van c.loop.at _ (λ some. omega (arith, c.in_default.ensures, c.word.ensures))) ∙ c.loop.invariant

pub returns-then-van-other : goal.returns-then-van-other
returns-then-van-other c =
    sym (walk_stops c.args.mem.now c.args.counts c.args.van c.loop.at _ (λ some. omega (arith, c.in-Some.ensures, c.word.ensures))) ∙ c.loop.invariant

pub loop-preserved : goal.loop-preserved
loop-preserved c =
    let link : get_or c.args.mem.now c.loop.at 0 ≡ c.in-Some.other + 1 = omega (arith, c.in-Some.ensures, c.word.ensures) in
    let left : c.args.van - c.loop.counter ≡ suc (c.args.van - (c.loop.counter + 1)) = omega arith in
    ap (λ (k : ℕ). walk c.args.mem.now c.args.counts c.args.van (k + 4) (c.args.van - (c.loop.counter + 1))) c.van_at-at.ensures
    ∙ sym (walk_on c.args.mem.now c.args.counts c.args.van c.loop.at c.in-Some.other _ link (omega arith))
    ∙ ap (walk c.args.mem.now c.args.counts c.args.van c.loop.at) (sym left)
    ∙ c.loop.invariant

pub returns : goal.returns
returns c = sym (walk_done c.args.mem.now c.args.counts c.args.van c.loop.at _ (omega arith)) ∙ c.loop.invariant
