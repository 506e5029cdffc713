-- `road_relax::relax_out` meets its contract. The loop's invariant: the roads that are left give what all were to give. Assumes nothing.
use Rattle.road_relax.proofs.Relaxed.{left_here, left_next, left_none}
use borrow.Author.Rules.{rules}
use Prim.Native.Nat.{◌-◌, ◌≤◌}
use native.Mathlib.Omega.{arith}
use Rattle.road_relax.proofs.relax_out.Goals as goal

pub relax_road-requires : goal.relax_road-requires
relax_road-requires c = left_here _ (search rules) c.loop-i.invariant

pub overflow_mul-i : goal.overflow_mul-i
overflow_mul-i c = omega (arith, (left_here _ (search rules) c.loop-i.invariant).fits)

pub overflow_add-at : goal.overflow_add-at
overflow_add-at c = omega (arith, (left_here _ (search rules) c.loop-i.invariant).fits)

pub loop-i-preserved : goal.loop-i-preserved
loop-i-preserved c =
    rw (c.relax_road.ensures.labels_after, c.relax_road.ensures.keys_after)
    (left_next _ (search rules) c.loop-i.invariant)

pub returns : goal.returns
returns c =
    let none : c.args.k - c.loop-i.i ≤ 0 = omega arith in
    let both = left_none none c.loop-i.invariant in
    record { labels_after = both.0; keys_after = both.1 }
