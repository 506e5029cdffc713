-- `meet_all` follows the links: on the words of a map the roads into the vertex up to the link have been looked at.
-- Assumes nothing.
use mathlib.Core.Path.{◌≡◌, ap, ◌∙◌}
use Prim.Native.Nat.{ℕ, ◌+◌, ◌%◌, ◌<◌, min}
use native.Mathlib.Omega.{arith}
use Rattle.std.specs.List.{slice_range}
use Rattle.words.specs.Lists.{word}
use Rattle.near_vans.proofs.InRoads.{in_road, going_on, going_end}
use Rattle.near_vans.proofs.front.Front.meet_all.Goals as goal

pub returns-in_default : goal.returns-in_default
returns-in_default c = λ m s x v o. going_end o (c.loop.invariant.1 m s x v o) (omega (arith, c.in_default.ensures))

pub loop-preserved : goal.loop-preserved
loop-preserved c =
    let r : ℕ = c.road_at-r.result in
    let within : c.in_ok-road.road.now ≡ slice_range c.args.mem.now r (r + 4) = c.in_ok-road.ensures.lookup.0.2 in
    let at : (w : ℕ) → w < 4 → word c.in_ok-road.road.now w ≡ word c.args.mem.now (r + w) = λ w h. in_road c.args.mem.now c.in_ok-road.road.now r w within h in (
      omega (arith, at 3 (omega arith), c.type_inv.mem (r + 3)),
      λ m s x v o.
          going_on o (c.loop.invariant.1 m s x v o) c.in-Some.ensures.0 c.in-Some.ensures.1 c.road_at-r.ensures
          (ap (λ (w : ℕ). w % 4096) (at 0 (omega arith) ∙ ap (word c.args.mem.now) (omega arith)))
          (c.far_sum-far.ensures ∙ ap (λ (w : ℕ). min (c.args.near + w) 4294967295) (at 2 (omega arith))) (at 3 (omega arith)) c.in_ok-meet.ensures,
    )
