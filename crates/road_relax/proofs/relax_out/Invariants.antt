use Rattle.road_relax.proofs.Relaxed.{LeftAfter}
use Rattle.road_relax.proofs.relax_out.Given as goal

abbrev pub invariant-loop-i : goal.invariant-loop-i
invariant-loop-i l = LeftAfter l.mem l.at l.k l.u l.initial.labels l.initial.waiting l.labels l.waiting l.i
