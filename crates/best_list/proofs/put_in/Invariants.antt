use Rattle.std.specs.Prelude.{◌≡◌, ◌+◌, take, length}
use Rattle.best_list.proofs.Pass.{Moving}
use Rattle.best_list.proofs.put_in.Given as goal

abbrev pub invariant-loop-i : goal.invariant-loop-i
invariant-loop-i l = (length l.offers ≡ 32) × Moving l.offer (take l.end l.initial.offers) (take (l.end + 1) l.offers) l.i
