use mathlib.Core.Path.{◌≡◌}
use lib.ListN.{length}
use Rattle.row_lists.specs.Rows.{shows_own}
use Rattle.row_distances.specs.Distances.{Alone, Closer}
use Rattle.listing.proofs.Listing.{Listing}
use Rattle.row_distances.proofs.Relaxing.{Before}
use Rattle.row_distances.proofs.lower_rows.Given as goal

abbrev pub invariant-loop-i : goal.invariant-loop-i
invariant-loop-i l = record {
  same_length : length l.dx ≡ length l.initial.dx;
  listing : Listing (shows_own l.mem l.fn.part.first) l.fn.part.size l.i l.lists.asked l.count;
  closer : Alone l.mem l.fn.part.first l.fn.part.size l.initial.dx l.place → Closer l.mem l.fn.part.first l.fn.part.table l.fn.part.size l.initial.dx (Before l.mem l.fn.part.first l.fn.part.size l.initial.dx l.i) l.dx;
}
