use Prim.Native.Nat.{◌+◌, ◌≤◌}
use Rattle.listing.specs.Lists.{Among}
use Rattle.row_lists.specs.Rows.{Apart}
use Rattle.row_distances.specs.Distances.{Closer}
use Rattle.part_keys.specs.Keys.{far_count, Spread}
use Rattle.part_bounds.proofs.relax_spread.Given as goal

abbrev pub invariant-loop-asked : goal.invariant-loop-asked
invariant-loop-asked l = record {
  no_more : far_count l.waiting.keys + l.n ≤ far_count l.initial.waiting.keys + l.initial.n;
  room : far_count l.waiting.keys + l.initial.n ≤ 512;
  opened : Apart l.mem l.fn.part.first l.fn.part.size → Closer l.mem l.fn.part.first l.fn.part.table l.fn.part.size l.initial.dx (Among l.lists.asked l.asked-index) l.dx × Spread l.mem l.fn.part.first l.dx (Among l.lists.asked l.asked-index) l.initial.waiting.keys l.initial.waiting.waits l.initial.n l.waiting.keys l.waiting.waits l.n;
}
