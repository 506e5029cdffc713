use mathlib.Core.List.{List}
use Prim.Native.Nat.{ℕ, ◌+◌, ◌≤◌}
use lib.ListN.{length}
use Rattle.row_lists.specs.Rows.{Nears}
use Rattle.listing.specs.Lists.{Among}
use Rattle.part_keys.specs.Keys.{far_count, Spread}
use Rattle.part_keys.proofs.spread_known.Given as goal

abbrev pub invariant-loop-place : goal.invariant-loop-place
invariant-loop-place l = record {
  no_more : far_count l.waiting.keys + l.n ≤ far_count l.initial.waiting.keys + l.initial.n;
  room : far_count l.waiting.keys + l.initial.n ≤ 512;
  spread : (dx : List ℕ) → Nears l.mem l.fn.part.first dx l.lists.places l.lists.near l.lists.known → Spread l.mem l.fn.part.first dx (Among l.lists.places (length l.yielded)) l.initial.waiting.keys l.initial.waiting.waits l.initial.n l.waiting.keys l.waiting.waits l.n;
}
