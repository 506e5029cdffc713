-- `write_net` writes the roads and then the vertices of a sound map that is shown.
-- Assumes nothing.
use mathlib.Core.Path.{◌∙◌}
use Prim.Native.Nat.{ℕ}
use lib.ListN.{length-replicate}
use Rattle.words.specs.Limits.{most_vertices, most_parts}
use Rattle.words.proofs.Lists.{all_same}
use Rattle.opening_sections.proofs.Ready.{roads_ready, net_stands}
use Rattle.opening_sections.proofs.write_net.Goals as goal

pub returns : goal.returns
returns c =
    let args = c.args in
    let counts = args.counts in
    let wide = length-replicate {A = ℕ} most_vertices 0 in
    λ m parents lifts sizes used shown long.
    net_stands m parents args.leaves.now args.body.now lifts sizes counts.vertices counts.roads counts.parts used shown args.mem.now long _ _ _ _ _ c.vertices_from-vertices_at.ensures (c.write_roads.auto.ins ∙ wide)
    (length-replicate {A = ℕ} most_parts 0) (λ q h. all_same most_parts q 0)
    (c.write_roads.ensures m (roads_ready m parents args.leaves.now args.body.now lifts sizes counts.vertices counts.roads counts.parts used shown args.mem.now long _ _ c.roads_from-roads_at.ensures wide (λ v h. all_same most_vertices v 0)))
    (c.write_vertices.ensures m)
