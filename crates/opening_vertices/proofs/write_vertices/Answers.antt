-- `write_vertices` writes each vertex after those below it.
-- Assumes nothing.
use Rattle.std.proofs.Common.{refl, ◌∙◌, arith}
use Rattle.layout.specs.Layout.{words_in_vertex}
use Rattle.image.specs.Places.{vertices_at}
use Rattle.records.proofs.Written.{written_none}
use Rattle.opening_fresh.specs.Fresh.{fresh_vertex}
use Rattle.opening_vertices.proofs.Step.{taken_none, vertex_more}
use Rattle.opening_vertices.proofs.write_vertices.Goals as goal

pub loop-v-init : goal.loop-v-init
loop-v-init c =
    let args = c.args in
    (omega arith, refl, λ m ready. (taken_none m args.leaves.now args.body.now args.roads args.vertices args.base args.ins.now args.places.now args.mem.now ready, written_none (vertices_at m) words_in_vertex (fresh_vertex m) 0 args.mem.now))

pub loop-v-preserved : goal.loop-v-preserved
loop-v-preserved c =
    let args = c.args in
    let loop = c.loop-v in
    let skip = c.skip-road in
    let taken = c.next_place-place in (
      skip.ensures.passed.most,
      taken.auto.places ∙ loop.invariant.1,
      λ m ready.
          let old = loop.invariant.2 m ready in
          vertex_more m args.leaves.now args.body.now args.roads args.vertices args.base args.ins.now args.places.now args.mem.now ready loop.v loop.road _ _ _ _ loop.places _ loop.mem _ c.loop-v-test.true loop.invariant.1 old.0 skip.ensures
          c.word-leaf.ensures taken.ensures.0 taken.ensures.1 c.word-link.ensures c.put_words.ensures old.1,
    )
