-- `search_at` starts at the leaf of x, and turns from there.
-- Assumes nothing.
use mathlib.Core.Path.{ap, ◌∙◌}
use Rattle.fleet.specs.Question.{nearest}
use Rattle.question.proofs.Calls.{begins}
use Rattle.question.proofs.search.Search.search_at.Goals as goal

pub returns : goal.returns
returns c = (
  c.search_on.ensures.0 ∙ c.offer_leaf.ensures.0,
  λ m fleet g room hx.
      let answer = c.search_on.ensures.1 m fleet c.args.x g hx
      (begins c.args.mem.now c.args.x c.args.dx.now c.args.self.now c.requires c.relax_own.new.lists c.offer_leaf.new.best c.keep_out.new.self c.counts_in-counts.ensures c.vertex_word-leaf.ensures c.vertex_word-place.ensures c.put.ensures c.relax_own.ensures c.offer_leaf.ensures.0 c.offer_leaf.ensures.1 c.keep_out.ensures.0 c.keep_out.ensures.1 c.keep_out.ensures.2 c.bound_outside-self.ensures m fleet g room hx) in
      answer ∙ ap (nearest m fleet c.args.x) c.offer_leaf.ensures.0,
)
