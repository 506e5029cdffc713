-- `over_parts` searches with room for as many distances as the map has vertices.
-- Assumes nothing.
use native.Mathlib.Omega.{arith}
use lib.ListN.{length-replicate}
use Prim.Native.Nat.{ℕ}
use Rattle.words.specs.Limits.{FAR}
use Rattle.van_offers.proofs.Shown.{vertices_read}
use Rattle.question.proofs.Calls.{far_array}
use Rattle.question.proofs.over_parts.Goals as goal

pub returns-then-word-le-FEW_VERTICES : goal.returns-then-word-le-FEW_VERTICES
returns-then-word-le-FEW_VERTICES c = (
  c.search_with.ensures.0,
  λ m fleet g hx. c.search_with.ensures.1 m fleet g (omega (arith, vertices_read g, c.word.ensures, c.if-word-le-FEW_VERTICES.true, length-replicate {A = ℕ} 1024 FAR)) hx,
)

pub search_with-requires : goal.search_with-requires
search_with-requires c =
    (c.requires.0, c.requires.1, far_array 1024)

pub search_with-requires-else-word-le-FEW_VERTICES : goal.search_with-requires-else-word-le-FEW_VERTICES
search_with-requires-else-word-le-FEW_VERTICES c =
    (c.requires.0, c.requires.1, far_array 4096)
