-- The rules for one part or vertex, over what the loops know of it: the parent of each part and the leaf of each vertex, as words.
use Rattle.std.specs.Prelude.{◌≡◌, ℕ, zero, suc, ◌<◌, Bool, false, ◌&&◌, ◌||◌, cond, List, ltb, eqb}
use Rattle.words.specs.Limits.{fewest_children, most_children, most_levels, most_in_leaf}
use Rattle.words.specs.Lists.{word}
use Rattle.words.specs.Tests.{within}
use Rattle.roads.specs.Map.{Map, part_count}
use Rattle.parts.specs.Tree.{parent_of, leaf_of}

-- m is a map with so many vertices and parts, whose parents and leaves these words are
pub record ShowsPartsOf (m : Map) (parents leaves : List ℕ) (vertices parts : ℕ) : Type 0 where
  pub count : part_count m ≡ parts
  pub parent : (p : ℕ) → p < parts → parent_of m p ≡ word parents p
  pub vertex_count : m.vertices ≡ vertices
  pub leaf : (v : ℕ) → v < vertices → leaf_of m v ≡ word leaves v

-- part p is part 0, or its parent's number is lower
unfoldable pub fallen : List ℕ → ℕ → Bool
fallen parents p = eqb p 0 || ltb (word parents p) p

-- a part with so many children, and so many vertices that stand in it: without children 1 to 32 vertices, else 2 to 8 children
unfoldable pub family : ℕ → ℕ → Bool
family children homes = cond (eqb children 0) (within 1 most_in_leaf homes) (within fewest_children most_children children)

-- part 0 is among the first n on the way up from part p
unfoldable pub near : List ℕ → ℕ → ℕ → Bool
near parents zero p = false
near parents (suc n) p = eqb p 0 || near parents n (word parents p)

-- what part p is tested for
unfoldable pub part_test : List ℕ → List ℕ → List ℕ → ℕ → Bool
part_test parents children homes p = fallen parents p && family (word children p) (word homes p) && near parents most_levels p

-- vertex v stands in a part without children
unfoldable pub standing : List ℕ → List ℕ → ℕ → ℕ → Bool
standing leaves children parts v = ltb (word leaves v) parts && eqb (word children (word leaves v)) 0
