-- Lent words and bytes that show the parents, the leaves, the roads, the sizes and the lifts of a map.
use Rattle.std.specs.Prelude.{◌≡◌, ◌&&◌, List, ℕ, ◌<◌, ltb}
use Rattle.words.specs.Lists.{word}
use Rattle.roads.specs.Map.{Map, part_count, road_count, road_at}
use Rattle.parts.specs.Tree.{parent_of, leaf_of, holds}
use Rattle.parts.specs.Border.{boundary}
use Rattle.parts.specs.Size.{size_of}
use Rattle.maps.specs.Bytes.{road_shown}

-- the parent of each part
abbrev pub ShowsParents : Map → List ℕ → Type 0
ShowsParents m parents = (p : ℕ) → p < part_count m → word parents p ≡ parent_of m p

-- the leaf of each vertex
abbrev pub ShowsLeaves : Map → List ℕ → Type 0
ShowsLeaves m leaves = (v : ℕ) → v < m.vertices → word leaves v ≡ leaf_of m v

-- each road, in the body of a record
abbrev pub ShowsRoads : Map → List ℕ → Type 0
ShowsRoads m body = (i : ℕ) → i < road_count m → road_shown body i ≡ road_at m i

-- the rows of each part
abbrev pub ShowsSizes : Map → List ℕ → Type 0
ShowsSizes m sizes = (p : ℕ) → p < part_count m → word sizes p ≡ size_of m p

-- a number for each vertex, which is boundary of exactly those parts above it in number that hold it
abbrev pub ShowsLifts : Map → List ℕ → Type 0
ShowsLifts m lifts = (v c : ℕ) → v < m.vertices → c < part_count m → boundary m c v ≡ (holds m c v && ltb (word lifts v) c)
