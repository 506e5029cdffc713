-- The lift of a vertex: the lowest number among the lowest common parts of the ends of its roads.
use Rattle.std.specs.Prelude.{◌≡◌, Bool, ◌&&◌, ◌||◌, cond, List, ℕ, zero, suc, ◌+◌, ◌*◌, ◌<◌, min, max, length, ltb, eqb}
use Rattle.words.specs.Limits.{most_vertices, most_parts, NONE}
use Rattle.words.specs.Lists.{count_from, word, any}
use Rattle.cells.specs.Lowered.{lowered}
use Rattle.maps.specs.Bytes.{field}

-- each step to a parent lowers one of two part numbers
abbrev pub most_steps : ℕ
most_steps = 2 * most_parts

-- the lowest part that is a or b or lies above them, in n steps: the one with the higher number gives way to its parent
unfoldable pub meet : List ℕ → ℕ → ℕ → ℕ → ℕ
meet parents zero a b = 0
meet parents (suc n) a b = let above = meet parents n (min a b) (word parents (max a b)) in cond (eqb a b) a above

-- the lowest part that both ends of road i stand in
unfoldable pub road_meet : List ℕ → List ℕ → List ℕ → ℕ → ℕ
road_meet parents leaves body i = meet parents most_steps (word leaves (field body (8 * i) 2)) (word leaves (field body (8 * i + 2) 2))

unfoldable pub lifted : List ℕ → List ℕ → List ℕ → ℕ → List ℕ → List ℕ
lifted parents leaves body i lifts =
    lowered (lowered lifts (field body (8 * i) 2) (road_meet parents leaves body i)) (field body (8 * i + 2) 2) (road_meet parents leaves body i)

-- road i starts or ends at v, and the lowest part that both its ends stand in has a lower number than c
unfoldable pub outside : List ℕ → List ℕ → List ℕ → ℕ → ℕ → ℕ → Bool
outside parents leaves body v c i = (eqb (field body (8 * i) 2) v || eqb (field body (8 * i + 2) 2) v) && ltb (road_meet parents leaves body i) c

-- the lifts after the first n roads
pub record Lifted (parents leaves body : List ℕ) (n : ℕ) (lifts : List ℕ) : Type 0 where
  pub room : length lifts ≡ most_vertices
  pub each : (v c : ℕ) → v < most_vertices → c < NONE → ltb (word lifts v) c ≡ any (outside parents leaves body v c) (count_from 0 n)
