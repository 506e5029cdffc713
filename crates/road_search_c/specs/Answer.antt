-- What the search answers to any words. Assumes nothing.
use Rattle.std.specs.Prelude.{◌≡◌, ◌↔◌, Bool, true, false, List, ℕ, ◌<◌, IsTrue}
use Rattle.road_search.specs.Layout.{LaidMap, Measured}

-- the search ran exactly if the words are laid out for it and a is a vertex; the labels are then the distances, and else as they were
pub record Answered (mem : List ℕ) (vertices n roads count a : ℕ) (labels after : List ℕ) (r : Bool) : Type 0 where
  pub ran : IsTrue r ↔ (LaidMap mem vertices n roads count × (a < n))
  pub measured : r ≡ true → Measured mem n roads count a after
  pub kept : r ≡ false → after ≡ labels
