-- A word lowered to x: stored where x is the lesser, kept where it is not.
use mathlib.Core.Path.{◌≡◌, sym, ap, ◌∙◌}
use mathlib.Core.List.{List}
use Prim.Native.Nat.{ℕ, ◌≤◌, ◌<◌}
use native.Mathlib.Omega.{arith}
use lib.ListN.{get_or, set}
use lib.Seq.{set-get_or}
use Rattle.cells.specs.Lowered.{lowered}

pub lower_less : (mem : List ℕ) (i x : ℕ) {w : ℕ} {mem' : List ℕ} → w ≡ get_or mem i 0 → x < w → mem' ≡ set mem i x → mem' ≡ lowered mem i x
lower_less mem i x word less stored = stored ∙ ap (set mem i) (omega arith)

pub lower_kept : (mem : List ℕ) (i x : ℕ) {w : ℕ} → w ≡ get_or mem i 0 → w ≤ x → mem ≡ lowered mem i x
lower_kept mem i x word not = sym (ap (set mem i) (omega arith) ∙ set-get_or mem i 0)
