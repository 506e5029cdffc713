-- How a part of a memory reads, and what a store does to it.
-- Assumes nothing.
use mathlib.Core.Path.{◌≡◌, ◌∙◌, ap}
use mathlib.Core.List.{List}
use Prim.Native.Nat.{ℕ, ◌+◌, ◌-◌, ◌≤◌, ◌<◌}
use native.Mathlib.Omega.{arith}
use native.Mathlib.Decide.{dec_lt}
use lib.ListN.{length, get_or, set, take, drop, length-take, length-drop}
use lib.Seq.{drop-set-add, drop-set-lt, take-set-lt, take-set-le, get_or-take, get_or-drop}
use Rattle.cells.specs.Part.{part}

pub part_length : (mem : List ℕ) (base size : ℕ) → base + size ≤ length mem → length (part mem base size) ≡ size
part_length mem base size h = simp (length-take, length-drop) (omega arith)

pub part_at : (mem : List ℕ) (base size f : ℕ) → f < size → get_or (part mem base size) f 0 ≡ get_or mem (base + f) 0
part_at mem base size f h = rw (get_or-take, get_or-drop)

-- a store within the part
pub part_own : (mem : List ℕ) (base size f x : ℕ) → f < size → part (set mem (base + f) x) base size ≡ set (part mem base size) f x
part_own mem base size f x h = ap (take size) (drop-set-add base mem f x) ∙ take-set-lt size (drop base mem) f x h

-- a store outside it
pub part_other : (mem : List ℕ) (base size i x : ℕ) → ((f : ℕ) → f < size → i ≡ base + f → ⊥) → part (set mem i x) base size ≡ part mem base size
part_other mem base size i x away = elim (dec_lt i base) [ yes below ↦ ap (take size) (drop-set-lt base mem i x below) | no above ↦ past above ]
  where
    past : ¬ (i < base) → part (set mem i x) base size ≡ part mem base size
    past above =
        let f : ℕ = i - base in
        let at : i ≡ base + f = omega arith in
        elim (dec_lt f size) [ yes inside ↦ absurd (away f inside at) | no outside ↦ rw at (rw drop-set-add (take-set-le size (drop base mem) f x (omega arith))) ]
