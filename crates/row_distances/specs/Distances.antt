-- The distances of a part's rows, made less by ways by way of its rows; and the least of them out of a child.
use Rattle.std.specs.Prelude.{◌≡◌, ◌⊎◌, Bool, cond, List, ℕ, ◌+◌, ◌*◌, ◌≤◌, ◌<◌, length, eqb}
use Rattle.layout.specs.Layout.{rows_in_part, table_in_part, part_word}
use Rattle.words.specs.Limits.{FAR}
use Rattle.words.specs.Lists.{word}
use Rattle.part_words.specs.Part.{rows_in}
use Rattle.row_lists.specs.Rows.{owner_at, child_at, near_at, AskedRow}

-- the way by the t-th of the known places
unfoldable pub way_in : List ℕ → ℕ → List ℕ → List ℕ → ℕ → ℕ
way_in mem at places near t = word mem (at + word places t) + word near t

-- the same over the words of one row
unfoldable pub way_over : List ℕ → List ℕ → List ℕ → ℕ → ℕ
way_over row places near t = word row (word places t) + word near t

-- Distances made less at rows that are asked for, each as little as a way by way of a row makes it: row i's words of the table start at table + size * i.
pub record Closer (mem : List ℕ) (first table size : ℕ) (dx : List ℕ) (Asked : ℕ → Type 0) (dx' : List ℕ) : Type 0 where
  pub same_length : length dx' ≡ length dx
  pub no_more : (u : ℕ) → word dx' u ≤ word dx u
  -- no other distance changes
  pub changed : (u : ℕ) → (word dx' u ≡ word dx u) ⊎ ((i : ℕ) × Asked i × (owner_at mem first i ≡ u))
  pub ways : (i j : ℕ) → Asked i → j < size → word dx' (owner_at mem first i) ≤ word mem (table + size * i + j) + near_at mem first dx j
  pub far : (i : ℕ) → Asked i → word dx' (owner_at mem first i) ≤ FAR
  -- and no less than that: whatever is at most the distances before, and at most each way, still is
  pub honest : (bound : ℕ → ℕ) → ((u : ℕ) → bound u ≤ FAR) → ((u : ℕ) → bound u ≤ word dx u)
      → ((i j : ℕ) → Asked i → j < size → bound (owner_at mem first i) ≤ word mem (table + size * i + j) + near_at mem first dx j) → (u : ℕ) → bound u ≤ word dx' u

-- the distances of a part's rows were made less: of all, or of those below which something is shown
abbrev pub Relaxed : List ℕ → ℕ → Bool → List ℕ → List ℕ → Type 0
Relaxed mem p all dx dx' = Closer mem (part_word mem p rows_in_part) (part_word mem p table_in_part) (rows_in mem p) dx (AskedRow all mem (part_word mem p rows_in_part) (rows_in mem p) dx) dx'

-- Only the row at `place` has a distance, 0.
pub record Alone (mem : List ℕ) (first size : ℕ) (dx : List ℕ) (place : ℕ) : Type 0 where
  pub here : near_at mem first dx place ≡ 0
  pub others : (j : ℕ) → j < size → (j ≡ place → ⊥) → FAR ≤ near_at mem first dx j

-- the distance of row i's vertex, if the row lies in the child c
unfoldable pub out_of : List ℕ → ℕ → List ℕ → ℕ → ℕ → ℕ
out_of mem first dx c i = cond (eqb (child_at mem first i) c) (near_at mem first dx i) FAR
