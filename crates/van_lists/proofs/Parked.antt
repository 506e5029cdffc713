-- A memory whose van records and lists are those of a fleet, record by record.
-- Assumes nothing.
use mathlib.Core.Path.{◌≡◌, sym, ◌∙◌, ap}
use mathlib.Core.List.{List}
use Prim.Native.Nat.{ℕ, ◌+◌, ◌≤◌, ◌<◌}
use lib.ListN.{length}
use Rattle.words.specs.Limits.{vans}
use Rattle.words.specs.Lists.{word}
use Rattle.cells.specs.Part.{part}
use Rattle.cells.proofs.Part.{part_at}
use Rattle.layout.specs.Layout.{vans_in_vertex, words_in_van}
use Rattle.roads.specs.Map.{Map}
use Rattle.counts.specs.declared.Counts.{Counts}
use Rattle.places.specs.Place.{vertex_address, van_address}
use Rattle.fleet.specs.State.{State, slot_of}
use Rattle.van_lists.proofs.Links.{link_from, slot_words}

pub record Parked (m : Map) (counts : Counts) (s : State) (mem : List ℕ) : Type 0 where
  pub size : van_address counts vans ≤ length mem
  pub first : (v : ℕ) → v < counts.vertices → word mem (vertex_address counts v + vans_in_vertex) ≡ link_from m s v 0
  pub van : (x : ℕ) → x < vans → part mem (van_address counts x) words_in_van ≡ slot_words m s x (slot_of s x)

-- the word at `f` of a record that is known
pub field : (mem : List ℕ) (base size : ℕ) (words : List ℕ) (f : ℕ) → f < size → part mem base size ≡ words → word mem (base + f) ≡ word words f
field mem base size words f h e = sym (part_at mem base size f h) ∙ ap (λ (l : List ℕ). word l f) e

-- No word changed but those of van records and the first words of lists.
pub record OnlyVans (counts : Counts) (mem after : List ℕ) : Type 0 where
  pub long : length after ≡ length mem
  pub other : (a : ℕ) → ((v : ℕ) → v < counts.vertices → a ≡ vertex_address counts v + vans_in_vertex → ⊥) → ((x f : ℕ) → x < vans → f < words_in_van → a ≡ van_address counts x + f → ⊥)
      → word after a ≡ word mem a
