-- What the functions of this crate do to any list of words, of a fleet or not.
use Rattle.std.specs.Prelude.{ℕ, ◌+◌, Bool, true, false, cond, List, set, eqb, Option, None, Some, Result, Ok, Err}
use Rattle.words.specs.Limits.{last_count}
use Rattle.words.specs.Lists.{word}
use Rattle.layout.specs.Layout.{count_in_head, vans_in_vertex}
use Rattle.answers.specs.declared.Refusal.{Refusal}
use Rattle.answers.specs.declared.Refusal.TheVariants.{CountFull}
use Rattle.counts.specs.declared.Counts.{Counts}
use Rattle.places.specs.Place.{vertex_address}
use Rattle.fleet.specs.State.{absent}
use Rattle.van_lists.specs.declared.VanWords.{VanWords}
use Rattle.van_lists.specs.Slot.{standing_words, stamped}
use Rattle.van_lists.specs.Walk.{van_written, taken_out, put_in}
use Rattle.road_lookup.specs.Lookup.{end_in}
use Rattle.row_refresh.specs.Model.{switched}

-- the first van of the vertex's list
abbrev pub first_van_in : List ℕ → Counts → ℕ → ℕ
first_van_in mem counts vertex = word mem (vertex_address counts vertex + vans_in_vertex)

-- the vertex switched where `others`, the first of the other vans in its list, is none
unfoldable pub switched_alone : List ℕ → ℕ → ℕ → Bool → List ℕ
switched_alone mem vertex others is = cond (eqb others 0) (switched mem vertex is) mem

-- a van out of the list of a vertex, and the vertex inactive where the list is then empty
unfoldable pub van_departed : List ℕ → Counts → ℕ → ℕ → VanWords → List ℕ
van_departed mem counts van vertex words = let after = taken_out mem counts van vertex words in switched_alone after vertex (first_van_in after counts vertex) false

-- a van into the list of a vertex, and the vertex active where the list was empty
unfoldable pub van_arrived : List ℕ → Counts → ℕ → ℕ → VanWords → List ℕ
van_arrived mem counts van vertex words = switched_alone (put_in mem counts van vertex words) vertex (first_van_in mem counts vertex) true

-- a free van that is free still, by the ends of its roads
unfoldable pub moved : List ℕ → Counts → ℕ → (from to : ℕ) → VanWords → List ℕ
moved mem counts van from to new =
    cond (eqb from to) (van_written mem counts van new) (van_arrived (van_departed mem counts van from (standing_words absent)) counts van to new)

-- the vertex that a van heads for, if it is free: the end of its road
abbrev pub head_in : List ℕ → Counts → VanWords → Option ℕ
head_in mem counts words = cond (eqb words.state 1) (Some (end_in mem counts words.road)) None

-- a van that stands as `new` says, by where it headed and where it heads
abbrev pub made_by : List ℕ → Counts → ℕ → (from to : Option ℕ) → VanWords → List ℕ
made_by mem counts van (Some from) (Some to) new = moved mem counts van from to new
made_by mem counts van (Some from) None new = van_departed mem counts van from new
made_by mem counts van None (Some to) new = van_arrived mem counts van to new
made_by mem counts van None None new = van_written mem counts van new

unfoldable pub made : List ℕ → Counts → ℕ → (old new : VanWords) → List ℕ
made mem counts van old new = made_by mem counts van (head_in mem counts old) (head_in mem counts new) new

-- the answer to a change that nothing but the change count can refuse, and what it leaves
abbrev pub counted : ℕ → Result ℕ Refusal
counted count = cond (eqb count last_count) (Err CountFull) (Ok (count + 1))

unfoldable pub settled : List ℕ → Counts → ℕ → (old new : VanWords) → List ℕ
settled mem counts van old new = cond (eqb (word mem count_in_head) last_count) mem (made (set mem count_in_head (word mem count_in_head + 1)) counts van old (stamped new (word mem count_in_head + 1)))
