-- What the functions of this crate do to any list of words, of a fleet or not.
use Rattle.std.specs.Prelude.{ℕ, zero, suc, ◌+◌, ◌-◌, cond, List, set, eqb, ltb}
use Rattle.words.specs.Lists.{word}
use Rattle.layout.specs.Layout.{vans_in_vertex, road_in_van, offset_in_van, stamp_in_van, next_in_van}
use Rattle.counts.specs.declared.Counts.{Counts}
use Rattle.places.specs.Place.{vertex_address, van_address}
use Rattle.van_lists.specs.declared.VanWords.{VanWords}

-- the first four words of a van's record
abbrev pub van_in : List ℕ → Counts → ℕ → VanWords
van_in mem counts van =
    record {
      state = word mem (van_address counts van);
      road = word mem (van_address counts van + road_in_van);
      offset = word mem (van_address counts van + offset_in_van);
      stamp = word mem (van_address counts van + stamp_in_van);
    }

-- where the walk along the links from `at` on stops: at the link word that `van` belongs behind. It takes at most `left` links
unfoldable pub walk : List ℕ → Counts → ℕ → ℕ → ℕ → ℕ
walk mem counts van at zero = at
walk mem counts van at (suc left) =
    let further = walk mem counts van (van_address counts (word mem at - 1) + next_in_van) left in
    cond (eqb (word mem at) 0) at (cond (ltb van (word mem at)) at further)

abbrev pub behind : List ℕ → Counts → ℕ → ℕ → ℕ
behind mem counts vertex van = walk mem counts van (vertex_address counts vertex + vans_in_vertex) van

-- the van's first four words
abbrev pub van_written : List ℕ → Counts → ℕ → VanWords → List ℕ
van_written mem counts van words =
    set (set (set (set mem (van_address counts van) words.state) (van_address counts van + road_in_van) words.road) (van_address counts van + offset_in_van) words.offset)
    (van_address counts van + stamp_in_van) words.stamp

-- one link, and then the van's own
abbrev pub relinked : List ℕ → Counts → ℕ → ℕ → ℕ → ℕ → List ℕ
relinked mem counts van before next link = set (set mem before next) (van_address counts van + next_in_van) link

-- the link before the van goes on to the one after it
unfoldable pub taken_out : List ℕ → Counts → ℕ → ℕ → VanWords → List ℕ
taken_out mem counts van vertex words = van_written (relinked mem counts van (behind mem counts vertex van) (word mem (van_address counts van + next_in_van)) 0) counts van words

-- the link before the van goes on to the van, and the van's link to where that one went
unfoldable pub put_in : List ℕ → Counts → ℕ → ℕ → VanWords → List ℕ
put_in mem counts van vertex words = van_written (relinked mem counts van (behind mem counts vertex van) (van + 1) (word mem (behind mem counts vertex van))) counts van words
