-- What the functions of this crate do to any list of words.
use Rattle.std.specs.Prelude.{ℕ, zero, suc, ◌+◌, ◌*◌, Bool, true, false, ◌&&◌, cond, List, length, eqb, ltb}
use Rattle.words.specs.Limits.{most_levels}
use Rattle.words.specs.Lists.{word, up_to, keep}
use Rattle.layout.specs.Layout.{parts_in_head, rows_in_part, table_in_part, words_in_vertex, itself_in_vertex, words_in_row, vertices_from, part_at, part_word}
use Rattle.rows.specs.declared.Row.{Row}
use Rattle.rows.specs.Row.{empty_row}
use Rattle.part_words.specs.Part.{rows_in, fits}
use Rattle.row_words.specs.Words.{shown, source_in}
use Rattle.row_arrivals.specs.Arrival.{arrived, any_news, led}
use Rattle.row_departures.specs.Departure.{remade}

-- a row shows v, or, with `below`, its source does
unfoldable pub shows_in : List ℕ → ℕ → ℕ → Bool → Bool
shows_in mem row v below = cond below (eqb (source_in mem row).vertex v) (eqb (word mem row) v)

-- the numbers of such rows
unfoldable pub showing : List ℕ → ℕ → ℕ → ℕ → Bool → List ℕ
showing mem rows size v below = keep (λ i. shows_in mem (rows + words_in_row * i) v below) (up_to size)

-- v departed: this for each row that shows it
abbrev pub departed : List ℕ → ℕ → ℕ → ℕ → ℕ → List ℕ
departed mem rows table size v = remade (showing mem rows size v false) mem rows table size

-- the rows after v arrived (`is` true) or departed
unfoldable pub changed : List ℕ → ℕ → ℕ → ℕ → ℕ → Bool → List ℕ
changed mem rows table size v is = cond is (arrived (led (showing mem rows size v true) mem rows) mem rows table size v) (departed mem rows table size v)

-- whether any row may have changed
unfoldable pub touches : List ℕ → ℕ → ℕ → ℕ → ℕ → Bool → Bool
touches mem rows table size v is = cond is (any_news false (led (showing mem rows size v true) mem rows) mem rows table size v) (ltb 0 (length (showing mem rows size v false)))

unfoldable pub refreshed : List ℕ → ℕ → ℕ → Bool → List ℕ
refreshed mem p v is =
    cond (fits mem (part_word mem p rows_in_part) (part_word mem p table_in_part) (rows_in mem p)) (changed mem (part_word mem p rows_in_part) (part_word mem p table_in_part) (rows_in mem p) v is) mem

unfoldable pub touched : List ℕ → ℕ → ℕ → Bool → Bool
touched mem p v is =
    fits mem (part_word mem p rows_in_part) (part_word mem p table_in_part) (rows_in mem p)
    && touches mem (part_word mem p rows_in_part) (part_word mem p table_in_part) (rows_in mem p) v is

-- The rows of part p and of each part above it, at most `left` of them, for as long as rows change and the number of the parent falls.
unfoldable pub refreshed_up : ℕ → List ℕ → ℕ → ℕ → Bool → List ℕ
refreshed_up zero mem p v is = mem
refreshed_up (suc left) mem p v is =
    let now = refreshed mem p v is in
    let above = refreshed_up left now (word now (part_at p)) v is in
    cond (touched mem p v is && ltb (word now (part_at p)) p) above now

-- The record of vertex v.
abbrev pub vertex_at : List ℕ → ℕ → ℕ
vertex_at mem v = vertices_from (word mem parts_in_head) + words_in_vertex * v

-- what v shows of itself when it is active, and when it is not
abbrev pub own_row : ℕ → Bool → Row
own_row v is = cond is (record { vertex = v; distance = 0 }) empty_row

-- v became active or inactive: it shows so itself, and so do the rows of its leaf and of each part above
unfoldable pub switched : List ℕ → ℕ → Bool → List ℕ
switched mem v is = refreshed_up most_levels (shown mem (vertex_at mem v + itself_in_vertex) (own_row v is)) (word mem (vertex_at mem v)) v is
