-- What an arrival does to any list of words: sources that show the vertex are offered to all rows of the part.
use Rattle.std.specs.Prelude.{ℕ, zero, suc, ◌+◌, ◌*◌, ◌%◌, min, Bool, ◌||◌, ◌&&◌, cond, List, [], ◌∷◌, eqb, ltb}
use Rattle.words.specs.Limits.{FAR}
use Rattle.words.specs.Lists.{word}
use Rattle.layout.specs.Layout.{words_in_row}
use Rattle.rows.specs.declared.Row.{Row}
use Rattle.rows.specs.Row.{comes_before}
use Rattle.row_words.specs.Words.{row_in, shown, source_in, placed}

-- vertex v at distance x, seen d further on, comes before a row
unfoldable pub improves : Row → ℕ → ℕ → ℕ → Bool
improves row v x d = ltb (x + d) FAR && comes_before (record { vertex = v; distance = x + d }) row

-- the row that shows it, if it does
unfoldable pub offered_to : Row → ℕ → ℕ → ℕ → Row
offered_to row v x d = cond (improves row v x d) (record { vertex = v; distance = x + d }) row

-- a row made to show it, if it does
unfoldable pub offered : List ℕ → ℕ → ℕ → ℕ → ℕ → List ℕ
offered mem to v x d = shown mem to (offered_to (row_in mem to) v x d)

-- vertex v at distance x, seen d further on; past every row where that is too far
unfoldable pub placed_seen : ℕ → ℕ → ℕ → ℕ
placed_seen v x d = cond (ltb (x + d) FAR) (placed v (x + d)) 18446744073709551615

-- v at distance x is offered to `left` rows from `to` on, with the distances that stand from `at` on
unfoldable pub spread : ℕ → List ℕ → ℕ → ℕ → ℕ → ℕ → List ℕ
spread zero mem to at v x = mem
spread (suc left) mem to at v x = spread left (offered mem to v x (word mem at)) (to + words_in_row) (at + 1) v x

-- the source of a row shows v, and comes before what the row itself shows
unfoldable pub is_news : List ℕ → ℕ → ℕ → Bool
is_news mem v row = eqb (source_in mem row).vertex v && comes_before (source_in mem row) (row_in mem row)

-- such a source is offered to all `size` rows, with a line of the table
unfoldable pub met : List ℕ → ℕ → ℕ → ℕ → ℕ → ℕ → List ℕ
met mem rows size v row line = cond (is_news mem v row) (spread size mem rows line v (source_in mem row).distance) mem

-- v arrived: this for the sources of the rows with these numbers
unfoldable pub arrived : List ℕ → List ℕ → ℕ → ℕ → ℕ → ℕ → List ℕ
arrived [] mem rows table size v = mem
arrived (i ∷ numbers) mem rows table size v = arrived numbers (met mem rows size v (rows + words_in_row * i) (table + size * i)) rows table size v

-- some source was offered, or `any` is true already
unfoldable pub any_news : Bool → List ℕ → List ℕ → ℕ → ℕ → ℕ → ℕ → Bool
any_news any [] mem rows table size v = any
any_news any (i ∷ numbers) mem rows table size v = any_news (is_news mem v (rows + words_in_row * i) || any) numbers (met mem rows size v (rows + words_in_row * i) (table + size * i)) rows table size v

-- the least of `best` and of the places of these numbers, each at its source's distance
unfoldable pub lead_from : List ℕ → List ℕ → ℕ → ℕ → ℕ
lead_from [] mem rows best = best
lead_from (i ∷ numbers) mem rows best = lead_from numbers mem rows (min best (placed i (source_in mem (rows + words_in_row * i)).distance))

-- the number of one whose source is the nearest of these
abbrev pub lead : List ℕ → List ℕ → ℕ → ℕ
lead numbers mem rows = lead_from numbers mem rows (placed 0 FAR) % 4294967296

-- these numbers, and such a one before them
unfoldable pub led : List ℕ → List ℕ → ℕ → List ℕ
led [] mem rows = []
led (i ∷ numbers) mem rows = lead (i ∷ numbers) mem rows ∷ i ∷ numbers
