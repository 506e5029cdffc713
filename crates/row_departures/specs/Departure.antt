-- What a departure does to any list of words: rows are made anew from the sources of the part as they stand.
use Rattle.std.specs.Prelude.{ℕ, ◌+◌, ◌*◌, ◌/◌, ◌%◌, ◌^◌, ◌≤◌, ◌<◌, min, cond, List, [], ◌∷◌, map, All, ltb}
use Rattle.words.specs.Limits.{FAR}
use Rattle.words.specs.Lists.{word, up_to, keep}
use Rattle.layout.specs.Layout.{words_in_row}
use Rattle.row_departures.specs.declared.Source.{Source}
use Rattle.rows.specs.declared.Row.{Row}
use Rattle.rows.specs.Row.{empty_row}
use Rattle.row_words.specs.Words.{shown, source_in}

-- the numbers of the rows whose source is not empty
unfoldable pub filled : List ℕ → ℕ → ℕ → List ℕ
filled mem rows size = keep (λ i. ltb (source_in mem (rows + words_in_row * i)).distance FAR) (up_to size)

-- A row as a key: of two rows whose vertices are below 65,536, the one that comes before has the lesser.
abbrev pub keyed : Row → ℕ
keyed row = row.distance * 65536 + row.vertex

-- from here on a key is of nothing that reaches
abbrev pub far_key : ℕ
far_key = 281474976645120

unfoldable pub unkeyed : ℕ → Row
unkeyed key = cond (ltb key far_key) (record { vertex = key % 65536; distance = key / 65536 }) empty_row

-- the source of row number i, of a part of `size` rows
abbrev pub source_of : List ℕ → ℕ → ℕ → ℕ → Source
source_of mem rows size i = record { key = keyed (source_in mem (rows + words_in_row * i)); step = size * i }

-- the least of `best` and of the keys of these sources, each seen as much further on as stands so many words from `column`
unfoldable pub gathered : List Source → List ℕ → ℕ → ℕ → ℕ
gathered [] mem column best = best
gathered (source ∷ sources) mem column best = gathered sources mem column (min best (source.key + word mem (column + source.step) * 65536))

-- the rows with these numbers are made anew from these sources, each with its column of the table
unfoldable pub renewed : List ℕ → List ℕ → List Source → ℕ → ℕ → List ℕ
renewed [] mem sources rows table = mem
renewed (i ∷ numbers) mem sources rows table = renewed numbers (shown mem (rows + words_in_row * i) (unkeyed (gathered sources mem (table + i) far_key))) sources rows table

-- so they are from the part's sources as they stand
unfoldable pub remade : List ℕ → List ℕ → ℕ → ℕ → ℕ → List ℕ
remade numbers mem rows table size = renewed numbers mem (map (source_of mem rows size) (filled mem rows size)) rows table

-- none of these sources has a key too great to be seen further on, and the line of each is in a table of `size` lines
abbrev pub Sound : ℕ → List Source → Type 0
Sound size sources = All (λ source. (source.key < 2 ^ 49) × (source.step + size ≤ size * size)) sources
