-- The list of a question, as the answer words show it: three words for each van.
use Rattle.std.specs.Prelude.{ℕ, zero, suc, ◌+◌, ◌*◌, List, [], ◌∷◌, ◌++◌}
use Rattle.words.specs.Lists.{word}
use Rattle.fleet.specs.Question.{Listed}
use Rattle.desk_lines.specs.declared.line.Line.{Line}
use Rattle.desk_lines.specs.declared.line.Line.TheVariants.{Length}
use Rattle.desk_lines.specs.Desk.{van_line}

-- the van at a place of the list
abbrev pub listed_at : List ℕ → ℕ → Listed
listed_at words i = record { van = word words (3 * i); distance = word words (3 * i + 1); stamp = word words (3 * i + 2) }

-- the lines of its first n vans
unfoldable pub van_lines : ℕ → List ℕ → ℕ → List Line
van_lines place words zero = []
van_lines place words (suc n) = van_lines place words n ++ (van_line place (listed_at words n) ∷ [])

-- those of a list so long, of which the words show the first n vans
abbrev pub list_lines : ℕ → ℕ → List ℕ → ℕ → List Line
list_lines place count words n = Length place count ∷ van_lines place words n
