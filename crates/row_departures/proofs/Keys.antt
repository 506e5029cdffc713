-- Keys gathered, and rows made anew of them.
-- Assumes nothing.
use mathlib.Core.Path.{◌≡◌, sym, ◌∙◌, ap}
use mathlib.Core.List.{List}
use Prim.Native.Nat.{ℕ, ◌+◌, ◌*◌, ◌≤◌, ◌<◌, min}
use native.Mathlib.Numerals.{add-one}
use lib.ListN.{length, get_or, drop, drop_of_length-le}
use lib.Seq.{drop-cons}
use Rattle.rows.specs.declared.Row.{Row}
use Rattle.row_words.specs.Words.{shown}
use Rattle.row_departures.specs.declared.Source.{Source}
use Rattle.row_departures.specs.Departure.{far_key, unkeyed, gathered, renewed}

-- The keys gathered, and the rows made anew of them.
pub gathered_turn : (sources : List Source) (mem : List ℕ) (column k best seen next : ℕ) (d : Source) → k < length sources
    → seen ≡ (get_or sources k d).key + get_or mem (column + (get_or sources k d).step) 0 * 65536 → next ≡ min best seen → gathered (drop (k + 1) sources) mem column next ≡ gathered (drop k sources) mem column best
unfolding gathered
gathered_turn sources mem column k best seen next d h p q =
    (λ t. gathered (drop (add-one k t) sources) mem column ((q ∙ ap (min best) p) t)) ∙ ap (λ (l : List Source). gathered l mem column best) (sym (drop-cons sources k d h))

pub gathered_done : (sources : List Source) (mem : List ℕ) (column k best : ℕ) → length sources ≤ k → gathered (drop k sources) mem column best ≡ best
unfolding gathered
gathered_done sources mem column k best h = ap (λ (l : List Source). gathered l mem column best) (drop_of_length-le sources h)

pub renewed_turn : (numbers mem end : List ℕ) (sources : List Source) (rows table k i at best : ℕ) (row : Row) → k < length numbers → i ≡ get_or numbers k 0 → best ≡ gathered sources mem (table + i) far_key → at ≡ rows + 4 * i → row ≡ unkeyed best
    → end ≡ shown mem at row → renewed (drop (k + 1) numbers) end sources rows table ≡ renewed (drop k numbers) mem sources rows table
unfolding renewed
renewed_turn numbers mem end sources rows table k i at best row h p q a r s =
    (λ t. renewed (drop (add-one k t) numbers) ((s ∙ (λ u. shown mem (a u) ((r ∙ ap unkeyed q) u)) ∙ ap (λ (j : ℕ). shown mem (rows + 4 * j) (unkeyed (gathered sources mem (table + j) far_key))) p) t) sources rows table)
    ∙ ap (λ (l : List ℕ). renewed l mem sources rows table) (sym (drop-cons numbers k 0 h))

pub renewed_done : (numbers mem : List ℕ) (sources : List Source) (rows table k : ℕ) → length numbers ≤ k → renewed (drop k numbers) mem sources rows table ≡ mem
unfolding renewed
renewed_done numbers mem sources rows table k h = ap (λ (l : List ℕ). renewed l mem sources rows table) (drop_of_length-le numbers h)
