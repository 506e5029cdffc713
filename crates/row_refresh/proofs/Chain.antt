-- What a function's calls, one after the other, come to. Each law is over plain values, so that a need only names its facts.
-- Assumes nothing.
use mathlib.Core.Path.{◌≡◌, refl, sym, ◌∙◌, ap}
use mathlib.Core.Bool.{Bool, true, false}
use mathlib.Core.List.{List, [], ◌∷◌}
use Prim.Native.Nat.{ℕ, zero, suc, ◌+◌, ◌*◌, ◌≤◌, ◌<◌}
use native.Mathlib.Omega.{arith}
use lib.ListN.{length, get_or, drop_of_length-le}
use lib.Dec.{ltb}
use borrow.Author.Tests.{lt-ltb, le-ltb}
use Rattle.rows.specs.declared.Row.{Row}
use Rattle.row_words.specs.Words.{shown}
use Rattle.row_arrivals.specs.Arrival.{arrived, any_news, lead, led}
use Rattle.row_refresh.specs.Model.{showing, changed, touches, refreshed, touched, refreshed_up, vertex_at, own_row, switched, shows_in}
use Rattle.row_departures.specs.Departure.{renewed, remade}
use Rattle.layout.specs.Layout.{part_at, part_word}
use Rattle.part_words.specs.declared.part.PartRows.{PartRows}
use Rattle.part_words.specs.Part.{fits, lies_within, PartRead}
use Rattle.part_words.proofs.Fits.{fits_pass}
use Rattle.counts.specs.declared.Counts.{Counts}
use Rattle.places.specs.Place.{counts_in, vertex_address}
use Rattle.listing.specs.Lists.{EachBelow}
use Rattle.listing.proofs.Turns.{kept_below}

-- the rows that show a vertex have numbers of rows
pub showing_below : (mem : List ℕ) (rows size v : ℕ) (below : Bool) (numbers : List ℕ) → numbers ≡ showing mem rows size v below → EachBelow size numbers
unfolding showing
showing_below mem rows size v below numbers e = kept_below (λ i. shows_in mem (rows + 4 * i) v below) size numbers e

-- One part.
module _ (mem : List ℕ) (rows table size v : ℕ) (numbers : List ℕ) where
  -- its sources bring v
  pub changed_arrived : numbers ≡ showing mem rows size v true → 0 < length numbers → (end : List ℕ) (any : Bool)
      → (end ≡ arrived (lead numbers mem rows ∷ numbers) mem rows table size v) × (any ≡ any_news false (lead numbers mem rows ∷ numbers) mem rows table size v)
      → (end ≡ changed mem rows table size v true) × (any ≡ touches mem rows table size v true)
  unfolding changed touches led
  changed_arrived e some end any h = (h.0 ∙ ap (λ (l : List ℕ). arrived l mem rows table size v) whole, h.1 ∙ ap (λ (l : List ℕ). any_news false l mem rows table size v) whole)
    where
      led_some : (l : List ℕ) → 0 < length l → lead l mem rows ∷ l ≡ led l mem rows
      led_some [] some = absurd (omega arith)
      led_some (i ∷ l) some = refl

      whole : lead numbers mem rows ∷ numbers ≡ led (showing mem rows size v true) mem rows
      whole = led_some numbers some ∙ ap (λ (l : List ℕ). led l mem rows) e

  -- some of its rows show v
  pub changed_departed : numbers ≡ showing mem rows size v false → 0 < length numbers → (end : List ℕ) → end ≡ remade numbers mem rows table size
      → (end ≡ changed mem rows table size v false) × (true ≡ touches mem rows table size v false)
  unfolding changed touches
  changed_departed e some end h = (
    h ∙ ap (λ (l : List ℕ). remade l mem rows table size) e,
    sym (lt-ltb 0 (length numbers) some) ∙ ap (λ (l : List ℕ). ltb 0 (length l)) e,
  )

  -- v is nowhere in it
  pub changed_none : (is : Bool) → numbers ≡ showing mem rows size v is → length numbers ≤ 0 → (mem ≡ changed mem rows table size v is) × (false ≡ touches mem rows table size v is)
  unfolding changed touches led arrived any_news remade renewed
  changed_none is e none = by is (sym (drop_of_length-le numbers none) ∙ e)
    where
      by : (b : Bool) → [] ≡ showing mem rows size v b → (mem ≡ changed mem rows table size v b) × (false ≡ touches mem rows table size v b)
      by true empty = (ap (λ (l : List ℕ). arrived (led l mem rows) mem rows table size v) empty, ap (λ (l : List ℕ). any_news false (led l mem rows) mem rows table size v) empty)
      by false empty = (ap (λ (l : List ℕ). remade l mem rows table size) empty, ap (λ (l : List ℕ). ltb 0 (length l)) empty)

-- A part by its record.
module _ (mem : List ℕ) (p v : ℕ) (arrives : Bool) where
  pub refreshed_within : {part : PartRows} → PartRead mem p part → (is : Bool) → arrives ≡ is → (end : List ℕ) (any : Bool)
      → (end ≡ changed mem part.first part.table part.size v is) × (any ≡ touches mem part.first part.table part.size v is) → (end ≡ refreshed mem p v arrives) × (any ≡ touched mem p v arrives)
  unfolding refreshed touched
  refreshed_within {part} read is same end any h = (
    rw within (h.0 ∙ λ t. changed mem (read.first_is t) (read.table_is t) (read.size_is t) v (sym same t)),
    rw within (h.1 ∙ λ t. touches mem (read.first_is t) (read.table_is t) (read.size_is t) v (sym same t)),
  )
    where
      within : lies_within mem p ≡ true
      within = (λ t. fits mem (sym read.first_is t) (sym read.table_is t) (sym read.size_is t)) ∙ fits_pass mem part.first part.table part.size read.within.rows read.within.table

  pub refreshed_out : lies_within mem p ≡ false → (mem ≡ refreshed mem p v arrives) × (false ≡ touched mem p v arrives)
  unfolding refreshed touched
  refreshed_out out = (rw out, rw out)

-- One step up.
module _ (mem : List ℕ) (p v : ℕ) (arrives : Bool) where
  pub up_done : (left : ℕ) → left ≤ 0 → mem ≡ refreshed_up left mem p v arrives
  unfolding refreshed_up
  up_done zero none = refl
  up_done (suc n) none = absurd (omega arith)

  module _ (n left : ℕ) (end : List ℕ) (any : Bool) (some : left ≡ suc n) (e : (end ≡ refreshed mem p v arrives) × (any ≡ touched mem p v arrives)) where
    pub up_untouched : any ≡ false → end ≡ refreshed_up left mem p v arrives
    unfolding refreshed_up
    up_untouched none = rw (some, sym e.1 ∙ none) e.0

    module _ (above : ℕ) (b : above ≡ part_word end p 0) (any-true : any ≡ true) where
      parent : get_or (refreshed mem p v arrives) (part_at p) 0 ≡ above
      parent =
          let there : part_at p ≡ part_at p + 0 = omega arith in
          (λ t. get_or (sym e.0 t) (there t) 0) ∙ sym b

      pub up_end : p ≤ above → end ≡ refreshed_up left mem p v arrives
      unfolding refreshed_up
      up_end stop = rw (some, sym e.1 ∙ any-true, le-ltb (get_or (refreshed mem p v arrives) (part_at p) 0) p (omega (arith, parent))) e.0

      pub up_turn : (after : List ℕ) (less : ℕ) → less ≡ n → above < p → after ≡ refreshed_up less end above v arrives → after ≡ refreshed_up left mem p v arrives
      unfolding refreshed_up
      up_turn after less l lower h =
          rw (some, sym e.1 ∙ any-true, lt-ltb (get_or (refreshed mem p v arrives) (part_at p) 0) p (omega (arith, parent)))
          (h ∙ λ i. refreshed_up (l i) (e.0 i) (sym parent i) v arrives)

-- The whole.
module _ (mem : List ℕ) (v : ℕ) (counts : Counts) (at leaf : ℕ) (e : counts ≡ counts_in mem) (i : at ≡ vertex_address counts v) (l : leaf ≡ get_or mem (at + 0) 0) where
  at_is : at ≡ vertex_at mem v
  at_is = i ∙ ap (λ (k : Counts). vertex_address k v) e

  pub switched_is : (is : Bool) (own : Row) (middle end : List ℕ) → own ≡ own_row v is → middle ≡ shown mem (at + 5) own → end ≡ refreshed_up 16 middle leaf v is → end ≡ switched mem v is
  unfolding switched
  switched_is is own middle end o m h =
      let there : at + 0 ≡ vertex_at mem v = omega (arith, at_is) in
      h ∙ λ t. refreshed_up 16 ((m ∙ λ u. shown mem (at_is u + 5) (o u)) t) ((l ∙ ap (λ (k : ℕ). get_or mem k 0) there) t) v is
