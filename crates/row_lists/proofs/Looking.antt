-- The rows of a part that have a distance, and those that are asked for, listed row by row.
-- Assumes nothing.
use mathlib.Core.Path.{◌≡◌, sym, ◌∙◌, ap, subst}
use mathlib.Core.Bool.{Bool, cond}
use mathlib.Core.List.{List}
use Prim.Native.Nat.{ℕ, ◌+◌, ◌≤◌, ◌<◌}
use native.Mathlib.Decide.{ℕ_discrete}
use native.Mathlib.Omega.{arith}
use lib.ListN.{length, set, take}
use lib.Seq.{get_or-set_same, get_or-set_other}
use lib.Dec.{ltb}
use Rattle.words.specs.Limits.{FAR}
use Rattle.words.specs.Lists.{word, up_to, keep}
use Rattle.listing.specs.Lists.{Lists}
use Rattle.listing.proofs.Listing.{Listing, listing_none, listing_more, listing_all}
use Rattle.layout.specs.Layout.{distance_in_row, below_in_row, part_word, row_word}
use Rattle.part_words.specs.Part.{rows_in}
use Rattle.row_lists.specs.declared.lists.RowLists.{RowLists}
use Rattle.row_lists.specs.Rows.{near_at, shows_own, own_rows, is_known, Picks, RowsLooked}

-- a row by what was read of it
pub picks_row : (mem : List ℕ) (first : ℕ) (dx : List ℕ) {size : ℕ} (Picked : ℕ → ℕ → ℕ → Bool → Type 0) {test : ℕ → Bool} → Picks mem first dx size Picked test → {i d shown below : ℕ} {is : Bool} → i < size
    → d ≡ near_at mem first dx i → shown ≡ row_word mem first i distance_in_row → below ≡ row_word mem first i below_in_row → Picked d shown below is → is ≡ test i
picks_row mem first dx Picked picks {i} {d} {shown} {below} {is} h near_is isShown isBelow picked =
    picks i is h
    (subst (λ (k : ℕ). Picked k (row_word mem first i distance_in_row) (row_word mem first i below_in_row) is) near_is
    (subst (λ (k : ℕ). Picked d k (row_word mem first i below_in_row) is) isShown
    (subst (λ (k : ℕ). Picked d shown k is) isBelow picked)))

-- The rows of a part, listed up to row i.
pub record Looking (mem : List ℕ) (first : ℕ) (dx : List ℕ) (test : ℕ → Bool) (size i : ℕ) (places near : List ℕ) (known : ℕ) (asked : List ℕ) (count : ℕ) : Type 0 where
  pub knows : Listing (is_known mem first dx) size i places known
  pub nears : (t : ℕ) → t < known → word near t ≡ near_at mem first dx (word places t)
  pub asks : Listing test size i asked count

module _ {mem : List ℕ} {first : ℕ} {dx : List ℕ} {test : ℕ → Bool} {size : ℕ} where
  pub looking_none : {places near asked : List ℕ} → Looking mem first dx test size 0 places near 0 asked 0
  looking_none = record { knows = listing_none; nears = λ t h. absurd (omega arith); asks = listing_none }

  pub looking_more : {i : ℕ} {places near : List ℕ} {known : ℕ} {asked : List ℕ} {count : ℕ} → Looking mem first dx test size i places near known asked count → i < size → size ≤ 128
      → length places ≡ 128 → length near ≡ 128 → length asked ≡ 128 → {d : ℕ} → d ≡ near_at mem first dx i
      → {is : Bool} {places' near' asked' : List ℕ} {known' count' : ℕ} → is ≡ test i → places' ≡ set places known i → near' ≡ set near known d → asked' ≡ set asked count i
      → (known' ≡ cond (ltb d FAR) (known + 1) known) × (known' ≤ known + 1) → (count' ≡ cond is (count + 1) count) × (count' ≤ count + 1)
      → Looking mem first dx test size (i + 1) places' near' known' asked' count'
  unfolding is_known
  looking_more {i} {places} {near} {known} l h small places-length near-length asked-length {d} near_is {places' = places'} {near'} {known' = known'} isTest isPlaces isNears isAsked' isKnown' isCount =
      record {
        knows = listing_more l.knows h (omega arith) (ap (λ (k : ℕ). ltb k FAR) near_is) isPlaces isKnown';
        nears = λ t ht. each t ht (ℕ_discrete t known);
        asks = listing_more l.asks h (omega arith) isTest isAsked' isCount;
      }
    where
      few : known ≤ i
      few = l.knows.few

      each : (t : ℕ) → t < known' → Dec (t ≡ known) → word near' t ≡ near_at mem first dx (word places' t)
      each t ht (yes same) =
          ap (word near') same ∙ ap (λ (w : List ℕ). word w known) isNears ∙ get_or-set_same near known d 0 (omega (arith, few)) ∙ near_is
          ∙ ap (near_at mem first dx) (sym (ap (word places') same ∙ ap (λ (w : List ℕ). word w known) isPlaces ∙ get_or-set_same places known i 0 (omega (arith, few))))
      each t ht (no other) =
          ap (λ (w : List ℕ). word w t) isNears ∙ get_or-set_other near known t d 0 other ∙ l.nears t (omega (arith, other, isKnown'.1))
          ∙ ap (near_at mem first dx) (sym (ap (λ (w : List ℕ). word w t) isPlaces ∙ get_or-set_other places known t i 0 other))

  pub looking_all : {lists : RowLists} {i : ℕ} → Looking mem first dx test size i lists.places lists.near lists.known lists.asked lists.count → i ≤ size → size ≤ i → RowsLooked mem first dx test size lists
  looking_all l low high = record { knows = listing_all l.knows low high; nears = l.nears; asks = listing_all l.asks low high }

-- under the names of a part's words
pub own_named : (mem : List ℕ) (p : ℕ) {first size : ℕ} {list : List ℕ} {count : ℕ} → first ≡ part_word mem p 2 → size ≡ rows_in mem p → Lists (shows_own mem first) size list count → take count list ≡ own_rows mem p
own_named mem p isFirst isSize l = l.these ∙ (λ j. keep (shows_own mem (isFirst j)) (up_to (isSize j)))
