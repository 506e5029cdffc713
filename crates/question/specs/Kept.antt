-- What a search keeps, turn by turn, on the words of a map and a fleet: every active vertex that reaches x has been looked at, or lies in a part that waits, or
-- lies outside the part climbed to.
use Rattle.std.specs.Prelude.{◌≡◌, ◌⊎◌, ◌≢◌, Bool, true, false, List, [], ◌++◌, ℕ, ◌+◌, ◌*◌, ◌≤◌, ◌<◌, length, take, drop, eqb}
use Rattle.words.specs.Limits.{FAR}
use Rattle.words.specs.Lists.{word, keep, gather}
use Rattle.roads.specs.Map.{Map, part_count}
use Rattle.roads.specs.Dist.{dist}
use Rattle.parts.specs.Tree.{leaf_of, holds}
use Rattle.parts.specs.Border.{boundary}
use Rattle.rows.specs.Row.{row_of}
use Rattle.fleet.specs.State.{Slot, absent, present, State, slot_of, head_of, active}
use Rattle.fleet.specs.Question.{Listed, listed_words, coming_from, sorted, nearest}
use Rattle.places.specs.Place.{counts_in}
use Rattle.van_offers.specs.Offers.{row_offers}
use Rattle.van_offers.specs.Genuine.{Genuine, list_in}
use Rattle.far_sums.specs.Least.{Least}
use Rattle.layout.specs.Layout.{parent_in_part, rows_in_part, table_in_part, part_word}
use Rattle.part_words.specs.Part.{rows_in}
use Rattle.row_lists.specs.Rows.{own_rows, OwnRow}
use Rattle.row_distances.specs.Distances.{Closer, out_of}
use Rattle.part_keys.specs.Keys.{far_count}
use Rattle.question.specs.declared.search.Search.{Search}

-- The functions of the search, on any words.

-- the active rows of a leaf have their distances
abbrev pub LeafRelaxed : List ℕ → ℕ → List ℕ → List ℕ → Type 0
LeafRelaxed mem leaf dx dx' =
    Closer mem (part_word mem leaf rows_in_part) (part_word mem leaf table_in_part) (rows_in mem leaf) dx (OwnRow mem (part_word mem leaf rows_in_part) (rows_in mem leaf)) dx'

-- what the rows of a leaf that show their own vertex offer, with distances as they are
abbrev pub offers_of : List ℕ → ℕ → List ℕ → List Listed
offers_of mem leaf dx = row_offers mem (counts_in mem) (part_word mem leaf rows_in_part) dx (own_rows mem leaf)

-- the bound of what lies outside a part
pub record BoundOutside (mem : List ℕ) (part : ℕ) (dx : List ℕ) (out : ℕ) : Type 0 where
  pub root : part ≡ 0 → out ≡ FAR
  pub other : part ≢ 0 → Least (out_of mem (part_word mem (part_word mem part parent_in_part) rows_in_part) dx part) (rows_in mem (part_word mem part parent_in_part)) out

-- A search at x.

-- an active vertex that reaches x
pub record Coming (m : Map) (s : State) (x v : ℕ) : Type 0 where
  pub vertex : v < m.vertices
  pub is_active : active m s v ≡ true
  pub reaches : dist m v x < FAR

-- the leaf of the vertex has been looked at, or the vertex lies in one of the n parts that wait, of number `low` or a higher one
abbrev pub Covered : Map → List ℕ → List ℕ → ℕ → ℕ → ℕ → Type 0
Covered m marks waits n low v = (word marks (leaf_of m v) ≡ 1) ⊎ ((t : ℕ) × (t < n) × (low ≤ word waits t) × (holds m (word waits t) v ≡ true))

-- the leaf that a van heads into
abbrev pub van_leaf : Map → Slot → ℕ
van_leaf m absent = 0
van_leaf m (present v) = leaf_of m (head_of m v)

-- the leaf that a listed van heads into has been looked at
unfoldable pub is_looked_at : Map → State → List ℕ → Listed → Bool
is_looked_at m s marks l = eqb (word marks (van_leaf m (slot_of s l.van))) 1

-- a part that waits: it does not hold x, its boundary has its distances where an active vertex of the part arrives, and its key is a bound
pub record Waits (m : Map) (s : State) (x : ℕ) (dx : List ℕ) (q key : ℕ) : Type 0 where
  pub is_part : q < part_count m
  pub apart : holds m q x ≡ false
  pub gates : (b : ℕ) → boundary m q b ≡ true → (row_of m (active m s) q b).distance < FAR → word dx b ≤ dist m b x
  pub bound : (v : ℕ) → Coming m s x v → holds m q v ≡ true → key ≤ dist m v x

-- A search over the parts between two turns: `part` is the part climbed to, n parts wait. The marks are in no array: 1 for each leaf that was looked at.
pub record SearchingParts (m : Map) (s : State) (x k : ℕ) (dx keys marks waits : List ℕ) (part out n : ℕ) (found : List Listed) : Type 0 where
  pub keys_length : length keys ≡ 512
  pub marks_length : length marks ≡ 512
  pub waits_length : length waits ≡ 512
  -- no distance is too little
  pub honest : (v : ℕ) → v < m.vertices → dist m v x ≤ word dx v
  -- nor too great, where there is one
  pub known : (v : ℕ) → v < m.vertices → word dx v < FAR → word dx v ≤ dist m v x
  -- the part climbed to holds x, its boundary has its distances, and `out` is a bound of what lies outside it
  pub is_part : part < part_count m
  pub holds_x : holds m part x ≡ true
  pub root_out : part ≡ 0 → out ≡ FAR
  pub gates : (b : ℕ) → boundary m part b ≡ true → word dx b ≤ dist m b x
  pub outside : (v : ℕ) → v < m.vertices → holds m part v ≡ false → out ≤ dist m v x
  pub waiting : (t : ℕ) → t < n → Waits m s x dx (word waits t) (word keys (word waits t))
  -- an active vertex that reaches x is covered, where it lies in the part climbed to or in a part with a key
  pub inside : (v : ℕ) → Coming m s x v → holds m part v ≡ true → Covered m marks waits n part v
  pub keyed : (q : ℕ) → word keys q < FAR → (v : ℕ) → Coming m s x v → holds m q v ≡ true → Covered m marks waits n q v
  -- all that has a distance, and all that waits, lies in the part climbed to
  pub known_inside : (v : ℕ) → v < m.vertices → word dx v < FAR → holds m part v ≡ true
  pub waits_inside : (t : ℕ) → t < n → (v : ℕ) → holds m (word waits t) v ≡ true → holds m part v ≡ true
  -- a part that waits has a key, waits once, and was not looked at; a leaf that was looked at has a key, so it does not wait again
  pub waits_keyed : (t : ℕ) → t < n → word keys (word waits t) < FAR
  pub waits_apart : (t u : ℕ) → t < n → u < n → word waits t ≡ word waits u → t ≡ u
  pub unmarked : (t : ℕ) → t < n → word marks (word waits t) ≢ 1
  pub marked_keyed : (q : ℕ) → word marks q ≡ 1 → word keys q < FAR
  -- the list is the first k of the vans that head into the leaves looked at
  pub list : found ≡ take k (sorted (keep (is_looked_at m s marks) (coming_from m x 0 s.vans)))

-- the same of a search's own value, in whose list one van has room
pub record Searching (m : Map) (s : State) (x : ℕ) (mem dx : List ℕ) (st : Search) : Type 0 where
  pub some : 1 ≤ st.best.k
  pub marks : List ℕ
  pub parts : SearchingParts m s x st.best.k dx st.waiting.keys marks st.waiting.waits st.part st.out st.waiting.n (list_in mem st.best)

-- A turn.

-- the parts without a key, those that wait, and the number of the part climbed to: together they grow less with each turn
abbrev pub left_in : Search → ℕ
left_in st = far_count st.waiting.keys + st.waiting.n + st.part

-- there is no part above: then the bound of what lies outside is FAR
pub record CannotClimb (mem dx : List ℕ) (st st' : Search) : Type 0 where
  pub same_list : st'.best ≡ st.best
  pub stays : (m : Map) (fleet : State) (x k : ℕ) (marks : List ℕ) (found : List Listed) → Genuine m fleet mem → x < m.vertices
      → SearchingParts m fleet x k dx st.waiting.keys marks st.waiting.waits st.part st.out st.waiting.n found → FAR ≤ st.out

-- what a climb leaves: the list as it was; and the search stands as it should, where the bound of what lies outside the part is not FAR
pub record Climbs (mem dx : List ℕ) (st : Search) (dx' : List ℕ) (st' : Search) : Type 0 where
  pub same_list : st'.best ≡ st.best
  pub shrinks : left_in st' < left_in st
  pub climbs : (m : Map) (fleet : State) (x k : ℕ) (marks : List ℕ) (found : List Listed) → Genuine m fleet mem → x < m.vertices
      → SearchingParts m fleet x k dx st.waiting.keys marks st.waiting.waits st.part st.out st.waiting.n found → st.out < FAR
      → SearchingParts m fleet x k dx' st'.waiting.keys marks st'.waiting.waits st'.part st'.out st'.waiting.n found

-- what a turn leaves, where the search goes on
pub record GoesOn (mem dx : List ℕ) (st : Search) (dx' : List ℕ) (st' : Search) : Type 0 where
  pub same_k : st'.best.k ≡ st.best.k
  pub shrinks : left_in st' < left_in st
  pub on : (m : Map) (fleet : State) (x : ℕ) → Genuine m fleet mem → x < m.vertices → Searching m fleet x mem dx st → Searching m fleet x mem dx' st'

-- and where it has ended: the list is the answer
pub record Ends (mem dx : List ℕ) (st st' : Search) : Type 0 where
  pub same_k : st'.best.k ≡ st.best.k
  pub ends : (m : Map) (fleet : State) (x : ℕ) → Genuine m fleet mem → x < m.vertices → Searching m fleet x mem dx st → list_in mem st'.best ≡ nearest m fleet x st.best.k

-- A search before it starts: no distance and no key is known, and nothing waits or is listed.
pub record BeforeSearch (dx : List ℕ) (st : Search) : Type 0 where
  pub some : 1 ≤ st.best.k
  pub no_distance : (v : ℕ) → v < length dx → word dx v ≡ FAR
  pub keys_length : length st.waiting.keys ≡ 512
  pub no_key : (q : ℕ) → q < 512 → word st.waiting.keys q ≡ FAR
  pub waits_length : length st.waiting.waits ≡ 512
  pub none_waits : st.waiting.n ≡ 0
  pub none_listed : st.best.offers ≡ []

-- The answer with a list written over its first words: the words after the list stay.
unfoldable pub list_written : List Listed → List ℕ → List ℕ
list_written list answer = gather listed_words list ++ drop (3 * length list) answer
