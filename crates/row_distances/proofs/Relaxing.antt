-- Distances made less, one row that is asked for after the other.
-- Assumes nothing.
use mathlib.Core.Path.{◌≡◌, refl, sym, ◌∙◌, ap, subst}
use mathlib.Core.Logic.{◌⊎◌, inl, inr, ⊎_elim}
use mathlib.Core.Bool.{Bool, true, false, true≢false}
use mathlib.Core.List.{List}
use Prim.Native.Nat.{ℕ, ◌+◌, ◌*◌, ◌%◌, ◌≤◌, ◌<◌}
use native.Mathlib.Decide.{ℕ_discrete, dec_lt}
use native.Mathlib.Omega.{arith}
use lib.ListN.{length, drop, take}
use borrow.Author.Tests.{lt-ltb, le-leb, lt-leb}
use Rattle.words.specs.Limits.{FAR}
use Rattle.words.specs.Lists.{word}
use Rattle.far_sums.specs.Least.{Least}
use Rattle.far_sums.proofs.Lowering.{lowered_same, lowered_length, lowered_no_more, lowered_here, lowered_honest, lowered_where}
use Rattle.cells.specs.Lowered.{lowered}
use Rattle.listing.specs.Lists.{Among}
use Rattle.part_words.proofs.Fits.{row_within}
use Rattle.row_lists.specs.declared.lists.RowLists.{RowLists}
use Rattle.row_lists.specs.Rows.{owner_at, near_at, shows_own, is_known, is_asked, AskedRow, OwnRow, RowsLooked}
use Rattle.row_lists.proofs.Rows.{row_read}
use Rattle.row_distances.specs.Distances.{way_in, Closer, Alone}

-- the way from row i by way of row j
abbrev pub way_by : List ℕ → ℕ → ℕ → ℕ → List ℕ → ℕ → ℕ → ℕ
way_by mem first table size dx i j = word mem (table + size * i + j) + near_at mem first dx j

-- what holds of some rows holds of the same rows told otherwise
pub closer_map : {mem : List ℕ} {first table size : ℕ} {dx dx' : List ℕ} {P Q : ℕ → Type 0} → ((i : ℕ) → P i → Q i) → ((i : ℕ) → Q i → P i) → Closer mem first table size dx P dx'
    → Closer mem first table size dx Q dx'
closer_map to from c =
    record {
      same_length = c.same_length;
      no_more = c.no_more;
      changed = λ u. ⊎_elim inl (λ (i, p, owner). inr (i, to i p, owner)) (c.changed u);
      ways = λ i j q. c.ways i j (from i q);
      far = λ i q. c.far i (from i q);
      honest = λ bound most least each. c.honest bound most least (λ i j p. each i j (to i p));
    }

-- no row was asked for
pub closer_none : {mem : List ℕ} {first table size : ℕ} {dx : List ℕ} {P : ℕ → Type 0} → ((i : ℕ) → P i → ⊥) → Closer mem first table size dx P dx
closer_none none =
    record {
      same_length = refl;
      no_more = λ u. omega arith;
      changed = λ u. inl refl;
      ways = λ i j p. absurd (none i p);
      far = λ i p. absurd (none i p);
      honest = λ bound most least ways. least;
    }

-- one row more is made less
module _ {mem : List ℕ} {first table size : ℕ} {dx : List ℕ} {P : ℕ → Type 0} {dx' : List ℕ} (c : Closer mem first table size dx P dx') {Q : ℕ → Type 0} {i way : ℕ} {dx'' : List ℕ}
    (later : (r : ℕ) → P r → Q r) (now : Q i) (place : (r : ℕ) → Q r → (r ≡ i) ⊎ P r)
    (isWay : Least (way_by mem first table size dx i) size way) (isAfter : dx'' ≡ lowered dx' (owner_at mem first i) way) where
  after_word : (u : ℕ) → word dx'' u ≡ word (lowered dx' (owner_at mem first i) way) u
  after_word u = ap (λ (l : List ℕ). word l u) isAfter

  here : (r : ℕ) → r ≡ i → word dx'' (owner_at mem first r) ≤ way
  here r same =
      omega (arith, ap (λ (k : ℕ). word dx'' (owner_at mem first k)) same, after_word (owner_at mem first i), lowered_here dx' (owner_at mem first i) way)

  before : (u : ℕ) → word dx'' u ≤ word dx' u
  before u = omega (arith, after_word u, lowered_no_more dx' (owner_at mem first i) way u)

  pub closer_more : Closer mem first table size dx Q dx''
  closer_more =
      record {
        same_length = ap length isAfter ∙ lowered_length dx' (owner_at mem first i) way ∙ c.same_length;
        no_more = λ u. omega (arith, before u, c.no_more u);
        changed = changed;
        ways = λ r j q hj. ways r j hj (place r q);
        far = λ r q. far r (place r q);
        honest = honest;
      }
    where
      changed : (u : ℕ) → (word dx'' u ≡ word dx u) ⊎ ((r : ℕ) × Q r × (owner_at mem first r ≡ u))
      changed u =
          ⊎_elim
          (λ same. ⊎_elim (λ old. inl (after_word u ∙ same ∙ old)) (λ (r, p, owner). inr (r, later r p, owner)) (c.changed u))
          (λ owner. inr (i, now, sym owner))
          (lowered_where dx' (owner_at mem first i) way u)

      ways : (r j : ℕ) → j < size → (r ≡ i) ⊎ P r → word dx'' (owner_at mem first r) ≤ word mem (table + size * r + j) + near_at mem first dx j
      ways r j hj (inl same) = omega (arith, here r same, isWay.below j hj, ap (λ (k : ℕ). word mem (table + size * k + j)) same)
      ways r j hj (inr p) = omega (arith, before (owner_at mem first r), c.ways r j p hj)

      far : (r : ℕ) → (r ≡ i) ⊎ P r → word dx'' (owner_at mem first r) ≤ FAR
      far r (inl same) = omega (arith, here r same, isWay.most)
      far r (inr p) = omega (arith, before (owner_at mem first r), c.far r p)

      honest : (bound : ℕ → ℕ) → ((u : ℕ) → bound u ≤ FAR) → ((u : ℕ) → bound u ≤ word dx u)
          → ((r j : ℕ) → Q r → j < size → bound (owner_at mem first r) ≤ word mem (table + size * r + j) + near_at mem first dx j) → (u : ℕ) → bound u ≤ word dx'' u
      honest bound most least each u =
          let old : bound u ≤ word dx' u = c.honest bound most least (λ r j p. each r j (later r p)) u in
          omega (
            arith,
            after_word u,
            lowered_honest dx' (owner_at mem first i) way (bound u) u old (λ same. ⊎_elim
                (λ none. omega (arith, most u))
                (λ (j, hj, e). omega (arith, ap bound same, e, each i j now hj))
                isWay.found),
          )

-- the vertex of row i, read from the rows, has its distance made less
pub owner_lowered : (mem : List ℕ) (first size i : ℕ) (dx : List ℕ) (way : ℕ) {rows dx' : List ℕ} → rows ≡ take (4 * size) (drop first mem) → i < size
    → dx' ≡ lowered dx (word rows (4 * i + 2) % 65536) way → dx' ≡ lowered dx (owner_at mem first i) way
owner_lowered mem first size i dx way cut h isAfter =
    isAfter ∙ ap (λ (k : ℕ). lowered dx (k % 65536) way) (row_read mem first size cut i 2 h (omega arith))

-- Rows that are listed.
module _ {mem : List ℕ} {first size : ℕ} {dx : List ℕ} {test : ℕ → Bool} {lists : RowLists} (l : RowsLooked mem first dx test size lists) where
  -- a way by the least of the known places is the least by way of any row
  way_least : (table i : ℕ) {way : ℕ} → Least (way_in mem (table + size * i) lists.places lists.near) lists.known way → Least (way_by mem first table size dx i) size way
  unfolding way_in is_known
  way_least table i {way} least =
      record {
        most = least.most;
        below = λ j hj. below j hj (dec_lt (near_at mem first dx j) FAR);
        found = ⊎_elim inl (λ (s, hs, e). inr (word lists.places s, (l.knows.only s hs).0, omega (arith, e, l.nears s hs))) least.found;
      }
    where
      below : (j : ℕ) → j < size → Dec (near_at mem first dx j < FAR) → way ≤ word mem (table + size * i + j) + near_at mem first dx j
      below j hj (no far) = omega (arith, far, least.most)
      below j hj (yes close) =
          let (s, hs, e) = l.knows.all j hj (lt-ltb _ FAR close) in
          omega (arith, least.below s hs, ap (λ (k : ℕ). word mem (table + size * i + k)) e, l.nears s hs, ap (near_at mem first dx) e)

  -- the next of those that are asked for
  pub closer_next : {table t : ℕ} {dx' : List ℕ} → Closer mem first table size dx (Among lists.asked t) dx' → {i way : ℕ} {dx'' : List ℕ} → i ≡ word lists.asked t
      → Least (way_in mem (table + size * i) lists.places lists.near) lists.known way → dx'' ≡ lowered dx' (owner_at mem first i) way → Closer mem first table size dx (Among lists.asked (t + 1)) dx''
  closer_next {table} {t} c {i} is_row isWay isAfter = closer_more c
      (λ r (s, hs, e). (s, omega arith, e))
      (t, omega arith, sym is_row)
      (λ r (s, hs, e). which r s hs e (ℕ_discrete s t))
      (way_least table i isWay)
      isAfter
    where
      which : (r s : ℕ) → s < t + 1 → word lists.asked s ≡ r → Dec (s ≡ t) → (r ≡ i) ⊎ Among lists.asked t r
      which r s hs e (yes same) = inl (sym e ∙ ap (word lists.asked) same ∙ sym is_row)
      which r s hs e (no other) = inr (s, omega (arith, other), e)

  -- a row that is asked for
  asked_row : {t i : ℕ} → t < lists.count → i ≡ word lists.asked t → i < size
  asked_row {t} h is_row = omega (arith, (l.asks.only t h).0)

  -- and its words of the table
  pub asked_within : size ≤ 128 → {t i : ℕ} → t < lists.count → i ≡ word lists.asked t → (i < size) × (size * i ≤ 16384) × (size * i + size ≤ size * size)
  asked_within few {t} {i} h is_row =
      let line = row_within size i few (asked_row h is_row) in
      (asked_row h is_row, line.0, line.1)

-- every row that is asked for
pub closer_asked : {mem : List ℕ} {first table size : ℕ} (all : Bool) {dx : List ℕ} {lists : RowLists} {dx' : List ℕ}
    → RowsLooked mem first dx (is_asked all mem first dx) size lists → Closer mem first table size dx (Among lists.asked lists.count) dx' → Closer mem first table size dx (AskedRow all mem first size dx) dx'
closer_asked {mem} {first} {size = size} all {dx} l c = closer_map
    (λ i (s, hs, e).
    let (row, asks) = l.asks.only s hs in
    subst (AskedRow all mem first size dx) e (record { is_row = row; is_asked_lem = asks }))
    (λ i row. l.asks.all i row.is_row row.is_asked_lem)
    c

pub closer_own : {mem : List ℕ} {first table size : ℕ} {dx : List ℕ} {lists : RowLists} {dx' : List ℕ}
    → RowsLooked mem first dx (shows_own mem first) size lists → Closer mem first table size dx (Among lists.asked lists.count) dx' → Closer mem first table size dx (OwnRow mem first size) dx'
closer_own {mem} {first} {size = size} l c = closer_map
    (λ i (s, hs, e).
    let (row, own) = l.asks.only s hs in
    subst (OwnRow mem first size) e (record { is_row = row; is_own = own }))
    (λ i row. l.asks.all i row.is_row row.is_own)
    c

pub closer_count : {mem : List ℕ} {first table size : ℕ} {dx : List ℕ} (asked : List ℕ) {dx' : List ℕ} {t count : ℕ} → t ≡ count → Closer mem first table size dx (Among asked t) dx' → Closer mem first table size dx (Among asked count) dx'
closer_count {mem} {first} {table} {size} {dx} asked {dx'} e c = subst (λ (k : ℕ). Closer mem first table size dx (Among asked k) dx') e c

-- under the names of a part's words
pub closer_named : {mem : List ℕ} {first first' table table' size size' : ℕ} {dx dx' : List ℕ} (Asked : ℕ → ℕ → ℕ → Type 0) → first ≡ first' → table ≡ table' → size ≡ size'
    → Closer mem first table size dx (Asked first size) dx' → Closer mem first' table' size' dx (Asked first' size') dx'
closer_named {mem} {first} {first'} {table} {table'} {size} {size'} {dx} {dx'} Asked f t s c =
    subst (λ (a : ℕ). Closer mem a table' size' dx (Asked a size') dx') f
    (subst (λ (a : ℕ). Closer mem first a size' dx (Asked first size') dx') t
    (subst (λ (a : ℕ). Closer mem first table a dx (Asked first a) dx') s c))

pub alone_named : {mem : List ℕ} {first first' size size' : ℕ} {dx : List ℕ} {place : ℕ} → first ≡ first' → size ≡ size' → Alone mem first size dx place → Alone mem first' size' dx place
alone_named {mem} {first} {size' = size'} {dx} {place} f s a = subst (λ (k : ℕ). Alone mem k size' dx place) f (subst (λ (k : ℕ). Alone mem first k dx place) s a)

-- The rows where only the one at `place` has a distance: those before row i got what the table says to that one.
abbrev pub Before : List ℕ → ℕ → ℕ → List ℕ → ℕ → ℕ → Type 0
Before mem first size dx i r = (r < i) × AskedRow true mem first size dx r

module _ {mem : List ℕ} {first size : ℕ} {dx : List ℕ} {place : ℕ} (a : Alone mem first size dx place) (inside : place < size) where
  -- it is the one row that is not asked for
  not_asked : (r : ℕ) → is_asked true mem first dx r ≡ true → r ≡ place → ⊥
  unfolding is_asked
  not_asked r asks same =
      true≢false (sym asks ∙ ap (is_asked true mem first dx) same ∙ known)
    where
      known : is_asked true mem first dx place ≡ false
      known = rw (lt-leb FAR (near_at mem first dx place) (omega (arith, a.here)))

  asked : (r : ℕ) → r < size → (r ≡ place → ⊥) → is_asked true mem first dx r ≡ true
  unfolding is_asked
  asked r h other = rw (le-leb FAR (near_at mem first dx r) (a.others r h other))

  way_alone : (table i : ℕ) {way : ℕ} → way ≡ word mem (table + size * i + place) → way ≤ FAR → Least (way_by mem first table size dx i) size way
  way_alone table i {way} isWay most =
      record {
        most = most;
        below = λ j hj. below j hj (ℕ_discrete j place);
        found = inr (place, inside, omega (arith, a.here));
      }
    where
      below : (j : ℕ) → j < size → Dec (j ≡ place) → way ≤ word mem (table + size * i + j) + near_at mem first dx j
      below j hj (yes same) = omega (arith, ap (λ (k : ℕ). word mem (table + size * i + k)) same)
      below j hj (no other) = omega (arith, a.others j hj other)

  -- row i is made less
  pub own_next : {table i : ℕ} {dx' : List ℕ} → Closer mem first table size dx (Before mem first size dx i) dx' → i < size → {way : ℕ} {dx'' : List ℕ} → way ≡ word mem (table + size * i + place) → way ≤ FAR
      → dx'' ≡ lowered dx' (owner_at mem first i) way → Closer mem first table size dx (Before mem first size dx (i + 1)) dx''
  own_next {table} {i} {dx'} c h {way} {dx''} isWay most isAfter = by (ℕ_discrete i place)
    where
      which : (r : ℕ) → Before mem first size dx (i + 1) r → Dec (r ≡ i) → (r ≡ i) ⊎ Before mem first size dx i r
      which r (hr, row) (yes same) = inl same
      which r (hr, row) (no other) = inr (omega (arith, other), row)

      by : Dec (i ≡ place) → Closer mem first table size dx (Before mem first size dx (i + 1)) dx''
      by (no other) = closer_more c
          (λ r (hr, row). (omega arith, row))
          (omega arith, record { is_row = h; is_asked_lem = asked i h other })
          (λ r q. which r q (ℕ_discrete r i))
          (way_alone table i isWay most)
          isAfter
      by (yes same) =
          let none : word dx' (owner_at mem first i) ≤ way = omega (arith, c.no_more (owner_at mem first i), ap (near_at mem first dx) same, a.here) in
          subst (Closer mem first table size dx (Before mem first size dx (i + 1))) (sym (isAfter ∙ lowered_same dx' (owner_at mem first i) way none))
          (closer_map
          (λ r (hr, row). (omega arith, row))
          (λ r (hr, row). (omega (arith, not_asked r row.is_asked_lem, same), row))
          c)

  pub own_all : {table i : ℕ} {dx' : List ℕ} → size ≤ i → Closer mem first table size dx (Before mem first size dx i) dx' → Closer mem first table size dx (AskedRow true mem first size dx) dx'
  own_all high c = closer_map (λ r (hr, row). row) (λ r row. (omega (arith, row.is_row), row)) c
