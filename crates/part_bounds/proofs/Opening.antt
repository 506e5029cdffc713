-- Distances made less and keys given row by row: no row changes the distance of another.
-- Assumes nothing.
use mathlib.Core.Path.{◌≡◌, refl, sym, ◌∙◌, ap, subst}
use mathlib.Core.Logic.{◌≢◌, ◌⊎◌, inl, inr, ⊎_elim}
use mathlib.Core.Bool.{Bool, true, false, not, true≢false}
use mathlib.Core.List.{List}
use Prim.Native.Nat.{ℕ, ◌+◌, ◌≤◌, ◌<◌, min}
use native.Mathlib.Decide.{dec_lt}
use native.Mathlib.Omega.{arith}
use lib.ListN.{set}
use borrow.Author.Tests.{lt-ltb, le-ltb, le-leb, lt-leb}
use Rattle.words.specs.Limits.{FAR}
use Rattle.words.specs.Lists.{word}
use Rattle.words.proofs.Tests.{both_pass, left_true, right_true}
use Rattle.far_sums.proofs.Lowering.{lowered_lesser, lowered_here, lowered_honest, lowered_where}
use Rattle.cells.specs.Lowered.{lowered}
use Rattle.listing.specs.Lists.{Among}
use Rattle.part_words.specs.Part.{rows_in, PartRead}
use Rattle.part_words.specs.declared.part.PartRows.{PartRows}
use Rattle.row_lists.specs.declared.lists.RowLists.{RowLists}
use Rattle.row_lists.specs.Rows.{owner_at, child_at, below_at, near_at, Apart, is_known, is_asked, AskedRow, RowsLooked}
use Rattle.row_distances.specs.Distances.{Closer}
use Rattle.row_distances.proofs.Relaxing.{closer_named}
use Rattle.part_keys.specs.Keys.{key_of, Spread}
use Rattle.part_keys.specs.Spread.{Spreads}
use Rattle.part_keys.specs.declared.waiting.PartsWaiting.{PartsWaiting}
use Rattle.part_bounds.specs.Bounds.{GivenRow, OpenedUp}

-- rows whose distances stay give the same keys
key_same : (mem : List ℕ) (first : ℕ) (dx dx' : List ℕ) (i : ℕ) → near_at mem first dx i ≡ near_at mem first dx' i → key_of mem first dx i ≡ key_of mem first dx' i
unfolding key_of
key_same mem first dx dx' i same = ap (λ (k : ℕ). min (below_at mem first i + k) FAR) same

pub spread_kept : {mem : List ℕ} {first : ℕ} {dx : List ℕ} (dx' : List ℕ) {Given : ℕ → Type 0} {keys waits : List ℕ} {n : ℕ} {keys' waits' : List ℕ} {n' : ℕ} → ((i : ℕ) → Given i → near_at mem first dx i ≡ near_at mem first dx' i)
    → Spread mem first dx Given keys waits n keys' waits' n' → Spread mem first dx' Given keys waits n keys' waits' n'
spread_kept {mem} {first} {dx} dx' same s =
    record {
      total = s.total;
      keys_length = s.keys_length;
      waits_length = s.waits_length;
      grows = s.grows;
      no_more = s.no_more;
      bound = λ i given real.
          let e = key_same mem first dx dx' i (same i given) in
          omega (arith, e, s.bound i given (omega (arith, e)));
      kept = s.kept;
      new = s.new;
      joined = s.joined;
      has_key = s.has_key;
      differ = s.differ;
    }

pub not-true : (b : Bool) → not b ≡ true → b ≡ false
not-true true e = sym e
not-true false e = refl

pub not-false : (b : Bool) → not b ≡ false → b ≡ true
not-false true e = refl
not-false false e = sym e

module _ (all : Bool) {mem : List ℕ} {first : ℕ} {dx : List ℕ} {size : ℕ} {lists : RowLists} (l : RowsLooked mem first dx (is_asked all mem first dx) size lists)
    (apart : Apart mem first size) where
  -- a row that is asked for has no distance, and a known one has
  asked_far : (t : ℕ) → t < lists.count → FAR ≤ near_at mem first dx (word lists.asked t)
  unfolding is_asked
  asked_far t h = by (dec_lt (near_at mem first dx (word lists.asked t)) FAR)
    where
      known' : near_at mem first dx (word lists.asked t) < FAR → is_asked all mem first dx (word lists.asked t) ≡ false
      known' some = rw (lt-leb FAR (near_at mem first dx (word lists.asked t)) some)

      by : Dec (near_at mem first dx (word lists.asked t) < FAR) → FAR ≤ near_at mem first dx (word lists.asked t)
      by (no far) = omega (arith, far)
      by (yes some) = absurd (true≢false (sym (l.asks.only t h).1 ∙ known' some))

  known_near : (t : ℕ) → t < lists.known → near_at mem first dx (word lists.places t) < FAR
  unfolding is_known
  known_near t h = by (dec_lt (near_at mem first dx (word lists.places t)) FAR)
    where
      by : Dec (near_at mem first dx (word lists.places t) < FAR) → near_at mem first dx (word lists.places t) < FAR
      by (yes some) = some
      by (no far) = absurd (true≢false (sym (l.knows.only t h).1 ∙ le-ltb (near_at mem first dx (word lists.places t)) FAR (omega (arith, far))))

  -- the distances of known rows stay
  pub known_kept : {table : ℕ} {dx' : List ℕ} → Closer mem first table size dx (Among lists.asked lists.count) dx' → (r : ℕ) → Among lists.places lists.known r → near_at mem first dx r ≡ near_at mem first dx' r
  known_kept {table} {dx'} c r (s, hs, e) = ⊎_elim sym (λ (i, (t, ht, is), owner). absurd (none i t ht is owner)) (c.changed (owner_at mem first r))
    where
      none : (i t : ℕ) → t < lists.count → word lists.asked t ≡ i → owner_at mem first i ≡ owner_at mem first r → ⊥
      none i t ht is owner =
          let same : i ≡ r = apart i r (omega (arith, (l.asks.only t ht).0, is)) (omega (arith, (l.knows.only s hs).0, e)) owner in
          omega (arith, asked_far t ht, ap (near_at mem first dx) (is ∙ same), known_near s hs, ap (near_at mem first dx) e)

  far_asked : all ≡ true → (i : ℕ) → FAR ≤ near_at mem first dx i → is_asked all mem first dx i ≡ true
  unfolding is_asked
  far_asked every i far = both_pass _ _ (le-leb FAR (near_at mem first dx i) far) (left_true all _ every)

  -- where all rows are asked for, those that had no distance are listed, and give keys
  pub spread_asked : all ≡ true → {dx' keys waits : List ℕ} {n : ℕ} {keys' waits' : List ℕ} {n' : ℕ} → Spread mem first dx' (Among lists.asked lists.count) keys waits n keys' waits' n'
      → Spread mem first dx' (GivenRow all mem first size dx) keys waits n keys' waits' n'
  spread_asked every s =
      record {
        total = s.total;
        keys_length = s.keys_length;
        waits_length = s.waits_length;
        grows = s.grows;
        no_more = s.no_more;
        bound = λ i given real. s.bound i (l.asks.all i given.is_row (far_asked every i (given.is_given every))) real;
        kept = s.kept;
        new = λ t low high.
            let (i, (u, hu, is), e, fresh) = s.new t low high in
            (i, record { is_row = omega (arith, (l.asks.only u hu).0, is); is_given = λ _. omega (arith, asked_far u hu, ap (near_at mem first dx) is) }, e, fresh);
        joined = s.joined;
        has_key = s.has_key;
        differ = s.differ;
      }

  -- The next of those that are asked for is written.
  module _ {table t : ℕ} {dx' : List ℕ} (c : Closer mem first table size dx (Among lists.asked t) dx') (ht : t < lists.count) {i : ℕ} (is_row : i ≡ word lists.asked t) where
    -- it is none of those before it
    before_other : (r : ℕ) → Among lists.asked t r → owner_at mem first r ≡ owner_at mem first i → ⊥
    before_other r (s, hs, e) owner =
        let same : r ≡ i = apart r i (omega (arith, (l.asks.only s (omega arith)).0, e)) (omega (arith, (l.asks.only t ht).0, is_row)) owner in
        omega (arith, same, l.asks.rise s t hs ht, e, is_row)

    still_far : FAR ≤ word dx' (owner_at mem first i)
    still_far = ⊎_elim
        (λ same. omega (arith, same, asked_far t ht, ap (near_at mem first dx) is_row))
        (λ (r, among, owner). absurd (before_other r among owner))
        (c.changed (owner_at mem first i))

    module _ {way : ℕ} (most : way ≤ FAR) {dx'' : List ℕ} (isAfter : dx'' ≡ set dx' (owner_at mem first i) way) where
      pub as_lowered : dx'' ≡ lowered dx' (owner_at mem first i) way
      as_lowered =
          let least : way ≡ min way (word dx' (owner_at mem first i)) = omega (arith, still_far) in
          isAfter ∙ lowered_lesser dx' (owner_at mem first i) way least

      after_word : (u : ℕ) → word dx'' u ≡ word (lowered dx' (owner_at mem first i) way) u
      after_word u = ap (λ (w : List ℕ). word w u) as_lowered

      pub way_is_near : way ≡ near_at mem first dx'' i
      way_is_near =
          omega (
            arith,
            after_word (owner_at mem first i),
            lowered_here dx' (owner_at mem first i) way,
            lowered_honest dx' (owner_at mem first i) way way (owner_at mem first i) (omega (arith, still_far)) (λ e. omega arith),
          )

      pub before_kept : (r : ℕ) → Among lists.asked t r → near_at mem first dx' r ≡ near_at mem first dx'' r
      before_kept r among = ⊎_elim
          (λ same. sym (after_word (owner_at mem first r) ∙ same))
          (λ owner. absurd (before_other r among owner))
          (lowered_where dx' (owner_at mem first i) way (owner_at mem first r))

-- The rows of two lists have given keys, and no other has one to give.
module _ {mem : List ℕ} {first : ℕ} (all : Bool) {dx : List ℕ} {size : ℕ} {lists : RowLists} (l : RowsLooked mem first dx (is_asked all mem first dx) size lists)
    {dx' : List ℕ} {keys waits : List ℕ} {n : ℕ} {keys₁ waits₁ : List ℕ} {n₁ : ℕ} {keys₂ waits₂ : List ℕ} {n₂ : ℕ}
    (s : Spread mem first dx' (Among lists.places lists.known) keys waits n keys₁ waits₁ n₁) (s₂ : Spread mem first dx' (Among lists.asked lists.count) keys₁ waits₁ n₁ keys₂ waits₂ n₂) where
  -- a row that has a key to give is known, or is asked for
  listed : (i : ℕ) → i < size → key_of mem first dx' i < FAR → Among lists.places lists.known i ⊎ Among lists.asked lists.count i
  unfolding key_of is_known is_asked
  listed i hi real = by (dec_lt (near_at mem first dx i) FAR)
    where
      by : Dec (near_at mem first dx i < FAR) → Among lists.places lists.known i ⊎ Among lists.asked lists.count i
      by (yes some) = inl (l.knows.all i hi (lt-ltb _ FAR some))
      by (no none) = inr (l.asks.all i hi (both_pass _ _ (le-leb FAR (near_at mem first dx i) (omega (arith, none))) (right_true all _ (lt-ltb (below_at mem first i) FAR (omega arith)))))

  -- where not all rows are asked for, each row gives a key
  pub spread_listed : all ≡ false → Spread mem first dx' (GivenRow all mem first size dx) keys waits n keys₂ waits₂ n₂
  spread_listed some =
      record {
        total = omega (arith, s.total, s₂.total);
        keys_length = s₂.keys_length ∙ s.keys_length;
        waits_length = s₂.waits_length;
        grows = omega (arith, s.grows, s₂.grows);
        no_more = λ q. omega (arith, s.no_more q, s₂.no_more q);
        bound = λ i given real. ⊎_elim
            (λ among. omega (arith, s.bound i among real, s₂.no_more (child_at mem first i)))
            (λ among. s₂.bound i among real)
            (listed i given.is_row real);
        kept = λ t h. s₂.kept t (omega (arith, s.grows)) ∙ s.kept t h;
        new = λ t low high. new t low high (dec_lt t n₁);
        joined = λ q h. ⊎_elim
            (λ old. ⊎_elim inl (λ (t, low, high, e). inr (t, low, omega (arith, s₂.grows), s₂.kept t high ∙ e)) (s.joined q old))
            (λ (t, low, high, e). inr (t, omega (arith, s.grows), high, e))
            (s₂.joined q h);
        has_key = λ t low high. has_key t low high (dec_lt t n₁);
        differ = λ t u low less high. differ t u low less high (dec_lt t n₁) (dec_lt u n₁);
      }
    where
      given_row : (i : ℕ) → i < size → GivenRow all mem first size dx i
      given_row i hi = record { is_row = hi; is_given = λ every. absurd (true≢false (sym every ∙ some)) }

      new : (t : ℕ) → n ≤ t → t < n₂ → Dec (t < n₁) → (i : ℕ) × GivenRow all mem first size dx i × (word waits₂ t ≡ child_at mem first i) × (FAR ≤ word keys (child_at mem first i))
      new t low high (yes before) =
          let (i, (u, hu, is), e, fresh) = s.new t low before in
          (i, given_row i (omega (arith, (l.knows.only u hu).0, is)), s₂.kept t before ∙ e, fresh)
      new t low high (no after) =
          let (i, (u, hu, is), e, fresh) = s₂.new t (omega (arith, after)) high in
          (i, given_row i (omega (arith, (l.asks.only u hu).0, is)), e, omega (arith, fresh, s.no_more (child_at mem first i)))

      first_key : (t : ℕ) → n ≤ t → t < n₁ → word keys₁ (word waits₂ t) < FAR
      first_key t low before = omega (arith, ap (word keys₁) (s₂.kept t before), s.has_key t low before)

      has_key : (t : ℕ) → n ≤ t → t < n₂ → Dec (t < n₁) → word keys₂ (word waits₂ t) < FAR
      has_key t low high (yes before) = omega (arith, first_key t low before, s₂.no_more (word waits₂ t))
      has_key t low high (no after) = s₂.has_key t (omega (arith, after)) high

      -- those of the first list have a key when those of the second join
      differ : (t u : ℕ) → n ≤ t → t < u → u < n₂ → Dec (t < n₁) → Dec (u < n₁) → word waits₂ t ≢ word waits₂ u
      differ t u low less high (no after) d same = s₂.differ t u (omega (arith, after)) less high same
      differ t u low less high (yes first') (yes second) same = s.differ t u low less second (sym (s₂.kept t first') ∙ same ∙ s₂.kept u second)
      differ t u low less high (yes first') (no after) same =
          let (i, among, e, fresh) = s₂.new u (omega (arith, after)) high in
          omega (arith, first_key t low first', ap (word keys₁) (same ∙ e), fresh)

-- under the names of a part's words
pub opened_of : {mem : List ℕ} (p : ℕ) {part : PartRows} {all : Bool} {dx : List ℕ} (waiting : PartsWaiting) {dx' : List ℕ} (waiting' : PartsWaiting) → PartRead mem p part
    → Closer mem part.first part.table part.size dx (AskedRow all mem part.first part.size dx) dx' → Spreads mem part.first dx' (GivenRow all mem part.first part.size dx) waiting waiting' → OpenedUp mem p all dx waiting dx' waiting'
opened_of {mem} p {part} {all} {dx} waiting {dx'} waiting' read c s = (
  closer_named (λ a b. AskedRow all mem a b dx) read.first_is read.table_is read.size_is c,
  subst (λ (a : ℕ). Spreads mem a dx' (GivenRow all mem a (rows_in mem p) dx) waiting waiting') read.first_is (subst (λ (a : ℕ). Spreads mem part.first dx' (GivenRow all mem part.first a dx) waiting waiting') read.size_is s),
)
