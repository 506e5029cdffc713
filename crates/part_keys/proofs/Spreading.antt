-- Keys given row by row, and how many parts have none.
-- Assumes nothing.
use mathlib.Core.Path.{◌≡◌, refl, sym, ◌∙◌, ap, subst}
use mathlib.Core.Logic.{◌≢◌, ◌⊎◌, inl, inr, ⊎_elim}
use mathlib.Core.Bool.{Bool, true, false, ◌&&◌, cond}
use mathlib.Core.List.{List, [], ◌∷◌}
use Prim.Native.Nat.{ℕ, zero, suc, ◌+◌, ◌*◌, ◌/◌, ◌≤◌, ◌<◌, min}
use native.Mathlib.Decide.{ℕ_discrete, dec_lt, dec_le}
use native.Mathlib.Omega.{arith}
use lib.ListN.{length, set, length-set}
use lib.Seq.{get_or-set_same, get_or-set_other}
use lib.Dec.{ltb, leb}
use borrow.Author.Tests.{lt-ltb, le-ltb, le-leb, lt-leb}
use Rattle.words.specs.Limits.{FAR}
use Rattle.words.specs.Lists.{word}
use Rattle.far_sums.proofs.Lowering.{lowered_lesser, lowered_set, lowered_same, lowered_length, lowered_no_more, lowered_here, lowered_found}
use Rattle.cells.specs.Lowered.{lowered}
use Rattle.listing.specs.Lists.{Among}
use Rattle.row_lists.specs.Rows.{child_at, near_at}
use Rattle.part_keys.specs.Keys.{is_new, far_count, key_of, Spread}

-- the key that a row gives
pub key_read : (mem : List ℕ) (first : ℕ) (dx : List ℕ) (i : ℕ) {row shown d r : ℕ} → row ≡ word mem (first + 4 * i + 3) → shown ≡ word mem (row + 1) → d ≡ near_at mem first dx i
    → r ≡ min (shown + d) 4294967295 → r ≡ key_of mem first dx i
unfolding key_of
key_read mem first dx i is_row isShown isNear isSum =
    isSum ∙ (λ j. min ((isShown ∙ ap (λ (k : ℕ). word mem (k + 1)) is_row) j + isNear j) FAR)

one_mono : (x y : ℕ) → x ≤ y → cond (leb FAR x) 1 0 ≤ cond (leb FAR y) 1 0
one_mono x y h = by (dec_le FAR x) (dec_le FAR y)
  where
    by : Dec (FAR ≤ x) → Dec (FAR ≤ y) → cond (leb FAR x) 1 0 ≤ cond (leb FAR y) 1 0
    by (yes p) (yes q) = rw (le-leb FAR x p, le-leb FAR y q) (omega arith)
    by (yes p) (no q) = absurd (omega (arith, p, q))
    by (no p) (yes q) = rw (lt-leb FAR x (omega (arith, p)), le-leb FAR y q) (omega arith)
    by (no p) (no q) = rw (lt-leb FAR x (omega (arith, p)), lt-leb FAR y (omega (arith, q))) (omega arith)

-- a word made less
pub far_less : (words : List ℕ) (i x : ℕ) → x ≤ word words i → far_count (set words i x) ≤ far_count words
unfolding far_count
far_less [] i x h = omega arith
far_less (y ∷ ys) zero x h = omega (arith, one_mono x y h)
far_less (y ∷ ys) (suc i) x h = omega (arith, far_less ys i x h)

-- a part that had no key
far_new : (words : List ℕ) (i x : ℕ) → FAR ≤ word words i → x < FAR → far_count (set words i x) < far_count words
unfolding far_count
far_new [] i x h k = absurd (omega arith)
far_new (y ∷ ys) zero x h k = rw (le-leb FAR y h, lt-leb FAR x k) (omega arith)
far_new (y ∷ ys) (suc i) x h k = omega (arith, far_new ys i x h k)

pub far_most : (words : List ℕ) → far_count words ≤ length words
unfolding far_count
far_most [] = omega arith
far_most (y ∷ ys) = by (leb FAR y) (far_most ys)
  where
    by : (b : Bool) → far_count ys ≤ length ys → cond b 1 0 + far_count ys ≤ suc (length ys)
    by true h = omega arith
    by false h = omega arith

-- The two cases of a key.
module _ (keys : List ℕ) (part key : ℕ) where
  pub is_new_lem : key < FAR → FAR ≤ word keys part → is_new keys part key ≡ true
  unfolding is_new
  is_new_lem near none = rw (lt-ltb key FAR near, le-leb FAR (word keys part) none)

  pub not_new : key < FAR → word keys part < FAR → is_new keys part key ≡ false
  unfolding is_new
  not_new near some = rw (lt-ltb key FAR near, lt-leb FAR (word keys part) some)

  pub no_key : FAR ≤ key → is_new keys part key ≡ false
  unfolding is_new
  no_key far = rw (le-ltb key FAR far)

-- What is so after a key was given: the part had none and joins, or nothing joins.
data KeyGiven (keys : List ℕ) (part key count count' : ℕ) : Type 0 where
  joins : key < FAR → FAR ≤ word keys part → count' ≡ count + 1 → KeyGiven keys part key count count'
  stays : (word keys part < FAR) ⊎ (FAR ≤ key) → count' ≡ count → KeyGiven keys part key count count'

key_given : (keys : List ℕ) (part key count count' : ℕ) → count' ≡ cond (is_new keys part key) (count + 1) count → KeyGiven keys part key count count'
key_given keys part key count count' isCount = by (dec_lt key FAR) (dec_lt (word keys part) FAR)
  where
    by : Dec (key < FAR) → Dec (word keys part < FAR) → KeyGiven keys part key count count'
    by (no far) d = stays (inr (omega (arith, far))) (isCount ∙ ap (λ (b : Bool). cond b (count + 1) count) (no_key keys part key (omega (arith, far))))
    by (yes near) (yes some) = stays (inl some) (isCount ∙ ap (λ (b : Bool). cond b (count + 1) count) (not_new keys part key near some))
    by (yes near) (no none) =
        joins near (omega (arith, none)) (isCount ∙ ap (λ (b : Bool). cond b (count + 1) count) (is_new_lem keys part key near (omega (arith, none))))

-- a key made less leaves no more parts without one
pub far_lowered : (words : List ℕ) (i x : ℕ) → far_count (lowered words i x) ≤ far_count words
far_lowered words i x = by (dec_lt x (word words i))
  where
    by : Dec (x < word words i) → far_count (lowered words i x) ≤ far_count words
    by (yes less) = omega (arith, ap far_count (lowered_set words i x less), far_less words i x (omega arith))
    by (no more) = omega (arith, ap far_count (lowered_same words i x (omega (arith, more))))

-- parts without a key, and parts that wait
pub total_more : (keys : List ℕ) (part key count : ℕ) {keys' : List ℕ} {count' : ℕ} → keys' ≡ lowered keys part key → count' ≡ cond (is_new keys part key) (count + 1) count
    → far_count keys' + count' ≤ far_count keys + count
total_more keys part key count {keys'} {count'} isKeys isCount = by (key_given keys part key count count' isCount)
  where
    by : KeyGiven keys part key count count' → far_count keys' + count' ≤ far_count keys + count
    by (joins near none next-count) = omega (arith, ap far_count (isKeys ∙ lowered_set keys part key (omega arith)), far_new keys part key none near)
    by (stays why same_count) = omega (arith, ap far_count isKeys, far_lowered keys part key)

module _ {mem : List ℕ} {first : ℕ} {dx : List ℕ} (list : List ℕ) where
  pub spread_none : {keys waits : List ℕ} {n : ℕ} → length waits ≡ 512 → Spread mem first dx (Among list 0) keys waits n keys waits n
  spread_none long =
      record {
        total = omega arith;
        keys_length = refl;
        waits_length = long;
        grows = omega arith;
        no_more = λ q. omega arith;
        bound = λ i (t, h, e). absurd (omega arith);
        kept = λ t h. refl;
        new = λ t low high. absurd (omega arith);
        joined = λ q h. inl h;
        has_key = λ t low high. absurd (omega arith);
        differ = λ t u low less high. absurd (omega arith);
      }

  module _ {u : ℕ} {keys waits : List ℕ} {n : ℕ} {keys₁ waits₁ : List ℕ} {count : ℕ} (s : Spread mem first dx (Among list u) keys waits n keys₁ waits₁ count)
      (few : far_count keys + n ≤ 512) {i key w child : ℕ} {keys₂ waits₂ : List ℕ} {count₂ : ℕ} (is_row : i ≡ word list u) (is_key : key ≡ key_of mem first dx i) (isWord : w ≡ word mem (first + 4 * i + 2)) (isChild : child ≡ w / 65536)
      (isKeys : keys₂ ≡ lowered keys₁ child key) (isWaits : waits₂ ≡ set waits₁ count child)
      (isCount : count₂ ≡ cond (is_new keys₁ child key) (count + 1) count) where
    child_is : child ≡ child_at mem first i
    child_is = isChild ∙ ap (λ (k : ℕ). k / 65536) isWord

    keys_word : (q : ℕ) → word keys₂ q ≡ word (lowered keys₁ child key) q
    keys_word q = ap (λ (l : List ℕ). word l q) isKeys

    later : (r : ℕ) → Among list u r → Among list (u + 1) r
    later r (t, h, e) = (t, omega arith, e)

    bound_next : (r : ℕ) → Among list (u + 1) r → key_of mem first dx r < FAR → word keys₂ (child_at mem first r) ≤ key_of mem first dx r
    bound_next r (t, h, e) real = by (ℕ_discrete t u)
      where
        by : Dec (t ≡ u) → word keys₂ (child_at mem first r) ≤ key_of mem first dx r
        by (yes same) =
            let this : r ≡ i = sym e ∙ ap (word list) same ∙ sym is_row in
            omega (
              arith,
              ap (λ (k : ℕ). word keys₂ (child_at mem first k)) this,
              ap (word keys₂) child_is,
              keys_word child,
              lowered_here keys₁ child key,
              is_key,
              ap (key_of mem first dx) this,
            )
        by (no other) = omega (arith, keys_word (child_at mem first r), lowered_no_more keys₁ child key (child_at mem first r), s.bound r (t, omega (arith, other), e) real)

    keys_length_next : length keys₂ ≡ length keys
    keys_length_next = ap length isKeys ∙ lowered_length keys₁ child key ∙ s.keys_length

    no_more_next : (q : ℕ) → word keys₂ q ≤ word keys q
    no_more_next q = omega (arith, keys_word q, lowered_no_more keys₁ child key q, s.no_more q)

    waits_length_next : length waits₂ ≡ 512
    waits_length_next = ap length isWaits ∙ length-set waits₁ count child ∙ s.waits_length

    -- those that waited before
    old_wait : (t : ℕ) → t < count → word waits₂ t ≡ word waits₁ t
    old_wait t h = ap (λ (l : List ℕ). word l t) isWaits ∙ get_or-set_other waits₁ count t child 0 (λ e. omega (arith, e, h))

    -- and those that joined
    old_key : (t : ℕ) → n ≤ t → t < count → word keys₂ (word waits₂ t) < FAR
    old_key t low h =
        omega (arith, ap (word keys₂) (old_wait t h), keys_word (word waits₁ t), lowered_no_more keys₁ child key (word waits₁ t), s.has_key t low h)

    old_differ : (t r : ℕ) → n ≤ t → t < r → r < count → word waits₂ t ≢ word waits₂ r
    old_differ t r low less h same = s.differ t r low less h (sym (old_wait t (omega arith)) ∙ same ∙ old_wait r h)

    -- nothing joins
    stay : (word keys₁ child < FAR) ⊎ (FAR ≤ key) → count₂ ≡ count → Spread mem first dx (Among list (u + 1)) keys waits n keys₂ waits₂ count₂
    stay why same_count =
        record {
          total = omega (arith, s.total, ap far_count isKeys, far_lowered keys₁ child key);
          keys_length = keys_length_next;
          waits_length = waits_length_next;
          grows = omega (arith, s.grows);
          no_more = no_more_next;
          bound = bound_next;
          kept = λ t h. old_wait t (omega (arith, s.grows)) ∙ s.kept t h;
          new = λ t low high.
              let before : t < count = omega arith in
              let (r, among, e, none) = s.new t low before in
              (r, later r among, old_wait t before ∙ e, none);
          joined = λ q h. old_joined (⊎_elim (λ old. old) (λ (same, less, near). ⊎_elim (λ some. omega (arith, ap (word keys₁) same)) (λ far. absurd (omega arith)) why) (lowered_found keys₁ child key FAR q (omega (arith, keys_word q))));
          has_key = λ t low high. old_key t low (omega arith);
          differ = λ t r low less high. old_differ t r low less (omega arith);
        }
      where
        old_joined : {q : ℕ} → word keys₁ q < FAR → (word keys q < FAR) ⊎ ((t : ℕ) × (n ≤ t) × (t < count₂) × (word waits₂ t ≡ q))
        old_joined {q} h =
            ⊎_elim inl (λ (t, low, high, e). inr (t, low, omega arith, old_wait t high ∙ e)) (s.joined q h)

    -- the child joins
    join : key < FAR → FAR ≤ word keys₁ child → count₂ ≡ count + 1 → Spread mem first dx (Among list (u + 1)) keys waits n keys₂ waits₂ count₂
    join near none next-count =
        record {
          total = omega (arith, s.total, fewer);
          keys_length = keys_length_next;
          waits_length = waits_length_next;
          grows = omega (arith, s.grows);
          no_more = no_more_next;
          bound = bound_next;
          kept = λ t h. old_wait t (omega (arith, s.grows)) ∙ s.kept t h;
          new = λ t low high. new_next t low high (ℕ_discrete t count);
          joined = λ q h. ⊎_elim old_joined (λ (same, less, small). inr (count, s.grows, omega arith, new_wait ∙ sym same)) (lowered_found keys₁ child key FAR q (omega (arith, keys_word q)));
          has_key = λ t low high. key_next t low high (ℕ_discrete t count);
          differ = λ t r low less high. differ_next t r low less high (ℕ_discrete r count);
        }
      where
        fewer : far_count keys₂ < far_count keys₁
        fewer = omega (arith, ap far_count (isKeys ∙ lowered_set keys₁ child key (omega arith)), far_new keys₁ child key none near)

        new_wait : word waits₂ count ≡ child
        new_wait = ap (λ (l : List ℕ). word l count) isWaits ∙ get_or-set_same waits₁ count child 0 (omega (arith, s.waits_length, s.total, fewer))

        old_joined : {q : ℕ} → word keys₁ q < FAR → (word keys q < FAR) ⊎ ((t : ℕ) × (n ≤ t) × (t < count₂) × (word waits₂ t ≡ q))
        old_joined {q} h = ⊎_elim inl (λ (t, low, high, e). inr (t, low, omega arith, old_wait t high ∙ e)) (s.joined q h)

        new_next : (t : ℕ) → n ≤ t → t < count₂ → Dec (t ≡ count) → (r : ℕ) × Among list (u + 1) r × (word waits₂ t ≡ child_at mem first r) × (FAR ≤ word keys (child_at mem first r))
        new_next t low high (yes same) =
            (i, (u, omega arith, sym is_row), ap (word waits₂) same ∙ new_wait ∙ child_is, omega (arith, none, s.no_more child, ap (word keys) child_is))
        new_next t low high (no other) =
            let before : t < count = omega (arith, other, high, next-count) in
            let (r, among, e, fresh) = s.new t low before in
            (r, later r among, old_wait t before ∙ e, fresh)

        key_next : (t : ℕ) → n ≤ t → t < count₂ → Dec (t ≡ count) → word keys₂ (word waits₂ t) < FAR
        key_next t low high (yes same) = omega (arith, ap (word keys₂) (ap (word waits₂) same ∙ new_wait), keys_word child, lowered_here keys₁ child key, near)
        key_next t low high (no other) = old_key t low (omega (arith, other, high, next-count))

        -- those that joined before have a key, and the child had none
        differ_next : (t r : ℕ) → n ≤ t → t < r → r < count₂ → Dec (r ≡ count) → word waits₂ t ≢ word waits₂ r
        differ_next t r low less high (yes last) same =
            let before : t < count = omega (arith, less, last) in
            let is_child : word waits₁ t ≡ child = sym (old_wait t before) ∙ same ∙ ap (word waits₂) last ∙ new_wait in
            omega (arith, s.has_key t low before, ap (word keys₁) is_child, none)
        differ_next t r low less high (no other) same = old_differ t r low less (omega (arith, other, high, next-count)) same

    pub spread_more : Spread mem first dx (Among list (u + 1)) keys waits n keys₂ waits₂ count₂
    spread_more = by (key_given keys₁ child key count count₂ isCount)
      where
        by : KeyGiven keys₁ child key count count₂ → Spread mem first dx (Among list (u + 1)) keys waits n keys₂ waits₂ count₂
        by (joins near none next-count) = join near none next-count
        by (stays why same_count) = stay why same_count

  pub spread_count : {t count : ℕ} {keys waits : List ℕ} {n : ℕ} {keys' waits' : List ℕ} {n' : ℕ} → t ≡ count → Spread mem first dx (Among list t) keys waits n keys' waits' n'
      → Spread mem first dx (Among list count) keys waits n keys' waits' n'
  spread_count {keys = keys} {waits} {n} {keys'} {waits'} {n'} same s = subst (λ (k : ℕ). Spread mem first dx (Among list k) keys waits n keys' waits' n') same s

-- what `lower_key` leaves
pub key_lowered : (keys : List ℕ) (part key : ℕ) {old least : ℕ} {keys' : List ℕ} → old ≡ word keys part → least ≡ min key old → keys' ≡ set keys part least → keys' ≡ lowered keys part key
key_lowered keys part key isOld isLeast isKeys =
    isKeys ∙ lowered_lesser keys part key (isLeast ∙ ap (min key) isOld)

pub key_counted : (keys : List ℕ) (part key count : ℕ) {old r : ℕ} {is : Bool} → old ≡ word keys part → is ≡ (ltb key FAR && leb FAR old) → r ≡ cond is (count + 1) count
    → r ≡ cond (is_new keys part key) (count + 1) count
unfolding is_new
key_counted keys part key count isOld isTest isCount =
    isCount ∙ ap (λ (b : Bool). cond b (count + 1) count) (isTest ∙ ap (λ (k : ℕ). ltb key FAR && leb FAR k) isOld)
