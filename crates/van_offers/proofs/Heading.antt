-- The list of vans that starts at a vertex's link offers the free vans that head for the vertex, each once.
-- Assumes nothing.
use mathlib.Core.Path.{◌≡◌, refl, sym, ap, subst, subst⁻¹, ◌∙◌}
use mathlib.Core.Logic.{⊎_elim}
use mathlib.Core.Bool.{Bool, true, false, cond, true≢false}
use mathlib.Core.List.Memᴰ
use mathlib.Core.List.{List, [], ◌∷◌, Memᴰ}
use Prim.Native.Nat.{ℕ, zero, suc, ◌+◌, ◌≤◌, ◌<◌, min}
use native.Mathlib.Decide.{dec_lt, ℕ_discrete}
use native.Mathlib.Omega.{arith}
use lib.ListN.{length, drop, get_or-eq_default}
use lib.Seq.{drop-cons, drop-length}
use lib.Dec.{eqb}
use borrow.Author.Tests.{eqb-true, eq-eqb}
use Rattle.words.specs.Limits.{FAR, vans}
use Rattle.words.specs.Lists.{word, link, any}
use Rattle.words.proofs.Tests.{both_true, both_pass, neither_true}
use Rattle.words.proofs.Lists.{any_by}
use Rattle.words.proofs.Places.{entry_in}
use Rattle.roads.specs.Map.{Map, road_at, no_road}
use Rattle.roads.specs.Dist.{dist}
use Rattle.maps.proofs.Distances.{sound_dist}
use Rattle.fleet.specs.State.{Van, Slot, absent, present, State, slot_of, head_of, heads_for, active, distance_of}
use Rattle.fleet.specs.Good.{GoodVan}
use Rattle.fleet.specs.Question.{Listed}
use Rattle.fleet.proofs.Sorted.{Distinct, none, more}
use Rattle.fleet.proofs.Coming.{entry}
use Rattle.image.specs.Image.{vertex_record, van_record, next_van}
use Rattle.image.specs.Records.{van_words}
use Rattle.places.specs.Place.{counts_in, vertex_address, van_address}
use Rattle.best_list.specs.Best.{listed}
use Rattle.van_offers.specs.Offers.{stamp_in, van_offers}
use Rattle.van_offers.specs.Genuine.{Genuine}
use Rattle.van_offers.proofs.Shown.{slots, vertex_read, van_read}

-- a slot with a free van that heads for v has such a van
heads_says : (m : Map) (v : ℕ) (slot : Slot) → heads_for m v slot ≡ true → (van : Van) × (slot ≡ present van) × (van.holder ≡ 0) × (head_of m van ≡ v)
unfolding heads_for
heads_says m v absent e = absurd (true≢false (sym e))
heads_says m v (present van) e =
    let both = both_true (eqb van.holder 0) _ e in
    (van, refl, eqb-true van.holder 0 both.0, eqb-true (head_of m van) v both.1)

pub heads_if : (m : Map) (van : Van) → van.holder ≡ 0 → heads_for m (head_of m van) (present van) ≡ true
unfolding heads_for
heads_if m van free = both_pass (eqb van.holder 0) _ (eq-eqb van.holder 0 free) (eq-eqb (head_of m van) (head_of m van) refl)

-- where no entry passes a test there is no link
no_link_in : {A : Type 0} (test : A → Bool) (i : ℕ) (xs : List A) → any test xs ≡ false → link test i xs ≡ 0
no_link_in test i [] nobody = refl
no_link_in test i (x ∷ xs) nobody = let both = neither_true (test x) _ nobody in rw both.0 (no_link_in test (suc i) xs both.1)

module _ {m : Map} {s : State} {mem : List ℕ} (g : Genuine m s mem) where
  -- the words of a free van
  module _ (i : ℕ) (hi : i < vans) (van : Van) (there : slot_of s i ≡ present van) (free : van.holder ≡ 0) where
    record_is : van_words m s i ≡ van_record (present van) (next_van m (present van) (suc i) (drop (suc i) s.vans))
    unfolding van_words
    record_is = ap (λ (slot : Slot). van_record slot (next_van m slot (suc i) (drop (suc i) s.vans))) there

    offset_read : word mem (van_address (counts_in mem) i + 2) ≡ van.offset
    offset_read = van_read g i 2 hi (omega arith) ∙ ap (λ (l : List ℕ). word l 2) record_is

    pub stamp_read : word mem (van_address (counts_in mem) i + 3) ≡ van.stamp
    stamp_read = van_read g i 3 hi (omega arith) ∙ ap (λ (l : List ℕ). word l 3) record_is

    next_read : word mem (van_address (counts_in mem) i + 4) ≡ link (heads_for m (head_of m van)) (suc i) (drop (suc i) s.vans)
    unfolding next_van
    next_read =
        van_read g i 4 hi (omega arith)
        ∙ ap (λ (l : List ℕ). word l 4) record_is
        ∙ ap (λ (b : Bool). cond b (link (heads_for m (head_of m van)) (suc i) (drop (suc i) s.vans)) 0) (eq-eqb van.holder 0 free)

  -- what is known of a van of the fleet
  pub good_van : (i : ℕ) (van : Van) → slot_of s i ≡ present van → GoodVan m s.count van
  good_van i van there = g.good.van i van there

  pub van_below : (i : ℕ) (van : Van) → slot_of s i ≡ present van → i < vans
  van_below i van there = by (dec_lt i vans)
    where
      by : Dec (i < vans) → i < vans
      by (yes h) = h
      by (no out) =
          let past : length s.vans ≤ i = omega (arith, out, slots g) in
          let nobody : slot_of s i ≡ absent = get_or-eq_default s.vans absent past in
          let z : ◌≡◌ {A = ℕ} 0 1 = cc in
          absurd (omega arith)

  -- the vertex that a van heads for
  pub head_below : (i : ℕ) (van : Van) → slot_of s i ≡ present van → head_of m van < m.vertices
  head_below i van there = (g.sound.road (road_at m van.road) (entry_in m.roads van.road no_road (good_van i van there).road)).to_exists

  -- which is active, where the van is free
  pub head_active : (i : ℕ) (van : Van) → slot_of s i ≡ present van → van.holder ≡ 0 → active m s (head_of m van) ≡ true
  unfolding active
  head_active i van there free =
      any_by (heads_for m (head_of m van)) s.vans (slot_of s i) (entry_in s.vans i absent (omega (arith, van_below i van there, slots g)))
      (ap (heads_for m (head_of m van)) there ∙ heads_if m van free)

  -- nobody heads for a vertex that is not active
  pub idle_link : (v : ℕ) → v < m.vertices → active m s v ≡ false → word mem (vertex_address (counts_in mem) v + 4) ≡ 0
  unfolding active vertex_record
  idle_link v hv idle = vertex_read g v 4 hv (omega arith) ∙ no_link_in (heads_for m v) 0 s.vans idle

  -- a van that reaches x is at less than FAR
  pub comes_near : (x i : ℕ) (van : Van) → slot_of s i ≡ present van → dist m (head_of m van) x < FAR → distance_of m van x < FAR
  unfolding distance_of
  comes_near x i van there reaches =
      let good = good_van i van there in
      let light = (g.sound.road (road_at m van.road) (entry_in m.roads van.road no_road good.road)).weight in
      omega (arith, good.offset, light, (sound_dist m g.sound (head_of m van) x (head_below i van there)).most (λ far. omega (arith, far, reaches)))

  -- the van of an entry of those that can come to x
  pub record Comer (x : ℕ) (l : Listed) : Type 0 where
    pub place : ℕ
    pub van : Van
    pub there : slot_of s place ≡ present van
    pub free : van.holder ≡ 0
    pub reaches : dist m (head_of m van) x < FAR
    pub same : l ≡ entry m x place van

  -- Those that head for v, at distance `near` from x.
  module _ (x v near : ℕ) (reaches : near < FAR) (is-near : near ≡ dist m v x) where
    -- the entry that slot i gives
    given : ℕ → Listed
    given i = listed (stamp_in mem (counts_in mem)) (min (near + word mem (van_address (counts_in mem) i + 2)) FAR) i

    given_is : (i : ℕ) (van : Van) → slot_of s i ≡ present van → van.holder ≡ 0 → head_of m van ≡ v → given i ≡ entry m x i van
    unfolding given distance_of
    given_is i van there free heads = λ j. record { van = i; distance = far j; stamp = stamp_read i (van_below i van there) van there free j }
      where
        close : distance_of m van x < FAR
        close = comes_near x i van there (omega (arith, ap (λ (k : ℕ). dist m k x) heads, is-near))

        far : min (near + word mem (van_address (counts_in mem) i + 2)) FAR ≡ distance_of m van x
        far = omega (arith, close, offset_read i (van_below i van there) van there free, is-near, ap (λ (k : ℕ). dist m k x) heads)

    -- the entries of r slots from slot i on
    heading : ℕ → ℕ → List Listed
    heading zero i = []
    heading (suc r) i = cond (heads_for m v (slot_of s i)) (given i ∷ heading r (suc i)) (heading r (suc i))

    chain : ℕ → ℕ → List Listed
    chain n i = van_offers mem (counts_in mem) near n (link (heads_for m v) i (drop i s.vans))

    -- the slot passed over
    skip : (n i : ℕ) → i < vans → heads_for m v (slot_of s i) ≡ false → chain n i ≡ chain n (suc i)
    unfolding chain
    skip n i hi other =
        ap (van_offers mem (counts_in mem) near n)
        (ap (link (heads_for m v) i) (drop-cons s.vans i absent (omega (arith, slots g)))
        ∙ ap (λ (b : Bool). cond b (suc i) (link (heads_for m v) (suc i) (drop (suc i) s.vans))) other)

    take_one : (n i : ℕ) → i < vans → heads_for m v (slot_of s i) ≡ true → chain (suc n) i ≡ given i ∷ chain n (suc i)
    unfolding chain van_offers given
    take_one n i hi here =
        let (van, there, free, heads) = heads_says m v (slot_of s i) here in
        ap (van_offers mem (counts_in mem) near (suc n))
        (ap (link (heads_for m v) i) (drop-cons s.vans i absent (omega (arith, slots g)))
        ∙ ap (λ (b : Bool). cond b (suc i) (link (heads_for m v) (suc i) (drop (suc i) s.vans))) here)
        ∙ ap (λ (k : ℕ). given i ∷ van_offers mem (counts_in mem) near n k)
        (next_read i hi van there free ∙ ap (λ (h : ℕ). link (heads_for m h) (suc i) (drop (suc i) s.vans)) heads)

    no_link : (n : ℕ) → van_offers mem (counts_in mem) near n 0 ≡ []
    unfolding van_offers
    no_link zero = refl
    no_link (suc n) = refl

    chain_end : (n i : ℕ) → i ≡ vans → chain n i ≡ []
    unfolding chain
    chain_end n i all =
        ap (λ (l : List Slot). van_offers mem (counts_in mem) near n (link (heads_for m v) i l)) (ap (λ (k : ℕ). drop k s.vans) (all ∙ sym (slots g)) ∙ drop-length s.vans) ∙ no_link n

    chain_heading : (r n i : ℕ) → i + r ≡ vans → r ≤ n → chain n i ≡ heading r i
    unfolding heading
    chain_heading zero n i all enough = chain_end n i (omega arith)
    chain_heading (suc r) zero i all enough = absurd (omega arith)
    chain_heading (suc r) (suc n) i all enough = by (heads_for m v (slot_of s i)) refl (chain_heading r n (suc i) (omega arith) (omega arith)) (chain_heading r (suc n) (suc i) (omega arith) (omega arith))
      where
        by : (b : Bool) → heads_for m v (slot_of s i) ≡ b → chain n (suc i) ≡ heading r (suc i) → chain (suc n) (suc i) ≡ heading r (suc i) → chain (suc n) i ≡ cond b (given i ∷ heading r (suc i)) (heading r (suc i))
        by true here later same = take_one n i (omega arith) here ∙ ap (λ (l : List Listed). given i ∷ l) later
        by false other later same = skip (suc n) i (omega arith) other ∙ same

    -- a van that can come, and heads for v
    abbrev Heads : Listed → Type 0
    Heads e = (c : Comer x e) × (head_of m c.van ≡ v)

    heading_says : (r i : ℕ) (e : Listed) → Memᴰ e (heading r i) → Heads e × (i ≤ e.van)
    unfolding heading
    heading_says zero i e h = absurd (Memᴰ.not-nil h)
    heading_says (suc r) i e h = by (heads_for m v (slot_of s i)) refl h (λ later. let told = heading_says r (suc i) e later in (told.0, omega (arith, told.1)))
      where
        by : (b : Bool) → heads_for m v (slot_of s i) ≡ b → Memᴰ e (cond b (given i ∷ heading r (suc i)) (heading r (suc i))) → (Memᴰ e (heading r (suc i)) → Heads e × (i ≤ e.van)) → Heads e × (i ≤ e.van)
        by true here h later =
            let (van, there, free, heads) = heads_says m v (slot_of s i) here in
            let is : given i ≡ entry m x i van = given_is i van there free heads in
            ⊎_elim
            (λ same. (
              (
                record { place = i; van = van; there = there; free = free; reaches = omega (arith, reaches, is-near, ap (λ (u : ℕ). dist m u x) heads); same = same ∙ is },
                heads,
              ),
              omega (arith, ap (λ (a : Listed). a.van) (same ∙ is)),
            ))
            later
            (Memᴰ.cases_cons h)
        by false other h later = later h

    heading_has : (r i j : ℕ) (van : Van) → i ≤ j → j < i + r → slot_of s j ≡ present van → van.holder ≡ 0 → head_of m van ≡ v → Memᴰ (entry m x j van) (heading r i)
    unfolding heading
    heading_has zero i j van low high there free heads = absurd (omega arith)
    heading_has (suc r) i j van low high there free heads =
        by (ℕ_discrete j i) (heads_for m v (slot_of s i)) refl (λ (other : j ≡ i → ⊥). heading_has r (suc i) j van (omega (arith, other)) (omega arith) there free heads)
      where
        by : Dec (j ≡ i) → (b : Bool) → heads_for m v (slot_of s i) ≡ b → ((j ≡ i → ⊥) → Memᴰ (entry m x j van) (heading r (suc i)))
            → Memᴰ (entry m x j van) (cond b (given i ∷ heading r (suc i)) (heading r (suc i)))
        by (no other) true here deeper = Memᴰ.tail (deeper other)
        by (no other) false here deeper = deeper other
        by (yes same) true here deeper =
            Memᴰ.head (ap (λ (k : ℕ). entry m x k van) same ∙ sym (given_is i van (ap (slot_of s) (sym same) ∙ there) free heads))
        by (yes same) false here deeper =
            absurd (true≢false (sym (ap (λ (h : ℕ). heads_for m h (present van)) (sym heads) ∙ heads_if m van free) ∙ ap (heads_for m v) (sym there ∙ ap (slot_of s) same) ∙ here))

    heading_distinct : (r i : ℕ) → Distinct (heading r i)
    unfolding heading given
    heading_distinct zero i = none
    heading_distinct (suc r) i = by (heads_for m v (slot_of s i)) (heading_distinct r (suc i))
      where
        by : (b : Bool) → Distinct (heading r (suc i)) → Distinct (cond b (given i ∷ heading r (suc i)) (heading r (suc i)))
        by true later = more {a = given i} {bs = heading r (suc i)} (λ b h same. omega (arith, same, (heading_says r (suc i) b h).1)) later
        by false later = later

    -- what the vertex's link offers
    offers : List Listed
    offers = van_offers mem (counts_in mem) near 1024 (word mem (vertex_address (counts_in mem) v + 4))

    offers_are : v < m.vertices → offers ≡ heading 1024 0
    unfolding offers chain vertex_record
    offers_are hv = ap (van_offers mem (counts_in mem) near 1024) (vertex_read g v 4 hv (omega arith)) ∙ chain_heading 1024 1024 0 refl (omega arith)

    module _ (hv : v < m.vertices) where
      pub offers_say : (e : Listed) → Memᴰ e (van_offers mem (counts_in mem) near 1024 (word mem (vertex_address (counts_in mem) v + 4))) → (c : Comer x e) × (head_of m c.van ≡ v)
      unfolding offers
      offers_say e h = (heading_says 1024 0 e (subst (Memᴰ e) (offers_are hv) h)).0

      pub offers_have : (j : ℕ) (van : Van) → slot_of s j ≡ present van → van.holder ≡ 0 → head_of m van ≡ v
          → Memᴰ (entry m x j van) (van_offers mem (counts_in mem) near 1024 (word mem (vertex_address (counts_in mem) v + 4)))
      unfolding offers
      offers_have j van there free heads =
          subst⁻¹ (Memᴰ (entry m x j van)) (offers_are hv) (heading_has 1024 0 j van (omega arith) (omega (arith, van_below j van there)) there free heads)

      pub offers_distinct : Distinct (van_offers mem (counts_in mem) near 1024 (word mem (vertex_address (counts_in mem) v + 4)))
      unfolding offers
      offers_distinct = subst⁻¹ Distinct (offers_are hv) (heading_distinct 1024 0)
