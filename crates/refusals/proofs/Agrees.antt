-- The verdict on a change of a van that stands as its slot says, in a memory that has the roads of the map, is what the definitions say of it.
-- Assumes nothing.
use mathlib.Core.Path.{◌≡◌, refl, ap, subst⁻¹, ◌∙◌}
use mathlib.Core.Logic.{inl, inr}
use mathlib.Core.Bool.{true, false}
use mathlib.Core.List.{List}
use Prim.Native.Nat.{ℕ, suc, ◌+◌, ◌<◌}
use native.Mathlib.Omega.{arith}
use native.Mathlib.Numerals.{add-one}
use native.Mathlib.Decide.{dec_lt, ℕ_discrete}
use lib.Dec.{eqb}
use borrow.Author.Tests.{ltb-true, le-leb, lt-leb, lt-ltb, le-ltb, eq-eqb, ne_eqb}
use Rattle.words.specs.Tests.{◌unless◌then◌}
use Rattle.words.proofs.Tests.{true_or_false}
use Rattle.roads.specs.Map.{Map, road_at, road_count, road_between}
use Rattle.maps.specs.Sound.{Sound}
use Rattle.std.specs.Prelude.{Result, Ok, Err}
use Rattle.answers.specs.declared.Refusal.{Refusal}
use Rattle.answers.specs.Answered.{answered}
use Rattle.counts.specs.declared.Counts.{Counts}
use Rattle.fleet.specs.State.{Van, Slot, absent, present, State, slot_of, is_present, is_free, is_held_by, has_stamp}
use Rattle.fleet.specs.declared.Change.{Change}
use Rattle.fleet.specs.declared.Change.TheVariants.{Add, Move, Remove, Claim, Release}
use Rattle.fleet.specs.Change.{refused, in_range, is_road, missing, offset_fits, count_left, own_refusal, refusal_of, van_of, slot_after}
use Rattle.van_lists.specs.declared.VanWords.{VanWords}
use Rattle.van_lists.specs.Slot.{standing_words, stamped}
use Rattle.road_lookup.specs.Lookup.{RoadsKnown}
use Rattle.road_lookup.specs.Answer.{lookup_of}
use Rattle.refusals.specs.Verdict.{Verdict, weight_in, placing, removing, claiming, releasing, Adding, Moving, HasVerdict}

-- a refusal is the definitions' refusal; a van that is to stand is refused by the change count alone, and stands as the definitions say
abbrev pub VerdictAgrees : Map → State → Change → Verdict → Type 0
VerdictAgrees m s c (Err r) = (k : ℕ) × (refusal_of m s c ≡ suc k) × (answered (Err r) ≡ refused (suc k))
VerdictAgrees m s c (Ok w) = (refusal_of m s c ≡ (15 unless count_left s then 0)) × ((stamp : ℕ) → stamped w stamp ≡ standing_words (slot_after m c stamp (slot_of s (van_of c))))

-- a van that is there keeps its words but for the stamp
stamped_suc : (h road offset old stamp : ℕ) → ◌≡◌ {A = VanWords} (stamped (record { state = suc h; road = road; offset = offset; stamp = old }) stamp) (record { state = suc h; road = road; offset = offset; stamp = stamp })
stamped_suc h road offset old stamp = rw (ne_eqb (suc h) 0 (omega arith))

module _ (m : Map) (s : State) (c : Change) where
  agrees_by : (verdict is : Verdict) → verdict ≡ is → VerdictAgrees m s c is → VerdictAgrees m s c verdict
  agrees_by verdict is e a = subst⁻¹ (VerdictAgrees m s c) e a

  -- on a road that is looked up: what is left to refuse is the road, the offset and the count
  placing_agrees : (mem : List ℕ) (counts : Counts) (state u v offset : ℕ) (lookup : Result ℕ Refusal) → lookup ≡ lookup_of m u v
      → ((i : ℕ) → i < road_count m → weight_in mem counts i ≡ (road_at m i).weight)
      → refusal_of m s c ≡ (missing m u v unless is_road m u v then 11 unless offset_fits m u v offset then 15 unless count_left s then 0)
      → ((stamp : ℕ) → stamped (record { state = state; road = road_between m.roads u v; offset = offset; stamp = 0 }) stamp ≡ standing_words (slot_after m c stamp (slot_of s (van_of c))))
      → VerdictAgrees m s c (placing mem counts state lookup offset)
  placing_agrees mem counts state u v offset lookup found weights refusal stands =
      subst⁻¹ (λ (l : Result ℕ Refusal). VerdictAgrees m s c (placing mem counts state l offset)) found
      (elim (true_or_false (is_road m u v)) [
        | inl is_road_lem ↦ on_road is_road_lem
        | inr none ↦ elim (true_or_false (is_road m v u)) [ inl back ↦ wrong_way none back | inr neither ↦ no_road_lem none neither ]
      ])
    where
      Placed : Result ℕ Refusal → Type 0
      Placed l = VerdictAgrees m s c (placing mem counts state l offset)

      no_road_lem : is_road m u v ≡ false → is_road m v u ≡ false → Placed (lookup_of m u v)
      no_road_lem none neither = rw (none, neither) (9, refusal ∙ simp (none, neither), refl)

      wrong_way : is_road m u v ≡ false → is_road m v u ≡ true → Placed (lookup_of m u v)
      wrong_way none back = rw (none, back) (19, refusal ∙ simp (none, back), refl)

      on_road : is_road m u v ≡ true → Placed (lookup_of m u v)
      on_road is_road_lem = rw is_road_lem (elim (dec_lt (weight_in mem counts road) offset) [ yes far ↦ too_far far | no near ↦ in_place near ])
        where
          road : ℕ
          road = road_between m.roads u v

          weight_is : weight_in mem counts road ≡ (road_at m road).weight
          weight_is = weights road (ltb-true road (road_count m) is_road_lem)

          too_far : weight_in mem counts road < offset → Placed (Ok road)
          too_far far =
              let above : offset_fits m u v offset ≡ false = lt-leb offset _ (omega (arith, weight_is)) in
              rw (lt-ltb (weight_in mem counts road) offset far) (10, refusal ∙ simp (is_road_lem, above), refl)

          in_place : ¬ (weight_in mem counts road < offset) → Placed (Ok road)
          in_place near =
              let fits : offset_fits m u v offset ≡ true = le-leb offset _ (omega (arith, weight_is)) in
              rw (le-ltb (weight_in mem counts road) offset (omega arith)) (refusal ∙ simp (is_road_lem, fits), stands)

-- the test of the words of a van that is there
not_none : (v : Van) → eqb (standing_words (present v)).state 0 ≡ false
not_none v = ne_eqb (suc v.holder) 0 (omega arith)

module _ (m : Map) (s : State) (mem : List ℕ) (counts : Counts) (sound : Sound m) (stand : RoadsKnown m counts mem)
    (weights : (i : ℕ) → i < road_count m → weight_in mem counts i ≡ (road_at m i).weight) where
  add_agrees : (van u v offset : ℕ) (slot : Slot) → slot_of s van ≡ slot → in_range (Add van u v offset) ≡ true → (verdict : Verdict)
      → Adding mem counts (standing_words slot) u v offset verdict → VerdictAgrees m s (Add van u v offset) verdict
  unfolding refusal_of own_refusal slot_after
  add_agrees van u v offset (present w) is ok verdict j =
      let there : is_present (slot_of s van) ≡ true = ap is_present is in
      agrees_by m s (Add van u v offset) verdict _ (j.there (λ e. omega arith)) (8, simp (ok, there), refl)
  add_agrees van u v offset absent is ok verdict j =
      let none : is_present (slot_of s van) ≡ false = ap is_present is in
      let r = j.none refl in
      agrees_by m s (Add van u v offset) verdict _ r.is
      (placing_agrees m s (Add van u v offset) mem counts 1 u v offset r.road (r.found m sound stand) weights
      (simp (ok, none)) (λ stamp. rw is (stamped_suc 0 (road_between m.roads u v) offset 0 stamp)))

  move_agrees : (van u v offset : ℕ) (slot : Slot) → slot_of s van ≡ slot → in_range (Move van u v offset) ≡ true → (verdict : Verdict)
      → Moving mem counts (standing_words slot) u v offset verdict → VerdictAgrees m s (Move van u v offset) verdict
  unfolding refusal_of own_refusal slot_after
  move_agrees van u v offset absent is ok verdict j =
      let none : is_present (slot_of s van) ≡ false = ap is_present is in
      agrees_by m s (Move van u v offset) verdict _ (j.none refl) (7, simp (ok, none), refl)
  move_agrees van u v offset (present w) is ok verdict j =
      let there : is_present (slot_of s van) ≡ true = ap is_present is in
      let r = j.there (λ e. omega arith) in
      agrees_by m s (Move van u v offset) verdict _ r.is
      (placing_agrees m s (Move van u v offset) mem counts (suc w.holder) u v offset r.road (r.found m sound stand) weights
      (simp (ok, there)) (λ stamp. rw is (stamped_suc w.holder (road_between m.roads u v) offset 0 stamp)))

module _ (m : Map) (s : State) where
  remove_agrees : (van : ℕ) (slot : Slot) → slot_of s van ≡ slot → in_range (Remove van) ≡ true → VerdictAgrees m s (Remove van) (removing (standing_words slot))
  unfolding refusal_of own_refusal slot_after
  remove_agrees van absent is ok =
      let none : is_present (slot_of s van) ≡ false = ap is_present is in
      (7, simp (ok, none), refl)
  remove_agrees van (present w) is ok = elim (ℕ_discrete w.holder 0) [ yes free ↦ goes free | no held ↦ stays held ]
    where
      there : is_present (slot_of s van) ≡ true
      there = ap is_present is

      goes : w.holder ≡ 0 → VerdictAgrees m s (Remove van) (removing (standing_words (present w)))
      goes free =
          let is_free_lem : is_free (slot_of s van) ≡ true = ap is_free is ∙ eq-eqb w.holder 0 free in
          rw (not_none w, eq-eqb (suc w.holder) 1 (omega arith)) (simp (ok, there, is_free_lem), λ stamp. refl)

      stays : (w.holder ≡ 0 → ⊥) → VerdictAgrees m s (Remove van) (removing (standing_words (present w)))
      stays held =
          let not_free : is_free (slot_of s van) ≡ false = ap is_free is ∙ ne_eqb w.holder 0 held in
          rw (not_none w, ne_eqb (suc w.holder) 1 (omega arith)) (11, simp (ok, there, not_free), refl)

  claim_agrees : (van stamp desk : ℕ) (slot : Slot) → slot_of s van ≡ slot → in_range (Claim van stamp desk) ≡ true → VerdictAgrees m s (Claim van stamp desk) (claiming (standing_words slot) stamp desk)
  unfolding refusal_of own_refusal slot_after
  claim_agrees van stamp desk absent is ok =
      let none : is_present (slot_of s van) ≡ false = ap is_present is in
      (7, simp (ok, none), refl)
  claim_agrees van stamp desk (present w) is ok = elim (ℕ_discrete w.holder 0) [ yes free ↦ elim (ℕ_discrete w.stamp stamp) [ yes same ↦ taken free same | no other ↦ late free other ] | no held ↦ stays held ]
    where
      there : is_present (slot_of s van) ≡ true
      there = ap is_present is

      free_test : w.holder ≡ 0 → is_free (slot_of s van) ≡ true
      free_test free = ap is_free is ∙ eq-eqb w.holder 0 free

      taken : w.holder ≡ 0 → w.stamp ≡ stamp → VerdictAgrees m s (Claim van stamp desk) (claiming (standing_words (present w)) stamp desk)
      taken free same =
          let has : has_stamp stamp (slot_of s van) ≡ true = ap (has_stamp stamp) is ∙ eq-eqb w.stamp stamp same in
          rw (not_none w, eq-eqb (suc w.holder) 1 (omega arith), eq-eqb w.stamp stamp same)
          (simp (ok, there, free_test free, has), λ new. rw (is, add-one desk) (stamped_suc desk w.road w.offset 0 new))

      late : w.holder ≡ 0 → (w.stamp ≡ stamp → ⊥) → VerdictAgrees m s (Claim van stamp desk) (claiming (standing_words (present w)) stamp desk)
      late free other =
          let has-not : has_stamp stamp (slot_of s van) ≡ false = ap (has_stamp stamp) is ∙ ne_eqb w.stamp stamp other in
          rw (not_none w, eq-eqb (suc w.holder) 1 (omega arith), ne_eqb w.stamp stamp other)
          (13, simp (ok, there, free_test free, has-not), refl)

      stays : (w.holder ≡ 0 → ⊥) → VerdictAgrees m s (Claim van stamp desk) (claiming (standing_words (present w)) stamp desk)
      stays held =
          let not_free : is_free (slot_of s van) ≡ false = ap is_free is ∙ ne_eqb w.holder 0 held in
          rw (not_none w, ne_eqb (suc w.holder) 1 (omega arith)) (11, simp (ok, there, not_free), refl)

  release_agrees : (van desk : ℕ) (slot : Slot) → slot_of s van ≡ slot → in_range (Release van desk) ≡ true → VerdictAgrees m s (Release van desk) (releasing (standing_words slot) desk)
  unfolding refusal_of own_refusal slot_after
  release_agrees van desk absent is ok =
      let none : is_present (slot_of s van) ≡ false = ap is_present is in
      (7, simp (ok, none), refl)
  release_agrees van desk (present w) is ok = elim (ℕ_discrete w.holder desk) [ yes same ↦ freed same | no other ↦ stays other ]
    where
      there : is_present (slot_of s van) ≡ true
      there = ap is_present is

      freed : w.holder ≡ desk → VerdictAgrees m s (Release van desk) (releasing (standing_words (present w)) desk)
      freed same =
          let holds : is_held_by desk (slot_of s van) ≡ true = ap (is_held_by desk) is ∙ eq-eqb w.holder desk same in
          rw (not_none w, eq-eqb (suc w.holder) (desk + 1) (omega arith))
          (simp (ok, there, holds), λ new. rw is (stamped_suc 0 w.road w.offset 0 new))

      stays : (w.holder ≡ desk → ⊥) → VerdictAgrees m s (Release van desk) (releasing (standing_words (present w)) desk)
      stays other =
          let holds_not : is_held_by desk (slot_of s van) ≡ false = ap (is_held_by desk) is ∙ ne_eqb w.holder desk other in
          rw (not_none w, ne_eqb (suc w.holder) (desk + 1) (omega arith)) (12, simp (ok, there, holds_not), refl)

-- every kind of change
pub agrees : (m : Map) (s : State) (mem : List ℕ) (counts : Counts) → Sound m → RoadsKnown m counts mem
    → ((i : ℕ) → i < road_count m → weight_in mem counts i ≡ (road_at m i).weight)
    → (c : Change) → in_range c ≡ true → (verdict : Verdict) → HasVerdict mem counts (standing_words (slot_of s (van_of c))) c verdict → VerdictAgrees m s c verdict
agrees m s mem counts sound stand weights (Add van u v offset) ok verdict j = add_agrees m s mem counts sound stand weights van u v offset (slot_of s van) refl ok verdict j
agrees m s mem counts sound stand weights (Move van u v offset) ok verdict j = move_agrees m s mem counts sound stand weights van u v offset (slot_of s van) refl ok verdict j
agrees m s mem counts sound stand weights (Remove van) ok verdict j = agrees_by m s (Remove van) verdict _ j (remove_agrees m s van (slot_of s van) refl ok)
agrees m s mem counts sound stand weights (Claim van stamp desk) ok verdict j = agrees_by m s (Claim van stamp desk) verdict _ j (claim_agrees m s van stamp desk (slot_of s van) refl ok)
agrees m s mem counts sound stand weights (Release van desk) ok verdict j = agrees_by m s (Release van desk) verdict _ j (release_agrees m s van desk (slot_of s van) refl ok)
