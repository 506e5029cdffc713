-- The links of the free vans that head for a vertex, and the record of a van by its slot.
-- Assumes nothing.
use mathlib.Core.Path.{◌≡◌, refl, sym, ap}
use mathlib.Core.Bool.{Bool, true, false, ◌&&◌, ◌||◌, not, cond, true≢false}
use mathlib.Core.List.{List, [], ◌∷◌}
use Prim.Native.Nat.{ℕ, suc, ◌≤◌}
use native.Mathlib.Omega.{arith}
use lib.ListN.{length, set, drop, length-drop}
use lib.Seq.{get_or-drop}
use lib.Dec.{eqb}
use borrow.Author.Tests.{eqb-true, eq-eqb, ne_eqb}
use Rattle.words.specs.Limits.{vans}
use Rattle.words.specs.Lists.{any, link}
use Rattle.words.proofs.Tests.{both_true}
use Rattle.roads.specs.Map.{Map}
use Rattle.fleet.specs.State.{Van, Slot, absent, present, State, slot_of, head_of, heads_for, active}
use Rattle.image.specs.Image.{van_record, next_van}
use Rattle.image.specs.Records.{van_words}
use Rattle.van_lists.proofs.Found.{Found, link_in, found_same}

-- the fleet in which `van` stands as `slot` says
abbrev pub with_slot : State → ℕ → Slot → State
with_slot s van slot = record { count = s.count; vans = set s.vans van slot }

-- van x is free and heads for v
abbrev pub heads_at : Map → State → ℕ → ℕ → Bool
heads_at m s v x = heads_for m v (slot_of s x)

-- the link to the first free van from number `a` on that heads for v
unfoldable pub link_from : Map → State → ℕ → ℕ → ℕ
link_from m s v a = link (heads_for m v) a (drop a s.vans)

module _ (m : Map) (s : State) (slots : length s.vans ≡ vans) where
  pub link_found : (v a : ℕ) → a ≤ vans → Found (heads_at m s v) a vans (link_from m s v a)
  unfolding link_from
  link_found v a h =
      link_in (heads_for m v) absent (heads_at m s v) (drop a s.vans) a vans (omega (arith, length-drop a s.vans))
      (λ k inside. ap (heads_for m v) (sym (get_or-drop a s.vans k absent)))

  pub link_is : (v a r : ℕ) → a ≤ vans → Found (heads_at m s v) a vans r → link_from m s v a ≡ r
  link_is v a r h f = found_same (heads_at m s v) a vans _ _ (link_found v a h) f

-- a vertex is active exactly if its list has a first van
active_link : {A : Type 0} (test : A → Bool) (a : ℕ) (xs : List A) → any test xs ≡ not (eqb (link test a xs) 0)
active_link test a [] = refl
active_link test a (x ∷ xs) = go (test x) (active_link test (suc a) xs)
  where
    go : (b : Bool) → any test xs ≡ not (eqb (link test (suc a) xs) 0) → (b || any test xs) ≡ not (eqb (cond b (suc a) (link test (suc a) xs)) 0)
    go true later = sym (ap not (ne_eqb (suc a) 0 (omega arith)))
    go false later = later

pub active_first : (m : Map) (s : State) (v : ℕ) → active m s v ≡ not (eqb (link_from m s v 0) 0)
unfolding active link_from
active_first m s v = active_link (heads_for m v) 0 s.vans

-- a slot that heads for a vertex has a free van whose road ends there
pub record Heading (m : Map) (v : ℕ) (slot : Slot) : Type 0 where
  pub van : Van
  pub is : slot ≡ present van
  pub free : van.holder ≡ 0
  pub there : head_of m van ≡ v

pub heading : (m : Map) (v : ℕ) (slot : Slot) → heads_for m v slot ≡ true → Heading m v slot
unfolding heads_for
heading m v absent e = absurd (true≢false (sym e))
heading m v (present van) e =
    let parts = both_true (eqb van.holder 0) (eqb (head_of m van) v) e in
    record { van = van; is = refl; free = eqb-true van.holder 0 parts.0; there = eqb-true (head_of m van) v parts.1 }

pub heads_there : (m : Map) (van : Van) → van.holder ≡ 0 → heads_for m (head_of m van) (present van) ≡ true
unfolding heads_for
heads_there m van free = rw (eq-eqb van.holder 0 free) (eq-eqb (head_of m van) (head_of m van) refl)

pub heads_away : (m : Map) (v : ℕ) (van : Van) → (v ≡ head_of m van → ⊥) → heads_for m v (present van) ≡ false
unfolding heads_for
heads_away m v van away = by (eqb van.holder 0)
  where
    by : (b : Bool) → (b && eqb (head_of m van) v) ≡ false
    by true = ne_eqb (head_of m van) v (λ e. away (sym e))
    by false = refl

pub heads_held : (m : Map) (v : ℕ) (van : Van) → (van.holder ≡ 0 → ⊥) → heads_for m v (present van) ≡ false
unfolding heads_for
heads_held m v van held = rw (ne_eqb van.holder 0 held)

pub heads_absent : (m : Map) (v : ℕ) → heads_for m v absent ≡ false
unfolding heads_for
heads_absent m v = refl

-- a van's record in full
abbrev pub record_of : ℕ → ℕ → ℕ → ℕ → ℕ → List ℕ
record_of a b c d e = a ∷ b ∷ c ∷ d ∷ e ∷ 0 ∷ 0 ∷ 0 ∷ []

-- the link of the van in a slot
abbrev pub link_of : Map → State → ℕ → Slot → ℕ
link_of m s n absent = 0
link_of m s n (present v) = cond (eqb v.holder 0) (link_from m s (head_of m v) (suc n)) 0

abbrev pub slot_words : Map → State → ℕ → Slot → List ℕ
slot_words m s n absent = record_of 0 0 0 0 0
slot_words m s n (present v) = record_of (suc v.holder) v.road v.offset v.stamp (link_of m s n (present v))

pub van_record_lem : (m : Map) (s : State) (n : ℕ) → van_words m s n ≡ slot_words m s n (slot_of s n)
unfolding van_words next_van link_from
van_record_lem m s n = by (slot_of s n)
  where
    by : (slot : Slot) → van_record slot (next_van m slot (suc n) (drop (suc n) s.vans)) ≡ slot_words m s n slot
    by absent = refl
    by (present v) = refl
