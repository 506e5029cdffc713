-- Sources that are met one by one, the nearest first.
-- Assumes nothing.
use mathlib.Core.Path.{◌≡◌, refl, sym, ◌∙◌, ap}
use mathlib.Core.Bool.{Bool, true, false, ◌||◌}
use mathlib.Core.List.{List, [], ◌∷◌, Memᴰ}
use native.Mathlib.Decide.{dec_lt}
use Prim.Native.Nat.{ℕ, ◌+◌, ◌*◌, ◌%◌, ◌≤◌, ◌<◌, min}
use native.Mathlib.Numerals.{add-one}
use native.Mathlib.Omega.{arith}
use lib.ListN.{length, get_or, drop, drop_of_length-le}
use lib.Seq.{drop-cons}
use borrow.Author.Tests.{eq-eqb, ne_eqb}
use Rattle.words.specs.Limits.{FAR}
use Rattle.rows.specs.declared.Row.{Row}
use Rattle.rows.specs.Row.{comes_before}
use Rattle.row_words.specs.Words.{row_in, source_in, placed}
use Rattle.row_arrivals.specs.Arrival.{spread, is_news, met, arrived, any_news, lead_from, lead}

pub or_comm : (a b : Bool) → (a || b) ≡ (b || a)
or_comm true true = refl
or_comm true false = refl
or_comm false true = refl
or_comm false false = refl

-- A source that is offered, or not.
module _ (mem : List ℕ) (v row at : ℕ) (seen shown : Row) (r : row ≡ at) (e : seen ≡ source_in mem row) (s : shown ≡ row_in mem row) where
  pub news_other : (seen.vertex ≡ v → ⊥) → is_news mem v at ≡ false
  unfolding is_news
  news_other other = rw (ne_eqb (source_in mem at).vertex v (λ same. other (ap (λ (k : Row). k.vertex) (e ∙ ap (source_in mem) r) ∙ same)))

  pub news_is : (test : Bool) → seen.vertex ≡ v → test ≡ comes_before seen shown → is_news mem v at ≡ test
  unfolding is_news
  news_is test same tested =
      rw (eq-eqb (source_in mem at).vertex v (sym (ap (λ (k : Row). k.vertex) (e ∙ ap (source_in mem) r)) ∙ same))
      (sym (tested ∙ λ t. comes_before ((e ∙ ap (source_in mem) r) t) ((s ∙ ap (row_in mem) r) t)))

  module _ (rows size line : ℕ) where
    pub met_yes : (end : List ℕ) (from : ℕ) → from ≡ line → seen.vertex ≡ v → is_news mem v at ≡ true → end ≡ spread size mem rows from seen.vertex seen.distance
        → (end ≡ met mem rows size v at line) × (true ≡ is_news mem v at)
    unfolding met
    met_yes end from l same news h =
        (rw news (h ∙ λ t. spread size mem rows (l t) (same t) ((e ∙ ap (source_in mem) r) t).distance), sym news)

    pub met_no : is_news mem v at ≡ false → (mem ≡ met mem rows size v at line) × (false ≡ is_news mem v at)
    unfolding met
    met_no none = (rw none, sym none)

module _ (numbers : List ℕ) (k : ℕ) (h : k < length numbers) (mem end : List ℕ) (rows table size v i : ℕ) (p : i ≡ get_or numbers k 0) (q : end ≡ met mem rows size v (rows + 4 * i) (table + size * i)) where
  pub arrived_turn : arrived (drop (k + 1) numbers) end rows table size v ≡ arrived (drop k numbers) mem rows table size v
  unfolding arrived
  arrived_turn =
      (λ t. arrived (drop (add-one k t) numbers) ((q ∙ ap (λ (j : ℕ). met mem rows size v (rows + 4 * j) (table + size * j)) p) t) rows table size v)
      ∙ ap (λ (l : List ℕ). arrived l mem rows table size v) (sym (drop-cons numbers k 0 h))

  pub news_turn : (any now : Bool) → now ≡ (is_news mem v (rows + 4 * i) || any) → any_news now (drop (k + 1) numbers) end rows table size v ≡ any_news any (drop k numbers) mem rows table size v
  unfolding any_news
  news_turn any now r =
      (λ t. any_news ((r ∙ ap (λ (j : ℕ). is_news mem v (rows + 4 * j) || any) p) t) (drop (add-one k t) numbers) ((q ∙ ap (λ (j : ℕ). met mem rows size v (rows + 4 * j) (table + size * j)) p) t) rows table size v)
      ∙ ap (λ (l : List ℕ). any_news any l mem rows table size v) (sym (drop-cons numbers k 0 h))

module _ (numbers : List ℕ) (k : ℕ) (h : length numbers ≤ k) (mem : List ℕ) (rows table size v : ℕ) where
  pub arrived_done : arrived (drop k numbers) mem rows table size v ≡ mem
  unfolding arrived
  arrived_done = ap (λ (l : List ℕ). arrived l mem rows table size v) (drop_of_length-le numbers h)

  pub news_done : (any : Bool) → any_news any (drop k numbers) mem rows table size v ≡ any
  unfolding any_news
  news_done any = ap (λ (l : List ℕ). any_news any l mem rows table size v) (drop_of_length-le numbers h)

-- The number of a row whose source is the nearest.
module _ (mem : List ℕ) (rows : ℕ) where
  pub lead_turn : (numbers : List ℕ) (k i row best place next : ℕ) (s : Row) → k < length numbers → i ≡ get_or numbers k 0 → row ≡ rows + 4 * i → s ≡ source_in mem row → place ≡ placed (get_or numbers k 0) s.distance → next ≡ min best place
      → lead_from (drop (k + 1) numbers) mem rows next ≡ lead_from (drop k numbers) mem rows best
  unfolding lead_from
  lead_turn numbers k i row best place next s h p a q r e =
      (λ t. lead_from (drop (add-one k t) numbers) mem rows ((e ∙ ap (min best) (r ∙ ap (λ (x : Row). placed (get_or numbers k 0) x.distance) (q ∙ ap (source_in mem) a ∙ ap (λ (j : ℕ). source_in mem (rows + 4 * j)) p))) t))
      ∙ ap (λ (l : List ℕ). lead_from l mem rows best) (sym (drop-cons numbers k 0 h))

  pub lead_done : (numbers : List ℕ) (k best : ℕ) → length numbers ≤ k → lead_from (drop k numbers) mem rows best ≡ best
  unfolding lead_from
  lead_done numbers k best h = ap (λ (l : List ℕ). lead_from l mem rows best) (drop_of_length-le numbers h)

  -- it is one of these, or 0
  lead_from_lem : (size : ℕ) → size ≤ 128 → (numbers : List ℕ) → ((i : ℕ) → Memᴰ i numbers → i < size) → (best : ℕ) → best % 4294967296 < size → lead_from numbers mem rows best % 4294967296 < size
  unfolding lead_from
  lead_from_lem size few [] within best h = h
  lead_from_lem size few (i ∷ numbers) within best h = lead_from_lem size few numbers (λ j k. within j (Memᴰ.tail k)) (min best new) (by (dec_lt new best))
    where
      d : ℕ
      d = (source_in mem (rows + 4 * i)).distance

      new : ℕ
      new = placed i d

      here : placed i d % 4294967296 < size
      here = let small : i < size = within i (Memᴰ.head refl) in omega arith

      by : Dec (new < best) → min best new % 4294967296 < size
      by (yes less) = let taken : min best new ≡ new = omega arith in rw taken here
      by (no more) = let left : min best new ≡ best = omega (arith, more) in rw left h

  pub lead_within : (size : ℕ) → size ≤ 128 → 0 < size → (numbers : List ℕ) → ((i : ℕ) → Memᴰ i numbers → i < size) → lead numbers mem rows < size
  lead_within size few some numbers within = lead_from_lem size few numbers within (placed 0 FAR) some

-- what was news before stays so
module _ (rows table size v : ℕ) where
  pub news_kept : (numbers mem : List ℕ) → any_news true numbers mem rows table size v ≡ true
  unfolding any_news
  news_kept [] mem = refl
  news_kept (i ∷ numbers) mem = by (is_news mem v (rows + 4 * i)) (news_kept numbers next)
    where
      next : List ℕ
      next = met mem rows size v (rows + 4 * i) (table + size * i)

      by : (news : Bool) → any_news true numbers next rows table size v ≡ true → any_news (news || true) numbers next rows table size v ≡ true
      by true e = e
      by false e = e

  pub news_before : (any : Bool) (numbers mem : List ℕ) → any_news any numbers mem rows table size v ≡ (any || any_news false numbers mem rows table size v)
  news_before true numbers mem = news_kept numbers mem
  news_before false numbers mem = refl

pub led_arrived : (numbers mem middle end : List ℕ) (rows table size v i : ℕ) (any rest : Bool) → i ≡ lead numbers mem rows
    → (middle ≡ met mem rows size v (rows + 4 * i) (table + size * i)) × (any ≡ is_news mem v (rows + 4 * i))
    → (end ≡ arrived numbers middle rows table size v) × (rest ≡ any_news false numbers middle rows table size v)
    → (end ≡ arrived (lead numbers mem rows ∷ numbers) mem rows table size v) × ((any || rest) ≡ any_news false (lead numbers mem rows ∷ numbers) mem rows table size v)
unfolding arrived any_news
led_arrived numbers mem middle end rows table size v i any rest p q r = (
  r.0 ∙ ap (λ (l : List ℕ). arrived numbers l rows table size v) (q.0 ∙ first),
  (λ t. any || r.1 t)
      ∙ sym (news_before rows table size v any numbers middle)
      ∙ (λ t. any_news ((or_comm false any ∙ (λ u. q.1 u || false) ∙ ap (λ (j : ℕ). is_news mem v (rows + 4 * j) || false) p) t) numbers ((q.0 ∙ first) t) rows table size v),
)
  where
    first : met mem rows size v (rows + 4 * i) (table + size * i) ≡ met mem rows size v (rows + 4 * lead numbers mem rows) (table + size * lead numbers mem rows)
    first = ap (λ (j : ℕ). met mem rows size v (rows + 4 * j) (table + size * j)) p
