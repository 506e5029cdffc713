-- The vans of a vertex that is taken are offered, each once; so the best are the best with these.
-- Assumes nothing.
use mathlib.Core.Path.{◌≡◌, sym, ap, ◌∙◌}
use mathlib.Core.Logic.{◌⊎◌, inl, inr, ◌≢◌}
use mathlib.Core.Bool.{true}
use mathlib.Core.List.Memᴰ
use mathlib.Core.List.{List, Memᴰ}
use Prim.Native.Nat.{ℕ, ◌+◌, ◌≤◌, ◌<◌}
use native.Mathlib.Decide.{ℕ_discrete}
use lib.ListN.{take}
use lib.Dec.{eqb}
use borrow.Author.Tests.{eq-eqb, eqb-true, ne_eqb}
use Rattle.words.specs.Limits.{FAR}
use Rattle.words.specs.Lists.{word, keep}
use Rattle.roads.specs.Map.{Map}
use Rattle.roads.specs.Dist.{dist}
use Rattle.fleet.specs.State.{State, slot_of, head_of}
use Rattle.fleet.specs.Question.{Listed, coming_from, sorted}
use Rattle.fleet.proofs.Coming.{coming_distinct}
use Rattle.places.specs.Place.{counts_in, vertex_address}
use Rattle.best_list.specs.Best.{offered_all}
use Rattle.best_list.proofs.Offers.{offered_more}
use Rattle.van_offers.specs.Offers.{van_offers}
use Rattle.van_offers.specs.Genuine.{Genuine}
use Rattle.van_offers.proofs.Heading.{Comer, offers_say, offers_have, offers_distinct}
use Rattle.van_offers.proofs.Comers.{comers, comer_says, comer_has, comer_near}
use Rattle.near_vans.specs.Around.{van_head, is_offered_near}

module _ {m : Map} {s : State} {mem : List ℕ} (g : Genuine m s mem) (x : ℕ) where
  -- a van that can come has been offered if the vertex that it heads for has been taken
  pub offered_is : (at : List ℕ) (l : Listed) (c : Comer g x l) → is_offered_near m s at l ≡ eqb (word at (head_of m c.van)) 255
  unfolding is_offered_near
  offered_is at l c = ap (λ (u : ℕ). eqb (word at u) 255) (ap (λ (i : ℕ). van_head m (slot_of s i)) (ap (λ (a : Listed). a.van) c.same) ∙ ap (van_head m) c.there)

  module _ (v near : ℕ) (hv : v < m.vertices) (near_is : near ≡ dist m v x) (reaches : near < FAR) (k : ℕ) (some : 1 ≤ k) (at at' : List ℕ) (not_taken : word at v ≢ 255) (now_taken : word at' v ≡ 255)
      (others : (u : ℕ) → u ≢ v → (word at' u ≡ 255 → word at u ≡ 255) × (word at u ≡ 255 → word at' u ≡ 255)) where
    offers : List Listed
    offers = van_offers mem (counts_in mem) near 1024 (word mem (vertex_address (counts_in mem) v + 4))

    offers_come : (e : Listed) → Memᴰ e offers → (c : Comer g x e) × (head_of m c.van ≡ v)
    unfolding offers
    offers_come e h = offers_say g x v near reaches near_is hv e h

    comes_offered : (e : Listed) (c : Comer g x e) → head_of m c.van ≡ v → Memᴰ e offers
    unfolding offers
    comes_offered e c heads = Memᴰ.cast c.same (offers_have g x v near reaches near_is hv c.place c.van c.there c.free heads)

    pub vertex_best : offered_all k (take k (sorted (keep (is_offered_near m s at) (coming_from m x 0 s.vans)))) (van_offers mem (counts_in mem) near 1024 (word mem (vertex_address (counts_in mem) v + 4)))
        ≡ take k (sorted (keep (is_offered_near m s at') (coming_from m x 0 s.vans)))
    unfolding offers
    vertex_best =
        offered_more k some (comers g x) (coming_distinct m x 0 s.vans) (comer_near g x) (is_offered_near m s at) (is_offered_near m s at') offers
        (offers_distinct g x v near reaches near_is hv)
        (λ e h. let (c, heads) = offers_come e h in (comer_has g x e c, offered_is at e c ∙ ne_eqb (word at (head_of m c.van)) 255 (λ taken. not_taken (ap (word at) (sym heads) ∙ taken))))
        (λ l h e. says l (comer_says g x l h) e)
        (λ l h e. has l (comer_says g x l h) e)
      where
        says : (l : Listed) (c : Comer g x l) → is_offered_near m s at' l ≡ true → (is_offered_near m s at l ≡ true) ⊎ Memᴰ l offers
        says l c e =
            elim (ℕ_discrete (head_of m c.van) v) [
              | yes own ↦ inr (comes_offered l c own)
              | no other ↦ inl (offered_is at l c ∙ eq-eqb (word at (head_of m c.van)) 255 ((others (head_of m c.van) other).0 (eqb-true (word at' (head_of m c.van)) 255 (sym (offered_is at' l c) ∙ e))))
            ]

        has : (l : Listed) (c : Comer g x l) → (is_offered_near m s at l ≡ true) ⊎ Memᴰ l offers → is_offered_near m s at' l ≡ true
        has l c (inr h) =
            let (d, heads) = offers_come l h in
            offered_is at' l d ∙ eq-eqb (word at' (head_of m d.van)) 255 (ap (word at') heads ∙ now_taken)
        has l c (inl e) =
            elim (ℕ_discrete (head_of m c.van) v) [
              | yes own ↦ offered_is at' l c ∙ eq-eqb (word at' (head_of m c.van)) 255 (ap (word at') own ∙ now_taken)
              | no other ↦ offered_is at' l c ∙ eq-eqb (word at' (head_of m c.van)) 255 ((others (head_of m c.van) other).1 (eqb-true (word at (head_of m c.van)) 255 (sym (offered_is at l c) ∙ e)))
            ]
