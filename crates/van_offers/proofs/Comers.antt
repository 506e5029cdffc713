-- The vans that can come to x, as the list of the best knows them: each free van that reaches x, at its distance, once; and when a list of the best is the answer.
-- Assumes nothing.
use mathlib.Core.Path.{◌≡◌, sym, ap, ◌∙◌}
use mathlib.Core.Logic.{◌⊎◌, inl, inr, ⊎_elim}
use mathlib.Core.Bool.{Bool, true}
use mathlib.Core.List.{List, Memᴰ}
use Prim.Native.Nat.{ℕ, ◌≤◌, ◌<◌}
use native.Mathlib.Nat.{zero-add}
use native.Mathlib.Omega.{arith}
use lib.ListN.{take}
use lib.Dec.{eqb}
use borrow.Author.Tests.{eqb-true, eq-eqb, ltb-true, lt-ltb}
use Rattle.words.specs.Limits.{FAR}
use Rattle.words.specs.Lists.{keep}
use Rattle.words.proofs.Tests.{both_true, both_pass}
use Rattle.roads.specs.Map.{Map}
use Rattle.roads.specs.Dist.{dist}
use Rattle.fleet.specs.State.{State, head_of, distance_of}
use Rattle.fleet.specs.Question.{Listed, can_come, coming_from, sorted, nearest}
use Rattle.fleet.proofs.Coming.{entry, coming_says, coming_has, coming_distinct}
use Rattle.best_list.specs.Best.{limit_of}
use Rattle.best_list.proofs.Offers.{ends}
use Rattle.van_offers.specs.Genuine.{Genuine}
use Rattle.van_offers.proofs.Heading.{Comer, comes_near}

module _ {m : Map} {s : State} {mem : List ℕ} (g : Genuine m s mem) (x : ℕ) where
  abbrev pub comers : List Listed
  comers = coming_from m x 0 s.vans

  pub comer_says : (l : Listed) → Memᴰ l comers → Comer g x l
  unfolding can_come
  comer_says l h =
      let c = coming_says m x 0 s.vans l h in
      let both = both_true (eqb c.van.holder 0) _ c.can in
      record {
        place = c.place;
        van = c.van;
        there = c.there;
        free = eqb-true c.van.holder 0 both.0;
        reaches = ltb-true (dist m (head_of m c.van) x) FAR both.1;
        same = c.same ∙ ap (λ (i : ℕ). entry m x i c.van) (zero-add c.place);
      }

  pub comer_has : (l : Listed) → Comer g x l → Memᴰ l comers
  unfolding can_come
  comer_has l c =
      coming_has m x 0 s.vans l
      (record {
        place = c.place;
        van = c.van;
        there = c.there;
        can = both_pass (eqb c.van.holder 0) _ (eq-eqb c.van.holder 0 c.free) (lt-ltb (dist m (head_of m c.van) x) FAR c.reaches);
        same = c.same ∙ ap (λ (i : ℕ). entry m x i c.van) (sym (zero-add c.place));
      })

  pub comer_near : (l : Listed) → Memᴰ l comers → l.distance < FAR
  comer_near l h = let c = comer_says l h in omega (arith, ap (λ (a : Listed). a.distance) c.same, comes_near g x c.place c.van c.there c.reaches)

  -- it is no nearer than the vertex that it heads for
  pub comer_far : (l : Listed) (c : Comer g x l) → dist m (head_of m c.van) x ≤ l.distance
  unfolding distance_of
  comer_far l c = omega (arith, ap (λ (a : Listed). a.distance) c.same)

  -- A list of the best of those that were offered is the answer where every other is farther than its limit.
  pub settled : (k : ℕ) → 1 ≤ k → (offered : Listed → Bool) {found : List Listed} → found ≡ take k (sorted (keep offered comers))
      → ((l : Listed) → Comer g x l → (offered l ≡ true) ⊎ (limit_of k found < l.distance)) → found ≡ nearest m s x k
  unfolding nearest
  settled k some offered list rest =
      list ∙ ends k some comers (coming_distinct m x 0 s.vans) comer_near offered (λ l h. ⊎_elim inl (λ far. inr (omega (arith, far, ap (limit_of k) list))) (rest l (comer_says l h)))
