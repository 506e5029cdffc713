-- How a search starts, what a turn of it keeps, and when its list is the answer.
-- Assumes nothing.
use mathlib.Core.Path.{◌≡◌, refl, sym, ap, subst, subst⁻¹, ◌∙◌}
use mathlib.Core.Logic.{◌⊎◌, inl, inr, ◌≢◌}
use mathlib.Core.Bool.{true, false}
use mathlib.Core.List.{List, []}
use Prim.Native.Nat.{ℕ, zero, suc, ◌+◌, ◌%◌, ◌≤◌, ◌<◌}
use native.Mathlib.Nat.{mod-eq_of_lt}
use native.Mathlib.Decide.{ℕ_discrete, dec_lt}
use native.Mathlib.Omega.{arith}
use lib.ListN.{length, set, take, replicate, length-set, length-replicate}
use lib.Seq.{get_or-set_same, get_or-set_other, take-nil}
use borrow.Author.Tests.{eq-eqb, ne_eqb}
use Rattle.words.specs.Limits.{FAR}
use Rattle.words.specs.Lists.{word, keep}
use Rattle.words.proofs.Lists.{keep_same}
use Rattle.words.proofs.Ranks.{keep_none}
use Rattle.roads.specs.Map.{Map, road_at, road_count}
use Rattle.roads.specs.Walk.{Walk, stay}
use Rattle.roads.specs.Dist.{dist}
use Rattle.roads.proofs.Trail.{Net}
use Rattle.roads.proofs.Exact.{dist_exact}
use Rattle.maps.proofs.Distances.{sound_net}
use Rattle.counts.specs.declared.Counts.{Counts}
use Rattle.fleet.specs.State.{State, slot_of, head_of}
use Rattle.fleet.specs.Question.{Listed, coming_from, sorted, nearest}
use Rattle.image.specs.Image.{vertex_record}
use Rattle.places.specs.Place.{counts_in, vertex_address}
use Rattle.best_list.specs.Best.{limit_of, offered_all}
use Rattle.van_offers.specs.Offers.{van_offers}
use Rattle.van_offers.specs.Genuine.{Genuine}
use Rattle.van_offers.proofs.Shown.{vertex_read}
use Rattle.van_offers.proofs.Heading.{Comer, head_below}
use Rattle.van_offers.proofs.Comers.{comer_far, settled}
use Rattle.near_vans.specs.Around.{Waits, Around, van_head, is_offered_near, SearchingAround, NothingTaken, Met, was_taken, no_less, lowered, new, LeastLabel, Taken, RoadsFollowed, SameTaken, MetAll}
use Rattle.near_vans.proofs.Exact.{nearer_taken, least_exact}
use Rattle.near_vans.proofs.Taking.{now_taken, not_taken, others_as_before, taken_around}
use Rattle.near_vans.proofs.Offering.{offered_is, vertex_best}

zeros : (n i : ℕ) → word (replicate n 0) i ≡ 0
zeros zero i = refl
zeros (suc n) zero = refl
zeros (suc n) (suc i) = zeros n i

module _ {m : Map} {s : State} {mem : List ℕ} (g : Genuine m s mem) (x : ℕ) (hx : x < m.vertices) (k : ℕ) (some : 1 ≤ k) where
  net : Net m
  net = sound_net m g.sound

  few : m.vertices ≤ 4096
  few = g.sound.vertices.1

  -- The start: x waits alone, in arrays to which nothing was written before.
  module _ (w : Waits) {f : Waits} (at_length : length w.at ≡ 4096) (nothing : (v : ℕ) → word w.at v ≡ 0) (labels_length : length w.labels ≡ 128) (vertices_length : length w.vertices ≡ 128)
      (is_at : f.at ≡ set w.at (x % 4096) 1) (labels_are : f.labels ≡ set w.labels 0 0) (vertices_are : f.vertices ≡ set w.vertices 0 (x % 4096)) (n_is : f.n ≡ 1) where
    x_is : x % 4096 ≡ x
    x_is = mod-eq_of_lt (omega (arith, few))

    at_is : f.at ≡ set w.at x 1
    at_is = is_at ∙ ap (λ (u : ℕ). set w.at u 1) x_is

    x_waits : word f.at x ≡ 1
    x_waits = ap (λ (l : List ℕ). word l x) at_is ∙ get_or-set_same w.at x 1 0 (omega (arith, at_length, few))

    none_taken : (u : ℕ) → word f.at u ≢ 255
    none_taken u taken = by (ℕ_discrete u x)
      where
        by : Dec (u ≡ x) → ⊥
        by (yes same) = omega (arith, taken, ap (word f.at) same, x_waits)
        by (no other) = omega (arith, taken, ap (λ (l : List ℕ). word l u) at_is, get_or-set_other w.at x u 1 0 other, nothing u)

    vertex_first : word f.vertices 0 ≡ x
    vertex_first = ap (λ (l : List ℕ). word l 0) vertices_are ∙ get_or-set_same w.vertices 0 (x % 4096) 0 (omega (arith, vertices_length)) ∙ x_is

    label_first : word f.labels 0 ≡ 0
    label_first = ap (λ (l : List ℕ). word l 0) labels_are ∙ get_or-set_same w.labels 0 0 0 (omega (arith, labels_length))

    only : (P : ℕ → Type 0) → P 0 → (i : ℕ) → i < f.n → P i
    only P p i h = subst P (zero_is i h) p
      where
        zero_is : (j : ℕ) → j < f.n → 0 ≡ j
        zero_is j below = omega (arith, n_is)

    starts : SearchingAround m s x k f []
    unfolding sorted is_offered_near
    starts =
        record {
          around =
              record {
                at_length = ap length at_is ∙ length-set w.at x 1 ∙ at_length;
                labels_length = ap length labels_are ∙ length-set w.labels 0 0 ∙ labels_length;
                vertices_length = ap length vertices_are ∙ length-set w.vertices 0 (x % 4096) ∙ vertices_length;
                few = omega (arith, n_is);
                placed = only (λ i. word f.at (word f.vertices i) ≡ suc i) (ap (word f.at) vertex_first ∙ x_waits);
                is_vertex = only (λ i. word f.vertices i < m.vertices) (omega (arith, vertex_first, hx));
                walked = only (λ i. Walk m (word f.vertices i) x (word f.labels i)) (subst⁻¹ (λ (u : ℕ). Walk m u x (word f.labels 0)) vertex_first (subst⁻¹ (Walk m x x) label_first (stay hx)));
                start = inr (0, omega (arith, n_is), vertex_first, omega (arith, label_first));
                reached = λ j hj taken looked. absurd (none_taken (road_at m j).to taken);
              };
          list = sym (ap (λ (l : List Listed). take k (sorted l)) (keep_none (is_offered_near m s f.at) (coming_from m x 0 s.vans) (λ l h. none_offered l)) ∙ take-nil k);
        }
      where
        none_offered : (l : Listed) → is_offered_near m s f.at l ≡ false
        none_offered l = ne_eqb (word f.at (van_head m (slot_of s l.van))) 255 (none_taken (van_head m (slot_of s l.van)))

  pub started : {w f : Waits} → NothingTaken w → Met (x % 4096) 0 w f → SearchingAround m s x k f []
  started {w} {f} fresh met = by met
    where
      none : (v : ℕ) → word w.at v ≡ 0
      none v = ap (λ (l : List ℕ). word l v) fresh.at_is ∙ zeros 4096 v

      one : f.n ≡ suc w.n → f.n ≡ 1
      one more = omega (arith, more, fresh.n_is)

      by : Met (x % 4096) 0 w f → SearchingAround m s x k f []
      by (was_taken taken is_f) = absurd (omega (arith, taken, none (x % 4096)))
      by (no_less i hi is less is_f) = absurd (omega (arith, hi, fresh.n_is))
      by (lowered i hi is less is_f) = absurd (omega (arith, hi, fresh.n_is))
      by (new apart no_place room is_f) =
          starts w (ap length fresh.at_is ∙ length-replicate {A = ℕ} 4096 0) none (ap length fresh.labels_are ∙ length-replicate {A = ℕ} 128 0) (ap length fresh.vertices_are ∙ length-replicate {A = ℕ} 128 0)
          (ap (λ (v : Waits). v.at) is_f ∙ ap (λ (i : ℕ). set w.at (x % 4096) (suc i)) fresh.n_is)
          (ap (λ (v : Waits). v.labels) is_f ∙ ap (λ (i : ℕ). set w.labels i 0) fresh.n_is)
          (ap (λ (v : Waits). v.vertices) is_f ∙ ap (λ (i : ℕ). set w.vertices i (x % 4096)) fresh.n_is) (one (ap (λ (v : Waits). v.n) is_f))

  module _ {f : Waits} {found : List Listed} (st : SearchingAround m s x k f found) where
    -- The end: all that waits is farther than the limit.
    pub stopped : ((i : ℕ) → i < f.n → limit_of k found < word f.labels i) → found ≡ nearest m s x k
    stopped beyond = settled g x k some (is_offered_near m s f.at) st.list rest
      where
        rest : (l : Listed) → Comer g x l → (is_offered_near m s f.at l ≡ true) ⊎ (limit_of k found < l.distance)
        rest l c = by (dec_lt (limit_of k found) (dist m v x))
          where
            v : ℕ
            v = head_of m c.van

            by : Dec (limit_of k found < dist m v x) → (is_offered_near m s f.at l ≡ true) ⊎ (limit_of k found < l.distance)
            by (yes far) = inr (omega (arith, far, comer_far g x l c))
            by (no near) =
                inl
                (offered_is g x f.at l c
                ∙ eq-eqb (word f.at v) 255
                (nearer_taken net (suc (limit_of k found)) f st.around beyond
                ((dist_exact m net v x (head_below g c.place c.van c.there)).reached (λ far. omega (arith, far, c.reaches)))
                (omega (arith, near))))

    -- A turn: the vertex with the least label is taken.
    module _ (i near : ℕ) (least : LeastLabel f.labels f.n i) (near_is : near ≡ word f.labels i) {f' : Waits} {v : ℕ} (t : Taken i f f' v) where
      hv : v < m.vertices
      hv = omega (arith, t.vertex_is, st.around.is_vertex i least.is_place)

      exact : (near ≡ dist m v x) × (near < FAR)
      exact =
          let told = least_exact net x f i st.around least in
          (near_is ∙ told.0 ∙ ap (λ (u : ℕ). dist m u x) (sym t.vertex_is), omega (arith, near_is, told.1))

      module _ {counts : Counts} (counts_are : counts ≡ counts_in mem) {link first : ℕ} (link_is : link ≡ word mem (vertex_address counts v + 4)) (first_is : first ≡ word mem (vertex_address counts v + 3)) {found' : List Listed}
          (found-are : found' ≡ offered_all k found (van_offers mem counts near 1024 link)) {f'' : Waits}
          (met : MetAll mem counts first near f' f'') where
        opened : RoadsFollowed m s mem counts x v first near f'
        unfolding vertex_record
        opened =
            record {
              genuine = g;
              counts_are = counts_are;
              is_vertex = hv;
              caller = hx;
              near_is = exact.0;
              reaches = exact.1;
              first_is = first_is ∙ ap (λ (c : Counts). word mem (vertex_address c v + 3)) counts_are ∙ vertex_read g v 3 hv (omega arith);
              was_taken = now_taken few st.around i least.is_place t;
              around = taken_around few st.around i least.is_place t;
            }

        after : Around m x v (road_count m) f'' × SameTaken f'.at f''.at
        after = met m s x v opened

        list_now : found' ≡ take k (sorted (keep (is_offered_near m s f'.at) (coming_from m x 0 s.vans)))
        list_now =
            found-are
            ∙ (λ j. offered_all k (st.list j) (van_offers mem (counts_are j) near 1024 ((link_is ∙ ap (λ (c : Counts). word mem (vertex_address c v + 4)) counts_are) j)))
            ∙ vertex_best g x v near hv exact.0 exact.1 k some f.at f'.at (not_taken few st.around i least.is_place t) (now_taken few st.around i least.is_place t)
            (others_as_before few st.around i least.is_place t)

        same_offered : (l : Listed) → is_offered_near m s f'.at l ≡ is_offered_near m s f''.at l
        unfolding is_offered_near
        same_offered l = sym (after.1 (van_head m (slot_of s l.van)))

        pub turned : SearchingAround m s x k f'' found'
        turned =
            record {
              around =
                  record {
                    at_length = after.0.at_length;
                    labels_length = after.0.labels_length;
                    vertices_length = after.0.vertices_length;
                    few = after.0.few;
                    placed = after.0.placed;
                    is_vertex = after.0.is_vertex;
                    walked = after.0.walked;
                    start = after.0.start;
                    reached = λ j hj taken looked. after.0.reached j hj taken (λ same. hj);
                  };
              list = list_now ∙ ap (λ (l : List Listed). take k (sorted l)) (keep_same (is_offered_near m s f'.at) (is_offered_near m s f''.at) (coming_from m x 0 s.vans) (λ l h. same_offered l));
            }
