-- What a function's calls, one after the other, come to. Each law is over plain values, so that a need only names its facts.
-- Assumes nothing.
use mathlib.Core.Path.{◌≡◌, refl, sym, ap, subst, subst⁻¹, ◌∙◌}
use mathlib.Core.Logic.{◌≢◌}
use mathlib.Core.Bool.{true, false}
use mathlib.Core.List.{List, [], map}
use Prim.Native.Nat.{ℕ, ◌+◌, ◌-◌, ◌≤◌, ◌<◌, min}
use native.Mathlib.Decide.{dec_le, dec_lt}
use native.Mathlib.Omega.{arith}
use lib.ListN.{length, set, take, replicate, length-replicate, get_or-replicate}
use Rattle.std.specs.Prelude.{Option, None, Some, MatchOption}
use Rattle.words.specs.Limits.{FAR}
use Rattle.words.specs.Lists.{word}
use Rattle.words.proofs.Lists.{all_same}
use Rattle.roads.specs.Map.{Map, part_count}
use Rattle.parts.specs.Tree.{leaf_of, is_leaf}
use Rattle.maps.proofs.Distances.{sound_tree}
use Rattle.parts.proofs.Gates.{no_first_child, some_first_child}
use Rattle.counts.specs.declared.Counts.{Counts}
use Rattle.fleet.specs.State.{State}
use Rattle.fleet.specs.Question.{Listed}
use Rattle.places.specs.Place.{counts_in, vertex_address}
use Rattle.best_list.specs.Best.{Best, listing, limit_of, offered_all}
use Rattle.van_offers.specs.Offers.{stamp_in, row_offers}
use Rattle.far_sums.specs.Least.{Least}
use Rattle.layout.specs.Layout.{parent_in_part, rows_in_part, child_in_part, part_word}
use Rattle.part_words.specs.Part.{rows_in}
use Rattle.row_lists.specs.Rows.{Fits, own_rows}
use Rattle.row_distances.specs.Distances.{Alone, Relaxed, out_of}
use Rattle.cells.specs.Lowered.{lowered}
use Rattle.part_bounds.specs.Bounds.{OpenedUp}
use Rattle.part_keys.specs.Keys.{Nearest, far_count}
use Rattle.part_keys.proofs.Spreading.{far_lowered}
use Rattle.part_keys.proofs.Nearest.{nearest_all}
use Rattle.part_keys.specs.declared.waiting.WaitingPart.{WaitingPart}
use Rattle.part_keys.specs.declared.waiting.PartsWaiting.{PartsWaiting}
use Rattle.row_lists.specs.declared.lists.RowLists.{RowLists}
use Rattle.question.specs.declared.search.Search.{Search}
use Rattle.van_offers.specs.Genuine.{Genuine, list_in}
use Rattle.question.specs.Kept.{LeafRelaxed, offers_of, BoundOutside, SearchingParts, Searching, CannotClimb, Climbs, GoesOn, Ends, BeforeSearch}
use Rattle.question.proofs.Shown.{parent_read, child_read, leaf_read, part_fits}
use Rattle.question.proofs.Turns.{Opens, climbed, part_taken}
use Rattle.question.proofs.Ends.{leaf_taken, stopped, limit_near, own_row, alone, started}

-- the rows of a leaf that are listed are those that show their own vertex, and have offered
pub leaf_offers : (mem : List ℕ) (leaf k : ℕ) (dx : List ℕ) (list : List Listed) {list' : List Listed} {rows : List ℕ} → rows ≡ own_rows mem leaf
    → list' ≡ offered_all k list (row_offers mem (counts_in mem) (part_word mem leaf rows_in_part) dx rows) → list' ≡ offered_all k list (offers_of mem leaf dx)
leaf_offers mem leaf k dx list isRows offered =
    offered ∙ ap (λ (r : List ℕ). offered_all k list (row_offers mem (counts_in mem) (part_word mem leaf rows_in_part) dx r)) isRows

pub bound_root : (mem : List ℕ) (part : ℕ) (dx : List ℕ) → part ≡ 0 → BoundOutside mem part dx FAR
bound_root mem part dx root = record { root = λ e. refl; other = λ real. absurd (real root) }

pub bound_other : (mem : List ℕ) (part : ℕ) (dx : List ℕ) {p out : ℕ} → part ≢ 0 → p ≡ part_word mem part parent_in_part
    → Least (out_of mem (part_word mem p rows_in_part) dx part) (rows_in mem p) out → BoundOutside mem part dx out
bound_other mem part dx {out = out} real isPart least =
    record {
      root = λ e. absurd (real e);
      other = λ e. subst (λ (q : ℕ). Least (out_of mem (part_word mem q rows_in_part) dx part) (rows_in mem q) out) isPart least;
    }

-- Climbing.
module _ (mem dx : List ℕ) (st : Search) {above : ℕ} (isAbove : above ≡ part_word mem st.part parent_in_part) where
  pub climb_stays : st.part ≤ above → CannotClimb mem dx st st
  climb_stays none =
      record {
        same_list = refl;
        stays = λ m fleet x k marks found g hx s. far (dec_le FAR st.out)
            (λ near.
            let parent = (g.sound.part st.part s.is_part).parent in
            omega (arith, none, isAbove, parent_read g st.part s.is_part, parent (positive st.part (λ root. omega (arith, s.root_out root, near)))));
      }
    where
      positive : (n : ℕ) → (n ≡ 0 → ⊥) → 0 < n
      positive n h = omega (arith, h)

      far : Dec (FAR ≤ st.out) → (st.out < FAR → ⊥) → FAR ≤ st.out
      far (yes h) no_near = h
      far (no near) no_near = absurd (no_near (omega (arith, near)))

  pub climb_goes : (keyed : PartsWaiting) {dx' : List ℕ} {st' : Search} → above < st.part → keyed.keys ≡ lowered st.waiting.keys st.part 0 → keyed.waits ≡ st.waiting.waits → keyed.n ≡ st.waiting.n
      → far_count st'.waiting.keys + st'.waiting.n ≤ far_count keyed.keys + keyed.n → (Fits mem above → OpenedUp mem above true dx keyed dx' st'.waiting) → st'.best ≡ st.best → st'.part ≡ above
      → BoundOutside mem above dx' st'.out → Climbs mem dx st dx' st'
  climb_goes keyed {dx'} {st'} less isKeys isWaits isCount sum opened same isPart bound =
      record {
        same_list = same;
        shrinks = omega (arith, sum, fewer, less, isPart, isCount);
        climbs = λ m fleet x k marks found g hx s near.
            subst⁻¹ (λ (p : ℕ). SearchingParts m fleet x k dx' st'.waiting.keys marks st'.waiting.waits p st'.out st'.waiting.n found) isPart
            (climbed g x hx s above (isAbove ∙ parent_read g st.part s.is_part) (λ root. omega (arith, root, less)) (opens (opened (part_fits g above (omega (arith, less, s.is_part))))) bound);
      }
    where
      fewer : far_count keyed.keys ≤ far_count st.waiting.keys
      fewer = omega (arith, ap far_count isKeys, far_lowered st.waiting.keys st.part 0)

      opens : Opens mem above true dx keyed.keys keyed.waits keyed.n dx' st'.waiting.keys st'.waiting.waits st'.waiting.n
          → Opens mem above true dx (lowered st.waiting.keys st.part 0) st.waiting.waits st.waiting.n dx' st'.waiting.keys st'.waiting.waits st'.waiting.n
      opens o =
          subst (λ (l : List ℕ). Opens mem above true dx l st.waiting.waits st.waiting.n dx' st'.waiting.keys st'.waiting.waits st'.waiting.n) isKeys
          (subst (λ (l : List ℕ). Opens mem above true dx keyed.keys l st.waiting.n dx' st'.waiting.keys st'.waiting.waits st'.waiting.n) isWaits
          (subst (λ (k : ℕ). Opens mem above true dx keyed.keys keyed.waits k dx' st'.waiting.keys st'.waiting.waits st'.waiting.n) isCount o))

-- A waiting part is taken.
module _ (mem dx : List ℕ) (st : Search) (at : ℕ) (h : at < st.waiting.n) where
  fits : length st.waiting.waits ≡ 512 → st.waiting.n ≤ length st.waiting.waits
  fits long = omega (arith, st.waiting.room)

  abbrev Parts : (m : Map) (fleet : State) (x : ℕ) (dx' : List ℕ) (best : Best) → ℕ → List ℕ → List ℕ → ℕ → List ℕ → Type 0
  Parts m fleet x dx' best k keys waits n marks = SearchingParts m fleet x k dx' keys (set marks (word st.waiting.waits at) 1) waits st.part st.out n (list_in mem best)

  abbrev After : (dx' : List ℕ) (waiting' : PartsWaiting) → ℕ → List ℕ → List ℕ → ℕ → Type 0
  After dx' waiting' p keys waits n = Opens mem p false dx keys waits n dx' waiting'.keys waiting'.waits waiting'.n

module _ (mem dx : List ℕ) (st : Search) (at : ℕ) (h : at < st.waiting.n) {q : ℕ} (waiting : PartsWaiting) (isPart : q ≡ word st.waiting.waits at) (isKeys : waiting.keys ≡ st.waiting.keys)
    (isWaits : waiting.waits ≡ set st.waiting.waits at (word st.waiting.waits (st.waiting.n - 1))) (isCount : waiting.n ≡ st.waiting.n - 1) {child : ℕ} (isChild : child ≡ part_word mem q child_in_part) where
  child_is : child ≡ part_word mem (word st.waiting.waits at) child_in_part
  child_is = isChild ∙ ap (λ (p : ℕ). part_word mem p child_in_part) isPart

  pub leaf_goes : {dx' : List ℕ} {lists' : RowLists} {best : Best} → child ≡ 0 → (Fits mem q → LeafRelaxed mem q dx dx' × (take lists'.count lists'.asked ≡ own_rows mem q)) → best.k ≡ st.best.k
      → list_in mem best ≡ offered_all st.best.k (list_in mem st.best) (row_offers mem (counts_in mem) (part_word mem q rows_in_part) dx' (take lists'.count lists'.asked))
      → GoesOn mem dx st dx' (record { waiting = waiting; lists = lists'; best = best; part = st.part; out = st.out })
  leaf_goes {dx'} {lists' = lists'} {best} none relaxed same offered =
      record {
        same_k = same;
        shrinks = omega (arith, ap far_count isKeys, isCount, h);
        on = λ m fleet x g hx s. record {
          some = omega (arith, same, s.some);
          marks = set s.marks (word st.waiting.waits at) 1;
          parts =
              subst⁻¹ (λ (k : ℕ). Parts mem dx st at h m fleet x dx' best k waiting.keys waiting.waits waiting.n s.marks) same
              (subst⁻¹ (λ (l : List ℕ). Parts mem dx st at h m fleet x dx' best st.best.k l waiting.waits waiting.n s.marks) isKeys
              (subst⁻¹ (λ (l : List ℕ). Parts mem dx st at h m fleet x dx' best st.best.k st.waiting.keys l waiting.n s.marks) isWaits
              (subst⁻¹ (λ (n : ℕ). Parts mem dx st at h m fleet x dx' best st.best.k st.waiting.keys (set st.waiting.waits at (word st.waiting.waits (st.waiting.n - 1))) n s.marks) isCount (leaf_searching m fleet x g hx s))));
        };
      }
    where
      leaf_searching : (m : Map) (fleet : State) (x : ℕ) (g : Genuine m fleet mem) → x < m.vertices → (s : Searching m fleet x mem dx st)
          → Parts mem dx st at h m fleet x dx' best st.best.k st.waiting.keys (set st.waiting.waits at (word st.waiting.waits (st.waiting.n - 1))) (st.waiting.n - 1) s.marks
      leaf_searching m fleet x g hx s =
          let hq : word st.waiting.waits at < part_count m = (s.parts.waiting at h).is_part in
          let leaf : is_leaf m (word st.waiting.waits at) ≡ true = no_first_child m (word st.waiting.waits at) (sym (child_read g (word st.waiting.waits at) hq) ∙ sym child_is ∙ none) in
          let (closer, isRows) = relaxed (subst⁻¹ (Fits mem) isPart (part_fits g (word st.waiting.waits at) hq)) in
          leaf_taken g x hx st.best.k s.some s.parts at h (fits mem dx st at h s.parts.waits_length) leaf (subst (λ (p : ℕ). LeafRelaxed mem p dx dx') isPart closer)
          (leaf_offers mem q st.best.k dx' (list_in mem st.best) isRows offered ∙ ap (λ (p : ℕ). offered_all st.best.k (list_in mem st.best) (offers_of mem p dx')) isPart)

  pub part_goes : {dx' : List ℕ} {lists' : RowLists} {waiting' : PartsWaiting} → child ≢ 0 → far_count waiting'.keys + waiting'.n ≤ far_count waiting.keys + waiting.n
      → (Fits mem q → OpenedUp mem q false dx waiting dx' waiting')
      → GoesOn mem dx st dx' (record { waiting = waiting'; lists = lists'; best = st.best; part = st.part; out = st.out })
  part_goes {dx'} {waiting' = waiting'} real sum opened =
      record {
        same_k = refl;
        shrinks = omega (arith, sum, ap far_count isKeys, isCount, h);
        on = λ m fleet x g hx s. record {
          some = s.some;
          marks = s.marks;
          parts = part_taken g x hx s.parts at h (fits mem dx st at h s.parts.waits_length)
              (some_first_child m (word st.waiting.waits at) (λ zero'. real (child_is ∙ child_read g (word st.waiting.waits at) (s.parts.waiting at h).is_part ∙ zero')))
              (opens (opened (subst⁻¹ (Fits mem) isPart (part_fits g (word st.waiting.waits at) (s.parts.waiting at h).is_part))));
        };
      }
    where
      opens : After mem dx st at h dx' waiting' q waiting.keys waiting.waits waiting.n → After mem dx st at h dx' waiting' (word st.waiting.waits at) st.waiting.keys (set st.waiting.waits at (word st.waiting.waits (st.waiting.n - 1))) (st.waiting.n - 1)
      opens o =
          subst (λ (p : ℕ). After mem dx st at h dx' waiting' p st.waiting.keys (set st.waiting.waits at (word st.waiting.waits (st.waiting.n - 1))) (st.waiting.n - 1)) isPart
          (subst (λ (l : List ℕ). After mem dx st at h dx' waiting' q l (set st.waiting.waits at (word st.waiting.waits (st.waiting.n - 1))) (st.waiting.n - 1)) isKeys
          (subst (λ (l : List ℕ). After mem dx st at h dx' waiting' q waiting.keys l (st.waiting.n - 1)) isWaits
          (subst (λ (n : ℕ). After mem dx st at h dx' waiting' q waiting.keys waiting.waits n) isCount o)))

-- The search ends, or climbs.
module _ (mem dx : List ℕ) (st : Search) {key limit least place : ℕ} (is_key : Nearest st.waiting.keys st.waiting.waits 0 st.waiting.n key place) (isLimit : limit ≡ limit_of st.best.k (list_in mem st.best))
    (isLeast : least ≡ min st.out key) where
  pub turn_ends : limit < least → Ends mem dx st st
  turn_ends beyond =
      record {
        same_k = refl;
        ends = λ m fleet x g hx s. stopped g x hx st.best.k s.some s.parts key (nearest_all is_key) (omega arith) (omega arith);
      }

  near_out : {m : Map} {fleet : State} {x : ℕ} → Genuine m fleet mem → x < m.vertices → Searching m fleet x mem dx st → least ≤ limit → (key < FAR → st.out ≤ key) → st.out < FAR
  near_out g hx s within nearer = by (dec_lt key FAR)
    where
      by : Dec (key < FAR) → st.out < FAR
      by (yes near) = omega (arith, nearer near, limit_near g _ hx st.best.k s.some s.parts)
      by (no far) = omega (arith, far, limit_near g _ hx st.best.k s.some s.parts)

  pub turn_climbs : {dx' : List ℕ} {st' : Search} → least ≤ limit → (key < FAR → st.out ≤ key) → Climbs mem dx st dx' st' → GoesOn mem dx st dx' st'
  turn_climbs {dx'} {st'} within nearer up =
      record {
        same_k = ap (λ (b : Best). b.k) up.same_list;
        shrinks = up.shrinks;
        on = λ m fleet x g hx s. record {
          some = subst⁻¹ (λ (b : Best). 1 ≤ b.k) up.same_list s.some;
          marks = s.marks;
          parts = subst⁻¹ (λ (b : Best). SearchingParts m fleet x b.k dx' st'.waiting.keys s.marks st'.waiting.waits st'.part st'.out st'.waiting.n (list_in mem b)) up.same_list
              (up.climbs m fleet x st.best.k s.marks (list_in mem st.best) g hx s.parts (near_out g hx s within nearer));
        };
      }

  -- with no part above, no search of a map and a fleet stands so
  pub turn_stays : {st' : Search} → least ≤ limit → (key < FAR → st.out ≤ key) → CannotClimb mem dx st st' → Ends mem dx st st'
  turn_stays within nearer none =
      record {
        same_k = ap (λ (b : Best). b.k) none.same_list;
        ends = λ m fleet x g hx s.
            let far = none.stays m fleet x st.best.k s.marks (list_in mem st.best) g hx s.parts in
            absurd (omega (arith, far, near_out g hx s within nearer));
      }

  pub turn_up : (r : Option ℕ) (dx' : List ℕ) (st' : Search) → least ≤ limit → (key < FAR → st.out ≤ key) → MatchOption r (CannotClimb mem dx st st') (λ _. Climbs mem dx st dx' st')
      → MatchOption r (Ends mem dx st st') (λ _. GoesOn mem dx st dx' st')
  turn_up None dx' st' within nearer none = turn_stays within nearer none
  turn_up (Some n) dx' st' within nearer up = turn_climbs within nearer up

-- the nearest of those that wait, and its key, FAR where none does
pub key_place : {keys waits : List ℕ} {n : ℕ} (r : Option WaitingPart) {key : ℕ} → MatchOption r (Nearest keys waits 0 n FAR 0) (λ w. (w.key < FAR) × Nearest keys waits 0 n w.key w.at)
    → MatchOption r (key ≡ FAR) (λ w. key ≡ w.key) → (place : ℕ) × Nearest keys waits 0 n key place
key_place {keys} {waits} {n} None nearest is = (0, subst⁻¹ (λ (k : ℕ). Nearest keys waits 0 n k 0) is nearest)
key_place {keys} {waits} {n} (Some w) nearest is = (w.at, subst⁻¹ (λ (k : ℕ). Nearest keys waits 0 n k w.at) is nearest.1)

pub key_some : (r : Option WaitingPart) {key : ℕ} {w : WaitingPart} → MatchOption r (key ≡ FAR) (λ v. key ≡ v.key) → r ≡ Some w → key ≡ w.key
key_some r {key} is e = subst (λ (o : Option WaitingPart). MatchOption o (key ≡ FAR) (λ v. key ≡ v.key)) e is

pub key_none : (r : Option WaitingPart) {key : ℕ} → MatchOption r (key ≡ FAR) (λ v. key ≡ v.key) → r ≡ None → key ≡ FAR
key_none r {key} is e = subst (λ (o : Option WaitingPart). MatchOption o (key ≡ FAR) (λ v. key ≡ v.key)) e is

-- the turns so far, and one more
pub on_and_on : {mem dx₀ : List ℕ} {st₀ : Search} {dx : List ℕ} {st : Search} {dx' : List ℕ} {st' : Search}
    → ((m : Map) (fleet : State) (x : ℕ) → Genuine m fleet mem → x < m.vertices → Searching m fleet x mem dx₀ st₀ → Searching m fleet x mem dx st) → GoesOn mem dx st dx' st'
    → (m : Map) (fleet : State) (x : ℕ) → Genuine m fleet mem → x < m.vertices → Searching m fleet x mem dx₀ st₀ → Searching m fleet x mem dx' st'
on_and_on so_far goes m fleet x g hx start = goes.on m fleet x g hx (so_far m fleet x g hx start)

-- The start.
abbrev Begun : (mem dx : List ℕ) (keys : List ℕ) (leaf out : ℕ) (best : Best) (m : Map) (fleet : State) (x : ℕ) → ℕ → List ℕ → ℕ → Type 0
Begun mem dx keys leaf out best m fleet x k waits n = SearchingParts m fleet x k dx keys (set (replicate 512 0) leaf 1) waits leaf out n (list_in mem best)

module _ (mem : List ℕ) (x : ℕ) (dx : List ℕ) (st : Search) (fresh : BeforeSearch dx st) {counts : Counts} {leaf place : ℕ} {dx₁ dx' : List ℕ} (lists : RowLists) (best : Best) (waiting : PartsWaiting) {out : ℕ}
    (isCounts : counts ≡ counts_in mem) (isLeaf' : leaf ≡ word mem (vertex_address counts x + 0)) (isPlace : place ≡ word mem (vertex_address counts x + 1)) (isStart : dx₁ ≡ set dx x 0)
    (relaxed : Fits mem leaf → place < rows_in mem leaf
    → (Alone mem (part_word mem leaf rows_in_part) (rows_in mem leaf) dx₁ place → Relaxed mem leaf true dx₁ dx') × (take lists.count lists.asked ≡ own_rows mem leaf))
    (same : best.k ≡ st.best.k)
    (offered : list_in mem best ≡ offered_all st.best.k (list_in mem st.best) (row_offers mem (counts_in mem) (part_word mem leaf rows_in_part) dx' (take lists.count lists.asked)))
    (isKeys : waiting.keys ≡ lowered st.waiting.keys leaf 0) (isWaits : waiting.waits ≡ st.waiting.waits) (isCount : waiting.n ≡ st.waiting.n) (bound : BoundOutside mem leaf dx' out) where
  pub begins : (m : Map) (fleet : State) → Genuine m fleet mem → m.vertices ≤ length dx → x < m.vertices
      → Searching m fleet x mem dx' (record { waiting = waiting; lists = lists; best = best; part = leaf; out = out })
  begins m fleet g room hx =
      record {
        some = omega (arith, same, fresh.some);
        marks = set (replicate 512 0) leaf 1;
        parts =
            subst⁻¹ (λ (k : ℕ). Begun mem dx' waiting.keys leaf out best m fleet x k waiting.waits waiting.n) same
            (subst⁻¹ (λ (l : List ℕ). Begun mem dx' waiting.keys leaf out best m fleet x st.best.k l waiting.n) isWaits
            (subst⁻¹ (λ (n : ℕ). Begun mem dx' waiting.keys leaf out best m fleet x st.best.k st.waiting.waits n) (isCount ∙ fresh.none_waits) start));
      }
    where
      leaf_is : leaf ≡ leaf_of m x
      leaf_is = isLeaf' ∙ ap (λ (c : Counts). word mem (vertex_address c x + 0)) isCounts ∙ leaf_read g x hx

      place_is : place ≡ word mem (vertex_address (counts_in mem) x + 1)
      place_is = isPlace ∙ ap (λ (c : Counts). word mem (vertex_address c x + 1)) isCounts

      looks : (Alone mem (part_word mem leaf rows_in_part) (rows_in mem leaf) dx₁ place → Relaxed mem leaf true dx₁ dx') × (take lists.count lists.asked ≡ own_rows mem leaf)
      looks = relaxed (part_fits g leaf (omega (arith, leaf_is, (sound_tree m g.sound).leaf_part x hx))) (own_row g x hx st.best.k fresh.some dx fresh.no_distance room isStart leaf leaf_is place place_is)

      none : list_in mem st.best ≡ []
      none = ap (map (listing (stamp_in mem (counts_in mem)))) fresh.none_listed

      start : Begun mem dx' waiting.keys leaf out best m fleet x st.best.k st.waiting.waits 0
      start = started g x hx st.best.k fresh.some dx fresh.no_distance room isStart leaf leaf_is
          (looks.0 (alone g x hx st.best.k fresh.some dx fresh.no_distance room isStart leaf leaf_is place place_is))
          st.waiting.keys (replicate 512 0) st.waiting.waits fresh.no_key fresh.keys_length (λ q. all_same 512 q 0) (length-replicate {A = ℕ} 512 0) fresh.waits_length
          (leaf_offers mem leaf st.best.k dx' (list_in mem st.best) looks.1 offered ∙ ap (λ (l : List Listed). offered_all st.best.k l (offers_of mem leaf dx')) none) isKeys bound

-- an array as it is made
pub far_array : (n v : ℕ) → v < length (replicate {A = ℕ} n FAR) → word (replicate n FAR) v ≡ FAR
far_array n v h = get_or-replicate n v FAR 0 (omega (arith, length-replicate {A = ℕ} n FAR))
