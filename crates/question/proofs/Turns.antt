-- The turns of a search: each keeps what a search keeps, whatever the order in which parts are taken.
-- Assumes nothing.
use mathlib.Core.Path.{◌≡◌, refl, sym, ap, subst, subst⁻¹, ◌∙◌}
use mathlib.Core.Logic.{◌⊎◌, inl, inr, ⊎_elim, ◌≢◌}
use mathlib.Core.Bool.{Bool, true, false, true≢false}
use mathlib.Core.List.{List, Memᴰ}
use Prim.Native.Nat.{ℕ, ◌-◌, ◌≤◌, ◌<◌}
use native.Mathlib.Decide.{dec_lt, ℕ_discrete}
use native.Mathlib.Omega.{arith}
use lib.ListN.{length, set}
use lib.Seq.{get_or-set_same, get_or-set_other}
use borrow.Author.Tests.{eq-eqb}
use Rattle.words.specs.Limits.{FAR}
use Rattle.words.specs.Lists.{word}
use Rattle.words.proofs.Tests.{true_or_false}
use Rattle.roads.specs.Map.{Map, part_count}
use Rattle.roads.specs.Dist.{dist}
use Rattle.roads.proofs.Trail.{Net}
use Rattle.parts.specs.Tree.{parent_of, holds, children, child_of, is_leaf}
use Rattle.parts.specs.Border.{boundary}
use Rattle.parts.specs.Size.{row_vertices, size_of}
use Rattle.parts.proofs.Tree.{holds_says}
use Rattle.parts.proofs.Down.{Tree, boundary_inside, children_says, children_has, child_inner, child_found, root_holds, child_holding, child_held, children_apart, boundary_row}
use Rattle.parts.proofs.Gates.{rows_inner, boundary_border, row_held}
use Rattle.maps.proofs.Distances.{sound_net, sound_tree}
use Rattle.rows.specs.Row.{row_of}
use Rattle.rows.proofs.Bounds.{key_gate, out_gate}
use Rattle.fleet.specs.State.{State, active}
use Rattle.fleet.specs.Question.{Listed}
use Rattle.image.specs.Records.{row_vertex}
use Rattle.far_sums.specs.Least.{Least}
use Rattle.layout.specs.Layout.{rows_in_part, table_in_part, part_word}
use Rattle.part_words.specs.Part.{rows_in}
use Rattle.row_lists.specs.Rows.{child_at, below_at, near_at}
use Rattle.part_keys.specs.Keys.{key_of, Spread}
use Rattle.row_distances.specs.Distances.{out_of, Closer, Relaxed}
use Rattle.cells.specs.Lowered.{lowered}
use Rattle.part_bounds.specs.Bounds.{GivenRow}
use Rattle.far_sums.proofs.Lowering.{lowered_no_more, lowered_here, lowered_found, lowered_length}
use Rattle.van_offers.specs.Genuine.{Genuine}
use Rattle.question.specs.Kept.{BoundOutside, Coming, Covered, Waits, SearchingParts}
use Rattle.question.proofs.Shown.{parent_read, rows_read, owner_read, child_at_read, below_read, place_read, row_in_lem, child_of_border, row_below_lem}
use Rattle.question.proofs.Exact.{still_honest, exact_in, known_in}
use Rattle.question.proofs.Asked.{asked_is_row, asked_every, part_exact, part_known}

-- `OpenedUp`, over the words of the keys and of the parts that wait
abbrev pub Opens : List ℕ → ℕ → Bool → List ℕ → List ℕ → List ℕ → ℕ → List ℕ → List ℕ → List ℕ → ℕ → Type 0
Opens mem p all dx keys waits n dx' keys' waits' n' = Relaxed mem p all dx dx' × Spread mem (part_word mem p rows_in_part) dx' (GivenRow all mem (part_word mem p rows_in_part) (rows_in mem p) dx) keys waits n keys' waits' n'

-- A part is given up: the last of those that wait takes its place.
module _ (waits : List ℕ) (at n : ℕ) (h : at < n) (fits : n ≤ length waits) where
  abbrev pub fewer : List ℕ
  fewer = set waits at (word waits (n - 1))

  -- each that still waits waited
  pub still_waited : (t : ℕ) → t < n - 1 → (u : ℕ) × (u < n) × (word fewer t ≡ word waits u)
  still_waited t ht =
      elim (ℕ_discrete t at) [
        | yes same ↦ (n - 1, omega arith, ap (word fewer) same ∙ get_or-set_same waits at (word waits (n - 1)) 0 (omega arith))
        | no other ↦ (t, omega arith, get_or-set_other waits at t (word waits (n - 1)) 0 other)
      ]

  -- each but the one given up still waits
  pub waits_still : (t : ℕ) → t < n → (t ≡ at → ⊥) → (u : ℕ) × (u < n - 1) × (word fewer u ≡ word waits t)
  waits_still t ht other =
      elim (ℕ_discrete t (n - 1)) [
        | yes last ↦ (at, omega (arith, other, last), get_or-set_same waits at (word waits (n - 1)) 0 (omega arith) ∙ ap (word waits) (sym last))
        | no before ↦ (t, omega (arith, before), get_or-set_other waits at t (word waits (n - 1)) 0 other)
      ]

  -- and none of them is the one given up, where no part waits twice
  module _ (apart : (t u : ℕ) → t < n → u < n → word waits t ≡ word waits u → t ≡ u) where
    pub none_again : (t : ℕ) → t < n - 1 → word fewer t ≢ word waits at
    none_again t ht e =
        elim (ℕ_discrete t at) [
          | yes same ↦
              let last : word waits (n - 1) ≡ word waits at = sym (get_or-set_same waits at (word waits (n - 1)) 0 (omega arith)) ∙ ap (word fewer) (sym same) ∙ e in
              omega (arith, same, ht, apart (n - 1) at (omega arith) h last)
          | no other ↦ other (apart t at (omega arith) h (sym (get_or-set_other waits at t (word waits (n - 1)) 0 other) ∙ e))
        ]

    -- the last is none of those before it
    last_once : (t : ℕ) → t < n - 1 → t ≢ at → word fewer t ≢ word fewer at
    last_once t ht other e =
        let last : word waits t ≡ word waits (n - 1) = sym (get_or-set_other waits at t (word waits (n - 1)) 0 other) ∙ e ∙ get_or-set_same waits at (word waits (n - 1)) 0 (omega arith) in
        omega (arith, ht, apart t (n - 1) (omega arith) (omega arith) last)

    pub fewer_apart : (t u : ℕ) → t < n - 1 → u < n - 1 → word fewer t ≡ word fewer u → t ≡ u
    fewer_apart t u ht hu e = by (ℕ_discrete t at) (ℕ_discrete u at)
      where
        by : Dec (t ≡ at) → Dec (u ≡ at) → t ≡ u
        by (yes a) (yes b) = a ∙ sym b
        by (yes a) (no b) = absurd (last_once u hu b (sym e ∙ ap (word fewer) a))
        by (no a) (yes b) = absurd (last_once t ht a (e ∙ ap (word fewer) b))
        by (no a) (no b) =
            apart t u (omega arith) (omega arith) (sym (get_or-set_other waits at t (word waits (n - 1)) 0 a) ∙ e ∙ get_or-set_other waits at u (word waits (n - 1)) 0 b)

  pub fewer_keyed : (keys : List ℕ) → ((t : ℕ) → t < n → word keys (word waits t) < FAR) → (t : ℕ) → t < n - 1 → word keys (word fewer t) < FAR
  fewer_keyed keys keyed t ht =
      let (u, hu, e) = still_waited t ht in
      omega (arith, keyed u hu, ap (word keys) e)

  pub fewer_unmarked : (marks : List ℕ) → ((t : ℕ) → t < n → word marks (word waits t) ≢ 1) → (t : ℕ) → t < n - 1 → word marks (word fewer t) ≢ 1
  fewer_unmarked marks fresh t ht marked =
      let (u, hu, e) = still_waited t ht in
      fresh u hu (ap (word marks) (sym e) ∙ marked)

  pub covered_without : (m : Map) (marks : List ℕ) (low v : ℕ) → Covered m marks waits n low v
      → Covered m marks fewer (n - 1) low v ⊎ ((low ≤ word waits at) × (holds m (word waits at) v ≡ true))
  covered_without m marks low v (inl marked) = inl (inl marked)
  covered_without m marks low v (inr (t, ht, from, inside)) =
      elim (ℕ_discrete t at) [
        | yes same ↦ inr (omega (arith, from, ap (word waits) same), ap (λ (k : ℕ). holds m (word waits k) v) (sym same) ∙ inside)
        | no other ↦
            let (u, hu, e) = waits_still t ht other in
            inl (inr (u, hu, omega (arith, from, e), ap (λ (q : ℕ). holds m q v) e ∙ inside))
      ]

pub covered_lower : (m : Map) (marks waits : List ℕ) (n low high v : ℕ) → low ≤ high → Covered m marks waits n high v → Covered m marks waits n low v
covered_lower m marks waits n low high v h (inl marked) = inl marked
covered_lower m marks waits n low high v h (inr (t, ht, from, inside)) = inr (t, ht, omega (arith, from, h), inside)

-- Keys were given, and parts that had none joined: each part waits once.
module _ {mem : List ℕ} {first : ℕ} {dx : List ℕ} {Given : ℕ → Type 0} {keys waits : List ℕ} {n : ℕ} {keys' waits' : List ℕ} {n' : ℕ} (spread : Spread mem first dx Given keys waits n keys' waits' n')
    (keyed : (t : ℕ) → t < n → word keys (word waits t) < FAR) where
  had_none : (t : ℕ) → n ≤ t → t < n' → FAR ≤ word keys (word waits' t)
  had_none t low high =
      let (i, given, e, fresh) = spread.new t low high in
      omega (arith, ap (word keys) e, fresh)

  had_one : (t : ℕ) → t < n → word keys (word waits' t) < FAR
  had_one t h = omega (arith, ap (word keys) (spread.kept t h), keyed t h)

  pub all_keyed : (t : ℕ) → t < n' → word keys' (word waits' t) < FAR
  all_keyed t ht =
      elim (dec_lt t n) [
        | yes before ↦ omega (arith, spread.no_more (word waits' t), had_one t before)
        | no after ↦ spread.has_key t (omega (arith, after)) ht
      ]

  pub all_apart : ((t u : ℕ) → t < n → u < n → word waits t ≡ word waits u → t ≡ u) → (t u : ℕ) → t < n' → u < n' → word waits' t ≡ word waits' u → t ≡ u
  all_apart apart t u ht hu e = by (dec_lt t n) (dec_lt u n)
    where
      both_new : n ≤ t → n ≤ u → Dec (t < u) → Dec (u < t) → t ≡ u
      both_new a b (yes less) d = absurd (spread.differ t u a less hu e)
      both_new a b (no l) (yes more) = absurd (spread.differ u t b more ht (sym e))
      both_new a b (no l) (no r) = omega (arith, l, r)

      by : Dec (t < n) → Dec (u < n) → t ≡ u
      by (yes a) (yes b) = apart t u a b (sym (spread.kept t a) ∙ e ∙ spread.kept u b)
      by (yes a) (no b) = absurd (omega (arith, had_one t a, ap (word keys) e, had_none u (omega (arith, b)) hu))
      by (no a) (yes b) = absurd (omega (arith, had_one u b, ap (word keys) e, had_none t (omega (arith, a)) ht))
      by (no a) (no b) = both_new (omega (arith, a)) (omega (arith, b)) (dec_lt t u) (dec_lt u t)

  pub all_unmarked : (marks : List ℕ) → ((t : ℕ) → t < n → word marks (word waits t) ≢ 1) → ((q : ℕ) → word marks q ≡ 1 → word keys q < FAR) → (t : ℕ) → t < n' → word marks (word waits' t) ≢ 1
  all_unmarked marks fresh marked_keyed t ht marked =
      elim (dec_lt t n) [
        | yes before ↦ fresh t before (ap (word marks) (sym (spread.kept t before)) ∙ marked)
        | no after ↦ omega (arith, marked_keyed (word waits' t) marked, had_none t (omega (arith, after)) ht)
      ]

-- row i lies in the child
out_here : (mem : List ℕ) (first : ℕ) (dx : List ℕ) (c i : ℕ) → child_at mem first i ≡ c → out_of mem first dx c i ≡ near_at mem first dx i
unfolding out_of
out_here mem first dx c i e = rw (eq-eqb (child_at mem first i) c e)

given_is_row : {all : Bool} {mem : List ℕ} {first size : ℕ} {dx : List ℕ} (i : ℕ) → GivenRow all mem first size dx i → i < size
given_is_row i row = row.is_row

module _ {m : Map} {s : State} {mem : List ℕ} (g : Genuine m s mem) (x : ℕ) (hx : x < m.vertices) where
  net : Net m
  net = sound_net m g.sound

  tree : Tree m
  tree = sound_tree m g.sound

  -- The bound of what lies outside a part that holds x.
  pub bound_outside : (c : ℕ) → c < part_count m → {dx : List ℕ} {out : ℕ} → BoundOutside mem c dx out → holds m c x ≡ true → ((b : ℕ) → boundary m c b ≡ true → word dx b ≤ dist m b x)
      → (v : ℕ) → v < m.vertices → holds m c v ≡ false → out ≤ dist m v x
  bound_outside c hc {dx} {out} bound inside gates v hv outside = elim (ℕ_discrete c 0) [ yes root ↦ absurd (true≢false (sym (root_holds m tree v hv) ∙ ap (λ (k : ℕ). holds m k v) (sym root) ∙ outside)) | no real ↦ by real (dec_lt (dist m v x) FAR) ]
    where
      by : c ≢ 0 → Dec (dist m v x < FAR) → out ≤ dist m v x
      by real (no far) = omega (arith, far, (bound.other real).most)
      by real (yes reaches) =
          let gate = out_gate m net c x v hv outside inside reaches in
          let b : ℕ = gate.gate in
          let p : ℕ = parent_of m c in
          let child : Memᴰ c (children m p) = children_has m p c hc refl real in
          let falls = (g.sound.part c hc).parent (omega (arith, real)) in
          let hp : p < part_count m = omega (arith, falls, hc) in
          let inner = child_inner m p c child in
          let border = boundary_border m net tree p c b child gate.is_boundary in
          let (i, hi, same) = place_read g p hp b (subst⁻¹ (Memᴰ b) (rows_inner m p inner) border) in
          let hb : b < m.vertices = (holds_says m c b (boundary_inside m c b gate.is_boundary)).0 in
          let in-child : child_at mem (part_word mem p rows_in_part) i ≡ c = child_at_read g p hp inner i hi ∙ ap (child_of m p) same ∙ child_found m net tree p c b hb child (boundary_inside m c b gate.is_boundary) in
          let least : Least (out_of mem (part_word mem p rows_in_part) dx c) (rows_in mem p) out = subst (λ (k : ℕ). Least (out_of mem (part_word mem k rows_in_part) dx c) (rows_in mem k) out) (parent_read g c hc) (bound.other real) in
          omega (
            arith,
            least.below i (omega (arith, hi, rows_read g p hp)),
            out_here mem (part_word mem p rows_in_part) dx c i in-child,
            ap (word dx) (owner_read g p hp i hi ∙ same),
            gates b gate.is_boundary,
            gate.bounds,
          )

  -- what gets a distance lies in the part whose rows are asked for
  pub now_inside : (p : ℕ) → p < part_count m → {Asked : ℕ → Type 0} {dx dx' : List ℕ} → Closer mem (part_word mem p rows_in_part) (part_word mem p table_in_part) (rows_in mem p) dx Asked dx' → ((i : ℕ) → Asked i → i < rows_in mem p)
      → (part : ℕ) → ((v : ℕ) → v < m.vertices → word dx v < FAR → holds m part v ≡ true) → ((v : ℕ) → holds m p v ≡ true → holds m part v ≡ true)
      → (v : ℕ) → v < m.vertices → word dx' v < FAR → holds m part v ≡ true
  now_inside p hp closer of_part part old inside v hv some =
      ⊎_elim
      (λ same. old v hv (omega (arith, same, some)))
      (λ (i, row, owner).
      let hi : i < size_of m p = omega (arith, of_part i row, rows_read g p hp) in
      inside v (subst (λ (u : ℕ). holds m p u ≡ true) (sym (owner_read g p hp i hi) ∙ owner) (row_held m net tree p (row_vertex m p i) (row_in_lem g p hp i hi))))
      (closer.changed v)

  -- A part p with children was opened up, and its rows have their distances. The child that holds x, if any, has a key already, and its rows may give none.
  module _ (p : ℕ) (hp : p < part_count m) (inner : is_leaf m p ≡ false) (dx keys waits : List ℕ) (n : ℕ) {keys' waits' : List ℕ} {n' : ℕ} {Given : ℕ → Type 0}
      (spread : Spread mem (part_word mem p rows_in_part) dx Given keys waits n keys' waits' n') (of_part : (i : ℕ) → Given i → i < rows_in mem p)
      (gives : (i : ℕ) → i < size_of m p → holds m (child_of m p (row_vertex m p i)) x ≡ false → Given i)
      (exact : (r : ℕ) → Memᴰ r (row_vertices m p) → ((i : ℕ) → i < size_of m p → row_vertex m p i ≡ r → below_at mem (part_word mem p rows_in_part) i < FAR) → word dx r ≤ dist m r x)
      (own : (c : ℕ) → Memᴰ c (children m p) → holds m c x ≡ true → word keys c < FAR) where
    border_exact : (c b : ℕ) → Memᴰ c (children m p) → boundary m c b ≡ true → (row_of m (active m s) c b).distance < FAR → word dx b ≤ dist m b x
    border_exact c b hc e near = exact b (subst⁻¹ (Memᴰ b) (rows_inner m p inner) (boundary_border m net tree p c b hc e)) below
      where
        below : (i : ℕ) → i < size_of m p → row_vertex m p i ≡ b → below_at mem (part_word mem p rows_in_part) i < FAR
        below i hi same =
            let in_c = boundary_inside m c b e in
            let child : child_of m p (row_vertex m p i) ≡ c = ap (child_of m p) same ∙ child_found m net tree p c b (holds_says m c b in_c).0 hc in_c in
            omega (arith, near, below_read g p hp inner i hi, ap (λ (k : ℕ). (row_of m (active m s) k (row_vertex m p i)).distance) child, ap (λ (k : ℕ). (row_of m (active m s) c k).distance) same)

    -- the key of a child is a bound
    child_bound : (c : ℕ) → Memᴰ c (children m p) → holds m c x ≡ false → (v : ℕ) → Coming m s x v → holds m c v ≡ true → word keys' c ≤ dist m v x
    unfolding key_of
    child_bound c hc apart v comes inside =
        let gate = key_gate m (active m s) net c x v comes.vertex inside comes.is_active apart comes.reaches in
        let b : ℕ = gate.gate in
        let border = boundary_border m net tree p c b hc gate.is_boundary in
        let (i, hi, same) = place_read g p hp b (subst⁻¹ (Memᴰ b) (rows_inner m p inner) border) in
        let in_c = boundary_inside m c b gate.is_boundary in
        let hb : b < m.vertices = (holds_says m c b in_c).0 in
        let child : child_of m p (row_vertex m p i) ≡ c = ap (child_of m p) same ∙ child_found m net tree p c b hb hc in_c in
        let key : key_of mem (part_word mem p rows_in_part) dx i ≤ dist m v x =
        omega (
          arith,
          below_read g p hp inner i hi,
          ap (λ (k : ℕ). (row_of m (active m s) k (row_vertex m p i)).distance) child,
          ap (λ (k : ℕ). (row_of m (active m s) c k).distance) same,
          ap (word dx) (owner_read g p hp i hi ∙ same),
          border_exact c b hc gate.is_boundary (omega (arith, gate.bounds, comes.reaches)),
          gate.bounds,
        )
        in
        omega (
          arith,
          key,
          spread.bound i (gives i hi (ap (λ (k : ℕ). holds m k x) child ∙ apart)) (omega (arith, key, comes.reaches)),
          ap (word keys') (child_at_read g p hp inner i hi ∙ child),
        )

    -- a child without a key does not hold x
    child_apart : (c : ℕ) → Memᴰ c (children m p) → FAR ≤ word keys c → holds m c x ≡ false
    child_apart c hc none = ⊎_elim (λ held. absurd (omega (arith, own c hc held))) (λ apart. apart) (true_or_false (holds m c x))

    -- those that join wait well
    pub new_waits : (t : ℕ) → n ≤ t → t < n' → Waits m s x dx (word waits' t) (word keys' (word waits' t))
    new_waits t low high =
        let (i, hi, e, fresh) = spread.new t low high in
        let hi' : i < size_of m p = omega (arith, of_part i hi, rows_read g p hp) in
        let b : ℕ = row_vertex m p i in
        let child = child_of_border g p hp inner b (subst (Memᴰ b) (rows_inner m p inner) (row_in_lem g p hp i hi')) in
        let c : ℕ = child_of m p b in
        let is : child_at mem (part_word mem p rows_in_part) i ≡ c = child_at_read g p hp inner i hi' in
        let apart = child_apart c child.0 (omega (arith, fresh, ap (word keys) is)) in
        subst⁻¹ (λ (q : ℕ). Waits m s x dx q (word keys' q)) (e ∙ is)
        (record {
          is_part = (children_says m p c child.0).0;
          apart = apart;
          gates = λ d h near. border_exact c d child.0 h near;
          bound = λ v comes inside. child_bound c child.0 apart v comes inside;
        })

    -- and lie in p
    pub new_inside : (t : ℕ) → n ≤ t → t < n' → (v : ℕ) → holds m (word waits' t) v ≡ true → holds m p v ≡ true
    new_inside t low high v inside =
        let (i, given, e, fresh) = spread.new t low high in
        let hi : i < size_of m p = omega (arith, of_part i given, rows_read g p hp) in
        let b : ℕ = row_vertex m p i in
        let child = child_of_border g p hp inner b (subst (Memᴰ b) (rows_inner m p inner) (row_in_lem g p hp i hi)) in
        child_held m net tree p (child_of m p b) v child.0 (ap (λ (q : ℕ). holds m q v) (sym (e ∙ child_at_read g p hp inner i hi)) ∙ inside)

    -- those that waited still do
    pub old_waits : (t : ℕ) → t < n → Waits m s x dx (word waits t) (word keys (word waits t)) → Waits m s x dx (word waits' t) (word keys' (word waits' t))
    old_waits t h w =
        subst⁻¹ (λ (q : ℕ). Waits m s x dx q (word keys' q)) (spread.kept t h)
        (record {
          is_part = w.is_part;
          apart = w.apart;
          gates = w.gates;
          bound = λ v comes inside. omega (arith, spread.no_more (word waits t), w.bound v comes inside);
        })

    pub covered_still : (marks : List ℕ) (low v : ℕ) → Covered m marks waits n low v → Covered m marks waits' n' low v
    covered_still marks low v (inl marked) = inl marked
    covered_still marks low v (inr (t, h, from, inside)) =
        inr (t, omega (arith, spread.grows), omega (arith, from, spread.kept t h), ap (λ (q : ℕ). holds m q v) (spread.kept t h) ∙ inside)

    -- what has a key now is covered
    pub keyed_still : (marks : List ℕ) (q v : ℕ) → (word keys q < FAR → Covered m marks waits' n' q v) → word keys' q < FAR → holds m q v ≡ true → Covered m marks waits' n' q v
    keyed_still marks q v old key inside =
        ⊎_elim old (λ (t, low, high, e). inr (t, high, omega (arith, e), ap (λ (k : ℕ). holds m k v) e ∙ inside)) (spread.joined q key)

    -- and so is what p holds
    pub part_covered : (marks : List ℕ) → ((c : ℕ) → Memᴰ c (children m p) → p < c → word keys c < FAR → (v : ℕ) → Coming m s x v → holds m c v ≡ true → Covered m marks waits' n' c v)
        → (v : ℕ) → Coming m s x v → holds m p v ≡ true → Covered m marks waits' n' p v
    part_covered marks old v comes inside =
        let (c, hc, in_c) = child_holding m net tree p v inner inside in
        let child = children_says m p c hc in
        let after : p < c = omega (arith, (g.sound.part c child.0).parent (omega (arith, child.2)), child.1) in
        covered_lower m marks waits' n' p c v (omega arith)
        (⊎_elim
        (λ held. old c hc after (own c hc held) v comes in_c)
        (λ apart. keyed_still marks c v (λ key. old c hc after key v comes in_c) (omega (arith, child_bound c hc apart v comes in_c, comes.reaches)) in_c)
        (true_or_false (holds m c x)))

  -- distances that were made less are still no farther
  pub closer_waits : {dx dx' : List ℕ} {q key : ℕ} → ((u : ℕ) → word dx' u ≤ word dx u) → Waits m s x dx q key → Waits m s x dx' q key
  closer_waits less w =
      record { is_part = w.is_part; apart = w.apart; gates = λ b e near. omega (arith, less b, w.gates b e near); bound = w.bound }

  -- A waiting part with children is taken.
  module _ {k : ℕ} {dx keys marks waits : List ℕ} {part out n : ℕ} {found : List Listed} (st : SearchingParts m s x k dx keys marks waits part out n found) where
    module _ (at : ℕ) (h : at < n) (fits : n ≤ length waits) {dx' keys' waits' : List ℕ} {n' : ℕ} (inner : is_leaf m (word waits at) ≡ false)
        (opened : Opens mem (word waits at) false dx keys (fewer waits at n h fits) (n - 1) dx' keys' waits' n') where
      q : ℕ
      q = word waits at

      w : Waits m s x dx q (word keys q)
      unfolding q
      w = st.waiting at h

      less : (u : ℕ) → word dx' u ≤ word dx u
      less = opened.0.no_more

      exact : (r : ℕ) → Memᴰ r (row_vertices m q) → ((i : ℕ) → i < size_of m q → row_vertex m q i ≡ r → below_at mem (part_word mem q rows_in_part) i < FAR) → word dx' r ≤ dist m r x
      unfolding q
      exact = part_exact g q w.is_part x hx st.known w.apart w.gates inner opened.0

      own : (c : ℕ) → Memᴰ c (children m q) → holds m c x ≡ true → word keys c < FAR
      own c hc held = absurd (true≢false (sym (child_held m net tree q c x hc held) ∙ w.apart))

      all_give : (i : ℕ) → i < size_of m q → holds m (child_of m q (row_vertex m q i)) x ≡ false → GivenRow false mem (part_word mem q rows_in_part) (rows_in mem q) dx i
      unfolding q
      all_give i hi apart = record { is_row = omega (arith, hi, rows_read g q w.is_part); is_given = λ e. absurd (true≢false (sym e)) }

      -- what was covered still is
      still : (low v : ℕ) → Coming m s x v → Covered m marks waits n low v → Covered m marks waits' n' low v
      unfolding q
      still low v comes c =
          ⊎_elim
          (λ old. covered_still q w.is_part inner dx' keys (fewer waits at n h fits) (n - 1) opened.1 given_is_row all_give exact own marks low v old)
          (λ (from, inside). covered_lower m marks waits' n' low q v from
          (part_covered q w.is_part inner dx' keys (fewer waits at n h fits) (n - 1) opened.1 given_is_row all_give exact own marks child-keyed v comes inside))
          (covered_without waits at n h fits m marks low v c)
        where
          child-keyed : (c : ℕ) → Memᴰ c (children m q) → q < c → word keys c < FAR → (u : ℕ) → Coming m s x u → holds m c u ≡ true → Covered m marks waits' n' c u
          child-keyed c hc after key u comes inside =
              ⊎_elim
              (λ old. covered_still q w.is_part inner dx' keys (fewer waits at n h fits) (n - 1) opened.1 given_is_row all_give exact own marks c u old)
              (λ (from, held). absurd (omega (arith, from, after)))
              (covered_without waits at n h fits m marks c u (st.keyed c key u comes inside))

      pub part_taken : SearchingParts m s x k dx' keys' marks waits' part out n' found
      unfolding q
      part_taken =
          record {
            keys_length = opened.1.keys_length ∙ st.keys_length;
            marks_length = st.marks_length;
            waits_length = opened.1.waits_length;
            honest = still_honest g q w.is_part opened.0 asked_is_row x hx st.honest;
            known = part_known g q w.is_part x hx st.known w.apart w.gates inner opened.0;
            is_part = st.is_part;
            holds_x = st.holds_x;
            root_out = st.root_out;
            gates = λ b e. omega (arith, less b, st.gates b e);
            outside = st.outside;
            waiting = waiting;
            inside = λ v comes inside. still part v comes (st.inside v comes inside);
            keyed = λ p key v comes inside.
                keyed_still q w.is_part inner dx' keys (fewer waits at n h fits) (n - 1) opened.1 given_is_row all_give exact own marks p v (λ old. still p v comes (st.keyed p old v comes inside)) key inside;
            known_inside = now_inside q w.is_part opened.0 asked_is_row part st.known_inside (st.waits_inside at h);
            waits_inside = inside-still;
            waits_keyed = all_keyed opened.1 keyed-left;
            waits_apart = all_apart opened.1 keyed-left (fewer_apart waits at n h fits st.waits_apart);
            unmarked = all_unmarked opened.1 keyed-left marks (fewer_unmarked waits at n h fits marks st.unmarked) st.marked_keyed;
            marked_keyed = λ p marked. omega (arith, opened.1.no_more p, st.marked_keyed p marked);
            list = st.list;
          }
        where
          inside-still : (t : ℕ) → t < n' → (v : ℕ) → holds m (word waits' t) v ≡ true → holds m part v ≡ true
          inside-still t ht v inside =
              elim (dec_lt t (n - 1)) [
                | yes before ↦
                    let (u, hu, e) = still_waited waits at n h fits t before in
                    st.waits_inside u hu v (ap (λ (p : ℕ). holds m p v) (sym (opened.1.kept t before ∙ e)) ∙ inside)
                | no after ↦
                    st.waits_inside at h v
                    (new_inside q w.is_part inner dx' keys (fewer waits at n h fits) (n - 1) opened.1 given_is_row all_give exact own t (omega (arith, after)) ht v inside)
              ]

          keyed-left : (t : ℕ) → t < n - 1 → word keys (word (fewer waits at n h fits) t) < FAR
          keyed-left = fewer_keyed waits at n h fits keys st.waits_keyed

          waiting : (t : ℕ) → t < n' → Waits m s x dx' (word waits' t) (word keys' (word waits' t))
          waiting t ht =
              elim (dec_lt t (n - 1)) [
                | yes before ↦
                    let (u, hu, e) = still_waited waits at n h fits t before in
                    old_waits q w.is_part inner dx' keys (fewer waits at n h fits) (n - 1) opened.1 given_is_row all_give exact own t before
                    (closer_waits less (subst⁻¹ (λ (p : ℕ). Waits m s x dx p (word keys p)) e (st.waiting u hu)))
                | no after ↦ new_waits q w.is_part inner dx' keys (fewer waits at n h fits) (n - 1) opened.1 given_is_row all_give exact own t (omega (arith, after)) ht
              ]

    -- The search climbs to the part above.
    module _ (above : ℕ) (is-above : above ≡ parent_of m part) (real : part ≢ 0) {dx' keys' waits' : List ℕ} {n' out' : ℕ}
        (opened : Opens mem above true dx (lowered keys part 0) waits n dx' keys' waits' n') (bound : BoundOutside mem above dx' out') where
      falls : above < part
      falls = omega (arith, is-above, (g.sound.part part st.is_part).parent (omega (arith, real)))

      ha : above < part_count m
      ha = omega (arith, falls, st.is_part)

      child : Memᴰ part (children m above)
      child = children_has m above part st.is_part (sym is-above) real

      inner : is_leaf m above ≡ false
      inner = child_inner m above part child

      less_above : (u : ℕ) → word dx' u ≤ word dx u
      less_above = opened.0.no_more

      exact_above : (r : ℕ) → Memᴰ r (row_vertices m above) → word dx' r ≤ dist m r x
      exact_above = exact_in g above ha opened.0 asked_is_row x hx st.known (asked_every g above ha) inner part child st.holds_x st.gates

      exact_shown : (r : ℕ) → Memᴰ r (row_vertices m above) → ((i : ℕ) → i < size_of m above → row_vertex m above i ≡ r → below_at mem (part_word mem above rows_in_part) i < FAR) → word dx' r ≤ dist m r x
      exact_shown r hr shown = exact_above r hr

      -- rows outside the part climbed from had no distance
      above_gives : (i : ℕ) → i < size_of m above → holds m (child_of m above (row_vertex m above i)) x ≡ false → GivenRow true mem (part_word mem above rows_in_part) (rows_in mem above) dx i
      above_gives i hi apart =
          record {
            is_row = omega (arith, hi, rows_read g above ha);
            is_given = λ e. elim (dec_lt (word dx b) FAR) [
              | no far ↦ omega (arith, far, ap (word dx) (owner_read g above ha i hi))
              | yes some ↦ absurd (true≢false (sym st.holds_x ∙ ap (λ (q : ℕ). holds m q x) (sym (same some)) ∙ apart))
            ];
          }
        where
          b : ℕ
          b = row_vertex m above i

          same : word dx b < FAR → child_of m above b ≡ part
          same some =
              let found = child_of_border g above ha inner b (subst (Memᴰ b) (rows_inner m above inner) (row_in_lem g above ha i hi)) in
              children_apart m net tree above (child_of m above b) part b found.0 child found.1 (st.known_inside b (row_below_lem g above ha i hi) some)

      own_above : (c : ℕ) → Memᴰ c (children m above) → holds m c x ≡ true → word (lowered keys part 0) c < FAR
      own_above c hc held =
          let same = children_apart m net tree above c part x hc child held st.holds_x in
          omega (arith, ap (word (lowered keys part 0)) same, lowered_here keys part 0)

      -- what has a key, the part climbed from among it
      old_keyed : (q : ℕ) → word (lowered keys part 0) q < FAR → (v : ℕ) → Coming m s x v → holds m q v ≡ true → Covered m marks waits n q v
      old_keyed q key v comes inside =
          ⊎_elim
          (λ old. st.keyed q old v comes inside)
          (λ (same, some, near). subst⁻¹ (λ (p : ℕ). Covered m marks waits n p v) same (st.inside v comes (ap (λ (p : ℕ). holds m p v) (sym same) ∙ inside)))
          (lowered_found keys part 0 FAR q key)

      still_above : (low v : ℕ) → Covered m marks waits n low v → Covered m marks waits' n' low v
      still_above low v c = covered_still above ha inner dx' (lowered keys part 0) waits n opened.1 given_is_row above_gives exact_shown own_above marks low v c

      holds_x' : holds m above x ≡ true
      holds_x' = child_held m net tree above part x child st.holds_x

      gates' : (b : ℕ) → boundary m above b ≡ true → word dx' b ≤ dist m b x
      gates' b e = exact_above b (boundary_row m net tree above b e)

      pub climbed : SearchingParts m s x k dx' keys' marks waits' above out' n' found
      climbed =
          record {
            keys_length = opened.1.keys_length ∙ lowered_length keys part 0 ∙ st.keys_length;
            marks_length = st.marks_length;
            waits_length = opened.1.waits_length;
            honest = still_honest g above ha opened.0 asked_is_row x hx st.honest;
            known = known_in g above ha opened.0 asked_is_row x hx st.known (asked_every g above ha) inner part child st.holds_x st.gates;
            is_part = ha;
            holds_x = holds_x';
            root_out = bound.root;
            gates = gates';
            outside = bound_outside above ha bound holds_x' gates';
            waiting = waiting;
            inside = part_covered above ha inner dx' (lowered keys part 0) waits n opened.1 given_is_row above_gives exact_shown own_above marks (λ c hc after key v comes inside. still_above c v (old_keyed c key v comes inside));
            keyed = λ q key v comes inside.
                keyed_still above ha inner dx' (lowered keys part 0) waits n opened.1 given_is_row above_gives exact_shown own_above marks q v (λ old. still_above q v (old_keyed q old v comes inside)) key inside;
            known_inside = now_inside above ha opened.0 asked_is_row above (λ v hv some. up v (st.known_inside v hv some)) (λ v held. held);
            waits_inside = inside-still;
            waits_keyed = all_keyed opened.1 keyed-lower;
            waits_apart = all_apart opened.1 keyed-lower st.waits_apart;
            unmarked = all_unmarked opened.1 keyed-lower marks st.unmarked marked-lower;
            marked_keyed = λ q marked. omega (arith, opened.1.no_more q, marked-lower q marked);
            list = st.list;
          }
        where
          up : (v : ℕ) → holds m part v ≡ true → holds m above v ≡ true
          up v held = child_held m net tree above part v child held

          inside-still : (t : ℕ) → t < n' → (v : ℕ) → holds m (word waits' t) v ≡ true → holds m above v ≡ true
          inside-still t ht v inside =
              elim (dec_lt t n) [
                | yes before ↦ up v (st.waits_inside t before v (ap (λ (p : ℕ). holds m p v) (sym (opened.1.kept t before)) ∙ inside))
                | no after ↦ new_inside above ha inner dx' (lowered keys part 0) waits n opened.1 given_is_row above_gives exact_shown own_above t (omega (arith, after)) ht v inside
              ]

          keyed-lower : (t : ℕ) → t < n → word (lowered keys part 0) (word waits t) < FAR
          keyed-lower t ht = omega (arith, lowered_no_more keys part 0 (word waits t), st.waits_keyed t ht)

          marked-lower : (q : ℕ) → word marks q ≡ 1 → word (lowered keys part 0) q < FAR
          marked-lower q marked = omega (arith, lowered_no_more keys part 0 q, st.marked_keyed q marked)

          lower-key : (q : ℕ) → Waits m s x dx' q (word keys q) → Waits m s x dx' q (word (lowered keys part 0) q)
          lower-key q v =
              record { is_part = v.is_part; apart = v.apart; gates = v.gates; bound = λ u comes inside. omega (arith, lowered_no_more keys part 0 q, v.bound u comes inside) }

          waiting : (t : ℕ) → t < n' → Waits m s x dx' (word waits' t) (word keys' (word waits' t))
          waiting t ht =
              elim (dec_lt t n) [
                | yes before ↦ old_waits above ha inner dx' (lowered keys part 0) waits n opened.1 given_is_row above_gives exact_shown own_above t before (lower-key (word waits t) (closer_waits less_above (st.waiting t before)))
                | no after ↦ new_waits above ha inner dx' (lowered keys part 0) waits n opened.1 given_is_row above_gives exact_shown own_above t (omega (arith, after)) ht
              ]
