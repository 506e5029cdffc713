-- The refresh of a vertex's leaf and of each part above it keeps every row exact.
-- Assumes nothing.
use mathlib.Core.Path.{◌≡◌, refl, sym, ◌∙◌, subst, subst⁻¹}
use mathlib.Core.Logic.{◌⊎◌, inl, inr, ⊎_elim, ◌≢◌}
use mathlib.Core.Bool.{Bool, true, false, ◌&&◌, cond}
use mathlib.Core.List.{List, Memᴰ}
use Prim.Native.Nat.{ℕ, zero, suc, ◌≤◌, ◌<◌}
use native.Mathlib.Decide.{ℕ_discrete, dec_lt}
use native.Mathlib.Omega.{arith}
use lib.Dec.{ltb}
use borrow.Author.Tests.{lt-ltb, le-ltb}
use Rattle.words.specs.Lists.{word, place_in}
use Rattle.words.proofs.Tests.{true_or_false}
use Rattle.words.proofs.Lists.{place_in_lem}
use Rattle.layout.specs.Layout.{part_at}
use Rattle.roads.specs.Map.{Map, part_count}
use Rattle.roads.proofs.Trail.{Net}
use Rattle.parts.specs.Tree.{parent_of, leaf_of, level, holds, is_leaf, vertices_of}
use Rattle.parts.specs.Border.{borders}
use Rattle.parts.specs.Size.{row_vertices, size_of}
use Rattle.parts.proofs.Tree.{Above, above_least, above_chain, none_between, holds_above, holds_parent, holds_child}
use Rattle.parts.proofs.Way.{in_own_leaf}
use Rattle.parts.proofs.Down.{Tree, leaf_childless, children_has}
use Rattle.rows.specs.Row.{row_of}
use Rattle.image.specs.Places.{first_row_of}
use Rattle.image.specs.Records.{row_vertex}
use Rattle.row_changes.specs.Switch.{Switched}
use Rattle.row_changes.proofs.Switch.{switch_elsewhere}
use Rattle.row_changes.proofs.Early.{unseen_rows, above_unchanged}
use Rattle.row_refresh.specs.Model.{refreshed, touched, refreshed_up}
use Rattle.row_memory.specs.Kept.{OutsideRows, Kept}
use Rattle.row_memory.specs.Laid.{Few, LaidForRows, RowsShow}
use Rattle.row_memory.specs.Refreshed.{Refreshed}
use Rattle.row_memory.proofs.Levels.{level_falls, level_some}
use Rattle.row_memory.proofs.Genuine.{laid_kept, others_kept, row_in_lem, untouched, arrived_here, departed_here}

-- On the way up, before part p: the rows of p and of the parts above it are as they were, and all others show what they must.
record Climbing (m : Map) (v : ℕ) (before after : ℕ → Bool) (p : ℕ) (mem : List ℕ) : Type 0 where
  laid : LaidForRows m after mem
  ahead : (q : ℕ) → q < part_count m → holds m q v ≡ true → q ≤ p → RowsShow m before mem q
  behind : (q : ℕ) → q < part_count m → (holds m q v ≡ false) ⊎ (p < q) → RowsShow m after mem q

module _ (m : Map) (net : Net m) (tree : Tree m) (few : Few m) (v : ℕ) (hv : v < m.vertices) (before after : ℕ → Bool) where
  one_part : (is : Bool) → Switched v is before after → (p : ℕ) → p < part_count m → holds m p v ≡ true → (mem : List ℕ) → Climbing m v before after p mem
      → Kept (first_row_of m p) (size_of m p) mem (refreshed mem p v is) × RowsShow m after (refreshed mem p v is) p
  one_part true switch p hp inside mem c =
      arrived_here m net tree p hp v hv before after few mem c.laid (λ k hk above. c.behind k hk (inr above)) (c.ahead p hp inside (omega arith)) switch
  one_part false switch p hp inside mem c =
      departed_here m net tree p hp v hv before after few mem c.laid (λ k hk above. c.behind k hk (inr above)) (c.ahead p hp inside (omega arith)) switch

  -- a part that holds v and stands at no higher number than p, which holds v too, is p or stands above it
  above_it : (p q : ℕ) → p < part_count m → holds m p v ≡ true → holds m q v ≡ true → q < p → Above m q p
  above_it p q hp inside held lower =
      above_chain m tree.falls (leaf_of m v) (tree.leaf_part v hv) (holds_above m tree.falls v (tree.leaf_part v hv) q held) (holds_above m tree.falls v (tree.leaf_part v hv) p inside) (omega (arith, lower))

  module _ (p : ℕ) (hp : p < part_count m) (inside : holds m p v ≡ true) (mem now : List ℕ) (c : Climbing m v before after p mem)
      (kept : Kept (first_row_of m p) (size_of m p) mem now) (shown : RowsShow m after now p) where
    -- a part that does not hold v, or stands behind p, shows what it must
    settled : (q : ℕ) → q < part_count m → q ≢ p → (holds m q v ≡ false) ⊎ (p < q) → RowsShow m after now q
    settled q hq other which = others_kept m net tree p hp kept after q hq other (c.behind q hq which)

    -- one part further up
    next : p ≢ 0 → Climbing m v before after (parent_of m p) now
    next root =
        record {
          laid = laid_kept m net tree p hp kept c.laid;
          ahead = λ q hq with-v low. others_kept m net tree p hp kept before q hq (λ same. omega (arith, lower)) (c.ahead q hq with-v (omega (arith, lower)));
          behind = λ q hq which. by q hq which (ℕ_discrete q p);
        }
      where
        lower : parent_of m p < p
        lower = tree.falls p (omega (arith, root)) hp

        -- a part that holds v and stands above the parent's number is p or stands above p's
        past : (q : ℕ) → q < part_count m → q ≢ p → (holds m q v ≡ false) ⊎ (parent_of m p < q) → (holds m q v ≡ false) ⊎ (p < q)
        past q hq other (inl out) = inl out
        past q hq other (inr high) = by_place (dec_lt p q) (true_or_false (holds m q v))
          where
            by_place : Dec (p < q) → (holds m q v ≡ true) ⊎ (holds m q v ≡ false) → (holds m q v ≡ false) ⊎ (p < q)
            by_place (yes above) held = inr above
            by_place (no not-above) (inr out) = inl out
            by_place (no not-above) (inl held) =
                absurd
                (omega (
                  arith,
                  none_between m tree.falls q p (leaf_of m v) (tree.leaf_part v hv) (holds_above m tree.falls v (tree.leaf_part v hv) q held)
                      (holds_above m tree.falls v (tree.leaf_part v hv) p inside) (omega (arith, other, not-above)),
                ))

        by : (q : ℕ) → q < part_count m → (holds m q v ≡ false) ⊎ (parent_of m p < q) → Dec (q ≡ p) → RowsShow m after now q
        by q hq which (yes same) = subst⁻¹ (RowsShow m after now) same shown
        by q hq which (no other) = settled q hq other (past q hq other which)

    frame : (a : ℕ) → ((q : ℕ) → q < part_count m → OutsideRows (first_row_of m q) (size_of m q) a) → word now a ≡ word mem a
    frame a out = kept.outside a (out p hp)

    -- at the root
    last : p ≡ 0 → Refreshed m after mem now
    last root = record { shows = λ q hq. by q hq (ℕ_discrete q p); others = frame; long = kept.long }
      where
        by : (q : ℕ) → q < part_count m → Dec (q ≡ p) → RowsShow m after now q
        by q hq (yes same) = subst⁻¹ (RowsShow m after now) same shown
        by q hq (no other) = settled q hq other (inr (omega (arith, other, root)))

    -- where no row of p changed, none above it does
    module _ {is : Bool} (switch : Switched v is before after) (same : now ≡ mem) (real : p ≢ 0) where
      -- the rows of p are the same before and after
      unchanged : (r : ℕ) → Memᴰ r (row_vertices m p) → row_of m before p r ≡ row_of m after p r
      unfolding size_of
      unchanged r hr =
          let place = place_in_lem r (row_vertices m p) hr in
          let j : ℕ = place_in r (row_vertices m p) in
          subst (λ (k : ℕ). row_of m before p k ≡ row_of m after p k) place.1
          (sym (c.ahead p hp inside (omega arith) j place.0) ∙ subst (λ (l : List ℕ). RowsShow m after l p) same shown j place.0)

      -- a part above p is no leaf, so its rows are those of its borders
      inner : (q : ℕ) → holds m q v ≡ true → q < p → (r : ℕ) → Memᴰ r (row_vertices m q) → Memᴰ r (borders m q)
      unfolding row_vertices
      inner q held lower r hr = subst (λ (leaf : Bool). Memᴰ r (cond leaf (vertices_of m q) (borders m q))) not_leaf hr
        where
          low : p ≤ leaf_of m v
          low = above_least m tree.falls (leaf_of m v) (tree.leaf_part v hv) (holds_above m tree.falls v (tree.leaf_part v hv) p inside)

          child : (k : ℕ) × (holds m k v ≡ true) × (k ≢ 0) × (k < part_count m) × (parent_of m k ≡ q)
          child = holds_child m tree.falls v (tree.leaf_part v hv) q held (λ e. omega (arith, low, e))

          not_leaf : is_leaf m q ≡ false
          not_leaf = ⊎_elim (λ leaf. absurd (leaf_childless m q child.0 leaf (children_has m q child.0 child.3 child.4 child.2))) (λ away. away) (true_or_false (is_leaf m q))

      up_there : (q : ℕ) → q < part_count m → holds m q v ≡ true → q < p → RowsShow m after now q
      up_there q hq held lower j hj =
          others_kept m net tree p hp kept before q hq (λ e. omega arith) (c.ahead q hq held (omega arith)) j hj
          ∙ above_unchanged m net tree v hv switch q p (above_it p q hp inside held lower) (λ e. omega arith) hp inside (unseen_rows m net tree before after p real hp unchanged) (row_vertex m q j)
          (inner q held lower (row_vertex m q j) (row_in_lem m net tree q hq j hj))

      still : Refreshed m after mem now
      still = record { shows = λ q hq. by q hq (ℕ_discrete q p) (dec_lt p q) (true_or_false (holds m q v)); others = frame; long = kept.long }
        where
          by : (q : ℕ) → q < part_count m → Dec (q ≡ p) → Dec (p < q) → (holds m q v ≡ true) ⊎ (holds m q v ≡ false) → RowsShow m after now q
          by q hq (yes e) d h = subst⁻¹ (RowsShow m after now) e shown
          by q hq (no other) (yes high) h = settled q hq other (inr high)
          by q hq (no other) (no low) (inr out) = settled q hq other (inl out)
          by q hq (no other) (no low) (inl held) = up_there q hq held (omega (arith, other, low))

    -- what is left of the way up, after part p
    onto : {out : List ℕ} → Refreshed m after now out → Refreshed m after mem out
    onto rest = record { shows = rest.shows; others = λ a out. rest.others a out ∙ frame a out; long = rest.long ∙ kept.long }

  module _ (is : Bool) (switch : Switched v is before after) where
    climbed : (left p : ℕ) → level m p ≤ left → p < part_count m → holds m p v ≡ true → (mem : List ℕ) → Climbing m v before after p mem → Refreshed m after mem (refreshed_up left mem p v is)
    unfolding refreshed_up
    climbed zero p enough hp inside mem c = absurd (omega (arith, level_some m tree.falls p))
    climbed (suc left) p enough hp inside mem c =
        by (ℕ_discrete p 0) (touched mem p v is) refl (one_part is switch p hp inside mem c)
        (λ root lower held next-climb. climbed left (parent_of m p) (omega (arith, level_falls m tree.falls p root hp)) (omega (arith, lower)) held (refreshed mem p v is) next-climb)
      where
        now : List ℕ
        now = refreshed mem p v is

        by : Dec (p ≡ 0) → (t : Bool) → touched mem p v is ≡ t → Kept (first_row_of m p) (size_of m p) mem now × RowsShow m after now p
            → (p ≢ 0 → parent_of m p < p → holds m (parent_of m p) v ≡ true → Climbing m v before after (parent_of m p) now → Refreshed m after now (refreshed_up left now (parent_of m p) v is))
            → Refreshed m after mem (cond (t && ltb (word now (part_at p)) p) (refreshed_up left now (word now (part_at p)) v is) now)
        by (yes root) false e done later = last p hp inside mem now c done.0 done.1 root
        by (yes root) true e done later = rw (le-ltb (word now (part_at p)) p (omega (arith, root))) (last p hp inside mem now c done.0 done.1 root)
        by (no inner) false e done later =
            still p hp inside mem now c done.0 done.1 switch
            (untouched m net tree p hp v hv before after few mem c.laid (λ k hk above. c.behind k hk (inr above)) (c.ahead p hp inside (omega arith)) is e) inner
        by (no inner) true e done later =
            subst⁻¹ (λ (k : ℕ). Refreshed m after mem (cond (ltb k p) (refreshed_up left now k v is) now)) parent
            (rw (lt-ltb (parent_of m p) p lower)
            (onto p hp inside mem now c done.0 done.1
            (later inner lower (holds_parent m tree.falls v (tree.leaf_part v hv) p inner inside) (next p hp inside mem now c done.0 done.1 inner))))
          where
            lower : parent_of m p < p
            lower = tree.falls p (omega (arith, inner)) hp

            parent : word now (part_at p) ≡ parent_of m p
            parent = (laid_kept m net tree p hp done.0 c.laid).parent p hp

    -- Where the memory shows the rows before the change and all else after it, the refresh makes the rows exact.
    pub refreshed_up_lem : (left : ℕ) → level m (leaf_of m v) ≤ left → (mem : List ℕ) → LaidForRows m after mem → ((p : ℕ) → p < part_count m → RowsShow m before mem p)
        → Refreshed m after mem (refreshed_up left mem (leaf_of m v) v is)
    refreshed_up_lem left enough mem laid shows =
        climbed left (leaf_of m v) enough (tree.leaf_part v hv) (in_own_leaf m v hv) mem
        (record {
          laid = laid;
          ahead = λ q hq held low. shows q hq;
          behind = λ q hq which j hj. shows q hq j hj ∙ switch_elsewhere m v switch q (row_vertex m q j) (out q which);
        })
      where
        out : (q : ℕ) → (holds m q v ≡ false) ⊎ (leaf_of m v < q) → holds m q v ≡ false
        out q (inl away) = away
        out q (inr high) =
            ⊎_elim
            (λ held. absurd (omega (arith, above_least m tree.falls (leaf_of m v) (tree.leaf_part v hv) (holds_above m tree.falls v (tree.leaf_part v hv) q held))))
            (λ away. away)
            (true_or_false (holds m q v))
