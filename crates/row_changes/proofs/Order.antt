-- The order of rows, and folds of `nearer`.
-- Assumes nothing.
use mathlib.Core.Path.{◌≡◌, refl, sym, ◌∙◌, ap, ap₂, subst⁻¹}
use mathlib.Core.Logic.{inl, inr, ⊎_elim}
use mathlib.Core.Bool.{Bool, true, false, cond}
use mathlib.Core.List.Memᴰ
use mathlib.Core.List.{List, [], ◌∷◌, map, foldr, Memᴰ}
use Prim.Native.Nat.{ℕ, ◌+◌, ◌≤◌, ◌<◌}
use native.Mathlib.Decide.{dec_lt}
use native.Mathlib.Omega.{arith}
use borrow.Author.Tests.{lt-ltb, le-ltb}
use Rattle.words.specs.Limits.{FAR}
use Rattle.words.specs.Lists.{keep}
use Rattle.words.proofs.Tests.{pair_second}
use Rattle.rows.specs.declared.Row.{Row}
use Rattle.rows.specs.Row.{empty_row, comes_before, nearer}
use Rattle.rows.specs.Refresh.{onward}
use Rattle.rows.proofs.Order.{RowLe, le_self, le_trans, nearer_is, nearest_of}

pub map_same : {A B : Type 0} (f g : A → B) (xs : List A) → ((x : A) → Memᴰ x xs → f x ≡ g x) → map f xs ≡ map g xs
map_same f g [] same = refl
map_same f g (x ∷ xs) same = ap₂ ◌∷◌ (same x (Memᴰ.head refl)) (map_same f g xs (λ y h. same y (Memᴰ.tail h)))

le_antisym : (a b : Row) → RowLe a b → RowLe b a → a ≡ b
le_antisym a b (inl p) (inl q) = absurd (omega arith)
le_antisym a b (inl p) (inr q) = absurd (omega arith)
le_antisym a b (inr p) (inl q) = absurd (omega arith)
le_antisym a b (inr p) (inr q) = let v : a.vertex ≡ b.vertex = omega arith in let d : a.distance ≡ b.distance = p.0 in λ i. record { vertex = v i; distance = d i }

pub le_nearer : (x a b : Row) → RowLe x a → RowLe x b → RowLe x (nearer a b)
le_nearer x a b p q = ⊎_elim (λ e. subst⁻¹ (RowLe x) e p) (λ e. subst⁻¹ (RowLe x) e q) (nearer_is a b).one

nearer_left : (a b s : Row) → RowLe (nearer a (nearer b s)) b
nearer_left a b s = le_trans (nearer a (nearer b s)) (nearer b s) b (nearer_is a (nearer b s)).right (nearer_is b s).left

nearer_right : (a b s : Row) → RowLe (nearer a (nearer b s)) s
nearer_right a b s = le_trans (nearer a (nearer b s)) (nearer b s) s (nearer_is a (nearer b s)).right (nearer_is b s).right

-- what is compared first does not matter
nearer_swap : (a b s : Row) → nearer a (nearer b s) ≡ nearer b (nearer a s)
nearer_swap a b s = le_antisym (nearer a (nearer b s)) (nearer b (nearer a s)) (one a b) (one b a)
  where
    one : (x y : Row) → RowLe (nearer x (nearer y s)) (nearer y (nearer x s))
    one x y = le_nearer (nearer x (nearer y s)) y (nearer x s) (nearer_left x y s) (le_nearer (nearer x (nearer y s)) x s (nearer_is x (nearer y s)).left (nearer_right x y s))

-- a row that comes no later makes another one needless
nearer_absorbs : (a b s : Row) → RowLe a b → nearer a (nearer b s) ≡ nearer a s
nearer_absorbs a b s h =
    le_antisym (nearer a (nearer b s)) (nearer a s)
    (le_nearer (nearer a (nearer b s)) a s (nearer_is a (nearer b s)).left (nearer_right a b s))
    (le_nearer (nearer a s) a (nearer b s) (nearer_is a s).left
    (le_nearer (nearer a s) b s (le_trans (nearer a s) a b (nearer_is a s).left h) (nearer_is a s).right))

-- rows seen further on keep their order
pub onward_le : (a b : Row) (d : ℕ) → RowLe a b → RowLe (onward a d) (onward b d)
unfolding onward
onward_le a b d h = by (dec_lt (a.distance + d) FAR) (dec_lt (b.distance + d) FAR) h
  where
    by : Dec (a.distance + d < FAR) → Dec (b.distance + d < FAR) → RowLe a b → RowLe (onward a d) (onward b d)
    by (yes p) (yes q) (inl less) = rw (lt-ltb (a.distance + d) FAR p, lt-ltb (b.distance + d) FAR q) (inl (omega arith))
    by (yes p) (yes q) (inr same) = rw (lt-ltb (a.distance + d) FAR p, lt-ltb (b.distance + d) FAR q) (inr (omega arith, same.1))
    by (yes p) (no q) h = rw (lt-ltb (a.distance + d) FAR p, le-ltb (b.distance + d) FAR (omega (arith, q))) (inl p)
    by (no p) (yes q) (inl less) = absurd (omega (arith, p))
    by (no p) (yes q) (inr same) = absurd (omega (arith, p))
    by (no p) (no q) h = rw (le-ltb (a.distance + d) FAR (omega (arith, p)), le-ltb (b.distance + d) FAR (omega (arith, q))) (le_self empty_row)

-- a row seen further on at once comes no later than seen so in two steps, where that is no shorter
pub onward_twice : (a : Row) (d e f : ℕ) → d ≤ e + f → RowLe (onward a d) (onward (onward a e) f)
unfolding onward
onward_twice a d e f short = by (dec_lt (a.distance + e) FAR)
  where
    most : RowLe (onward a d) empty_row
    most = at_most (dec_lt (a.distance + d) FAR)
      where
        at_most : Dec (a.distance + d < FAR) → RowLe (onward a d) empty_row
        at_most (yes near) = rw (lt-ltb (a.distance + d) FAR near) (inl near)
        at_most (no far) = rw (le-ltb (a.distance + d) FAR (omega (arith, far))) (le_self empty_row)

    on : a.distance + e < FAR → Dec (a.distance + e + f < FAR) → RowLe (onward a d) (onward (record { vertex = a.vertex; distance = a.distance + e }) f)
    on near (yes nearby) = rw (lt-ltb (a.distance + e + f) FAR nearby, lt-ltb (a.distance + d) FAR (omega arith)) (step (dec_lt (a.distance + d) (a.distance + e + f)))
      where
        step : Dec (a.distance + d < a.distance + e + f) → RowLe (record { vertex = a.vertex; distance = a.distance + d }) (record { vertex = a.vertex; distance = a.distance + e + f })
        step (yes less) = inl less
        step (no same) = inr (omega (arith, same), omega arith)
    on near (no far) = rw (le-ltb (a.distance + e + f) FAR (omega (arith, far))) most

    by : Dec (a.distance + e < FAR) → RowLe (onward a d) (onward (onward a e) f)
    by (yes near) = rw (lt-ltb (a.distance + e) FAR near) (on near (dec_lt (a.distance + e + f) FAR))
    by (no far) = rw (le-ltb (a.distance + e) FAR (omega (arith, far)), le-ltb (FAR + f) FAR (omega arith)) most

-- what comes no earlier than a row leaves it as it is
pub nearer_kept : (a b : Row) → RowLe b a → nearer a b ≡ b
nearer_kept a b h = le_antisym (nearer a b) b (nearer_is a b).right (le_nearer b a b h (le_self b))

pub not_before : (a b : Row) → comes_before a b ≡ false → RowLe b a
not_before a b late = pair_second a.distance a.vertex b.distance b.vertex late

-- Some of a list's rows come nearer, and a test shows at least those: it is enough to compare them with what was nearest.
module _ {A : Type 0} (new : A → Row) (old : A → Row) (test : A → Bool) where
  -- the nearest of `start` and the new rows that the test shows
  abbrev pub met : Row → List A → Row
  met start xs = foldr (λ x best. cond (test x) (nearer (new x) best) best) start xs

  met_start : (row start : Row) (xs : List A) → met (nearer row start) xs ≡ nearer row (met start xs)
  met_start row start [] = refl
  met_start row start (x ∷ xs) = by (test x) (met_start row start xs)
    where
      by : (b : Bool) → met (nearer row start) xs ≡ nearer row (met start xs)
          → cond b (nearer (new x) (met (nearer row start) xs)) (met (nearer row start) xs) ≡ nearer row (cond b (nearer (new x) (met start xs)) (met start xs))
      by true e = ap (nearer (new x)) e ∙ nearer_swap (new x) row (met start xs)
      by false e = e

  -- the first row may be compared first
  pub met_turn : (start : Row) (x : A) (xs : List A) → met (cond (test x) (nearer (new x) start) start) xs ≡ met start (x ∷ xs)
  met_turn start x xs = by (test x)
    where
      by : (b : Bool) → met (cond b (nearer (new x) start) start) xs ≡ cond b (nearer (new x) (met start xs)) (met start xs)
      by true = met_start (new x) start xs
      by false = refl

  pub met_nearest : (xs : List A) → ((x : A) → Memᴰ x xs → RowLe (new x) (old x)) → ((x : A) → Memᴰ x xs → test x ≡ false → new x ≡ old x)
      → met (nearest_of (map old xs)) xs ≡ nearest_of (map new xs)
  met_nearest [] nears kept = refl
  met_nearest (x ∷ xs) nears kept = by (test x) refl (met_nearest xs (λ y h. nears y (Memᴰ.tail h)) (λ y h. kept y (Memᴰ.tail h)))
    where
      start : Row
      start = nearest_of (map old xs)

      by : (b : Bool) → test x ≡ b → met start xs ≡ nearest_of (map new xs)
          → cond b (nearer (new x) (met (nearer (old x) start) xs)) (met (nearer (old x) start) xs) ≡ nearer (new x) (nearest_of (map new xs))
      by true e later =
          ap (nearer (new x)) (met_start (old x) start xs ∙ ap (nearer (old x)) later)
          ∙ nearer_absorbs (new x) (old x) (nearest_of (map new xs)) (nears x (Memᴰ.head refl))
      by false e later =
          met_start (old x) start xs ∙ ap (nearer (old x)) later ∙ ap (λ (row : Row). nearer row (nearest_of (map new xs))) (sym (kept x (Memᴰ.head refl) e))

  -- entries that change nothing may be left out
  pub met_kept : (start : Row) (kept : A → Bool) (xs : List A)
      → ((x : A) → Memᴰ x xs → kept x ≡ false → (ys : List A) → cond (test x) (nearer (new x) (met start ys)) (met start ys) ≡ met start ys) → met start (keep kept xs) ≡ met start xs
  met_kept start kept [] needless = refl
  met_kept start kept (x ∷ xs) needless = by (kept x) refl (met_kept start kept xs (λ y h. needless y (Memᴰ.tail h)))
    where
      by : (b : Bool) → kept x ≡ b → met start (keep kept xs) ≡ met start xs
          → met start (cond b (x ∷ keep kept xs) (keep kept xs)) ≡ cond (test x) (nearer (new x) (met start xs)) (met start xs)
      by true e later = ap (λ (row : Row). cond (test x) (nearer (new x) row) row) later
      by false e later = later ∙ sym (needless x (Memᴰ.head refl) e xs)

  -- no later than any that the test shows
  met_le : (start : Row) (x : A) (xs : List A) → Memᴰ x xs → test x ≡ true → RowLe (met start xs) (new x)
  met_le start x [] h e = absurd (Memᴰ.not-nil h)
  met_le start x (y ∷ xs) h e = ⊎_elim (λ same. here same) (λ later. there later (test y) (met_le start x xs later e)) (Memᴰ.cases_cons h)
    where
      rest : Row
      rest = met start xs

      here : x ≡ y → RowLe (cond (test y) (nearer (new y) rest) rest) (new x)
      here same =
          subst⁻¹ (λ (z : A). RowLe (cond (test y) (nearer (new y) rest) rest) (new z)) same
          (subst⁻¹ (λ (b : Bool). RowLe (cond b (nearer (new y) rest) rest) (new y)) (ap test (sym same) ∙ e) (nearer_is (new y) rest).left)

      there : Memᴰ x xs → (b : Bool) → RowLe rest (new x) → RowLe (cond b (nearer (new y) rest) rest) (new x)
      there later true le = le_trans (nearer (new y) rest) rest (new x) (nearer_is (new y) rest).right le
      there later false le = le

  -- one that is compared anyway may be compared before
  pub met_again : (start : Row) (x : A) (xs : List A) → Memᴰ x xs → met start (x ∷ xs) ≡ met start xs
  met_again start x xs h = by (test x) refl
    where
      by : (b : Bool) → test x ≡ b → cond b (nearer (new x) (met start xs)) (met start xs) ≡ met start xs
      by true e = nearer_kept (new x) (met start xs) (met_le start x xs h e)
      by false e = refl
