-- Within one opening no stamp is given twice: each is the change count of its moment.
-- Assumes nothing.
use mathlib.Core.Path.{◌≡◌, sym, subst}
use mathlib.Core.Logic.{⊎_elim}
use mathlib.Core.List.{List, [], ◌∷◌, ◌++◌}
use Prim.Native.Nat.{ℕ, ◌+◌, ◌≤◌, ◌<◌}
use native.Mathlib.Omega.{arith}
use lib.ListN.{take}
use Rattle.words.proofs.Tests.{true_or_false}
use Rattle.roads.specs.Map.{Map}
use Rattle.fleet.specs.State.{State}
use Rattle.fleet.specs.declared.Change.{Change}
use Rattle.fleet.specs.Change.{refused, accepted}
use Rattle.fleet.proofs.Stamps.{stamp_is_count}
use Rattle.calls.specs.Head.{opened}
use Rattle.calls.specs.Outcome.{Changed}
use Rattle.calls.specs.Run.{Event, changed, asked, looked, not_opened, Outcome, Run, opens, calls, Done, done_by, count_told, state_told}
use Rattle.calls.specs.Promise.{StampsOfRun}
use Rattle.calls.proofs.Head.{lent_shown}
use Rattle.calls.proofs.Run.{memory_of_run}

-- each stamp is the count that its change led to
data Stamped (start : ℕ) : List Done → Type 0 where
  none : Stamped start []
  more : {d : Done} {ds : List Done} → d.stamp ≡ count_told start ds + 1 → Stamped start ds → Stamped start (d ∷ ds)

module _ (start : ℕ) where
  -- no stamp is above the count after it
  stamp_below : (between : List Done) (d : Done) (before : List Done) → Stamped start (between ++ d ∷ before) → d.stamp ≤ count_told start (between ++ d ∷ before)
  unfolding count_told
  stamp_below [] d before (more is rest) = omega arith
  stamp_below (e ∷ between) d before (more is rest) = omega (arith, stamp_below between d before rest)

  stamps_rise : (after between before : List Done) (later earlier : Done) → Stamped start (after ++ later ∷ between ++ earlier ∷ before) → earlier.stamp < later.stamp
  stamps_rise [] between before later earlier (more is rest) = omega (arith, is, stamp_below between earlier before rest)
  stamps_rise (d ∷ after) between before later earlier (more is rest) = stamps_rise after between before later earlier rest

  module _ (m : Map) where
    -- an accepted change of a run gives the count and 1
    given : {es : List Event} {mem : List ℕ} (c : Change) (stamp lent : ℕ) (mem' : List ℕ) → Run m start es mem → Changed c (take lent mem) (accepted stamp) mem'
        → stamp ≡ count_told start (done_by es) + 1
    unfolding state_told
    given {es} {mem} c stamp lent mem' run out =
        ⊎_elim
        (λ head. (stamp_is_count m s c stamp (sym (out.genuine m s (lent_shown (memory_of_run m start es mem run) lent head)).0)).0)
        (λ shut. let z : ◌≡◌ {A = ℕ} 0 1 = clash (out.screened.unopened shut) in absurd (omega arith))
        (true_or_false (opened (take lent mem)))
      where
        s : State
        s = state_told m start (done_by es)

        clash : accepted stamp ≡ refused 6 → ◌≡◌ {A = ℕ} 0 1
        clash a = cc

    one_more : {es : List Event} {mem : List ℕ} (e : Event) (lent : ℕ) (mem' : List ℕ) → Run m start es mem → Outcome e (take lent mem) mem' → Stamped start (done_by es)
        → Stamped start (done_by (e ∷ es))
    unfolding done_by
    one_more (changed c (accepted stamp)) lent mem' run out before = more (given c stamp lent mem' run out) before
    one_more (changed c (refused n)) lent mem' run out before = before
    one_more (asked x k words answer words') lent mem' run out before = before
    one_more (looked l answer) lent mem' run out before = before
    one_more (not_opened bytes first n) lent mem' run out before = before

    stamped : {es : List Event} {mem : List ℕ} → Run m start es mem → Stamped start (done_by es)
    unfolding done_by
    stamped (opens bytes mem mem' judged fits out) = none
    stamped (calls e lent mem' run out) = one_more e lent mem' run out (stamped run)

pub stamps_of_run : StampsOfRun
stamps_of_run m start es mem run after between before later earlier is = stamps_rise start after between before later earlier (subst (Stamped start) is (stamped start m run))
