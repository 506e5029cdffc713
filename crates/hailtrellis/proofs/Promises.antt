-- What the contracts of the eight calls promise together, each promise proved. A run (`crates/calls/specs/Run.antt`) has the outcome record that
-- each call's contract ensures, so these hold for every run of the calls of this crate.
-- Assumes nothing.
use mathlib.Core.Path.{◌≡◌}
use mathlib.Core.Bool.{true}
use mathlib.Core.List.{List}
use Prim.Native.Nat.{ℕ}
use Rattle.std.specs.Prelude.{Result}
use Rattle.words.specs.Lists.{word}
use Rattle.fleet.specs.declared.Change.{Change}
use Rattle.fleet.specs.Look.{Look}
use Rattle.fleet.specs.Change.{in_range}
use Rattle.fleet.specs.Question.{question_in_range}
use Rattle.answers.specs.declared.Refusal.{Refusal}
use Rattle.answers.specs.Answered.{answered}
use Rattle.answers.proofs.Determined.{answered_same}
use Rattle.calls.specs.Outcome.{Opened, Changed, Asked, Looked}
use Rattle.calls.specs.Promise.{MemoryOfRun, RowsOfRun, BeyondOfRun, RefusedKeeps, QuestionOfRun, ClaimOfRun, RoadOfRun, StampsOfRun, DistanceOfRun, Determinate, DeterminateOfRun}
use Rattle.calls.proofs.Run as run
use Rattle.calls.proofs.Rows as rows
use Rattle.calls.proofs.Kept as kept
use Rattle.calls.proofs.Stamps as stamps
use Rattle.calls.proofs.Ways as ways
use Rattle.calls.proofs.Question as question
use Rattle.calls.proofs.Claim as claim
use Rattle.calls.proofs.Road as road
use Rattle.calls.proofs.Determined as determined

-- Demand 1: a refused call leaves everything lent to it as before.
pub refused_keeps : RefusedKeeps
refused_keeps = kept.refused_keeps

-- Demand 2: after any run each distance is the least weight of a walk, and each row is as defined for the fleet of that moment.
pub rows_of_run : RowsOfRun
rows_of_run = rows.rows_of_run

-- Demand 3: the memory after a run is that of the fleet that its events tell: places, holders, stamps and the count.
pub memory_of_run : MemoryOfRun
memory_of_run = run.memory_of_run

pub beyond_of_run : BeyondOfRun
beyond_of_run = kept.beyond_of_run

-- Demands 2 and 3: the list of an accepted question.
pub question_of_run : QuestionOfRun
question_of_run = question.question_of_run

-- Demand 3: a well-formed claim is accepted exactly if the van is present and free, the stamp is that of its latest accepted change, and the
-- change count is not used up.
pub claim_of_run : ClaimOfRun
claim_of_run = claim.claim_of_run

-- A lookup tells that a road of the map runs there, that one runs only the other way, or that neither does.
pub road_of_run : RoadOfRun
road_of_run = road.road_of_run

-- Each stamp of a run is given once: of two accepted changes the later has the higher one.
pub stamps_of_run : StampsOfRun
stamps_of_run = stamps.stamps_of_run

-- A van's distance is at most 4,096,000,000.
pub distance_of_run : DistanceOfRun
distance_of_run = ways.distance_of_run

-- Any two outcomes that a contract allows are equal, the reply of the code and what the call leaves behind: of an opening always, and of a change, of a
-- question and of a lookup where the memory has no opened head, a number is out of its range, or the memory shows a map and a fleet.
module _ (r t : Result ℕ Refusal) (k l : List ℕ) where
  pub open_determined : (bytes mem : List ℕ) (start : ℕ) → Opened bytes mem start (answered r) k → Opened bytes mem start (answered t) l → (r ≡ t) × (k ≡ l)
  open_determined bytes mem start x y =
      let same = determined.opening_determined bytes mem start (answered r) (answered t) k l x y in (answered_same r t same.0, same.1)

  pub change_determined : (c : Change) (mem : List ℕ) → Determinate mem (in_range c) → Changed c mem (answered r) k → Changed c mem (answered t) l → (r ≡ t) × (k ≡ l)
  change_determined c mem known x y =
      let same = determined.change_determined c mem known (answered r) (answered t) k l x y in (answered_same r t same.0, same.1)

  pub question_determined : (x n : ℕ) (mem out : List ℕ) → Determinate mem (question_in_range (word mem 2) x n)
      → Asked mem x n out (answered r) k → Asked mem x n out (answered t) l → (r ≡ t) × (k ≡ l)
  question_determined x n mem out known u v =
      let same = determined.question_determined x n mem out known (answered r) (answered t) k l u v in (answered_same r t same.0, same.1)

-- A lookup leaves nothing behind but its reply.
pub look_determined : (r t : Result ℕ Refusal) (l : Look) (mem : List ℕ) → Determinate mem true → Looked l mem (answered r) → Looked l mem (answered t) → r ≡ t
look_determined r t l mem known x y = answered_same r t (determined.look_determined l mem known (answered r) (answered t) x y)

-- Whatever part of its memory is lent, a run has no other memory than that.
pub determinate_of_run : DeterminateOfRun
determinate_of_run = determined.determinate_of_run
