-- What reading and writing leave of where the program stands.
use Rattle.std.specs.Prelude.{◌≡◌, ℕ}
use Rattle.desk_run.specs.declared.Desk.{Desk}
use Rattle.desk_run.specs.Desk.{Fed, InWindow}
use Rattle.desk_steps.specs.Step.{Room}

-- after reading, the window of so many bytes shows enough
pub record FedFrom (s r : Desk) (size : ℕ) : Type 0 where
  pub stands : InWindow r size
  pub fed : Fed r
  pub out : r.out ≡ s.out
  pub place : r.place ≡ s.place
  pub over : r.over ≡ s.over

-- after writing, the buffer of so many bytes has room
pub record Relieved (s r : Desk) (lines : ℕ) : Type 0 where
  pub from : r.from ≡ s.from
  pub to : r.to ≡ s.to
  pub place : r.place ≡ s.place
  pub ended : r.ended ≡ s.ended
  pub over : r.over ≡ s.over
  pub none : s.out ≡ 0 → r.out ≡ 0
  pub room : Room r.out lines
