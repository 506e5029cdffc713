-- A reply of the C functions stands for an answer by the scope's number and value.
use Rattle.std.specs.Prelude.{◌≡◌}
use Rattle.fleet.specs.Change.{Answer, number_of, value_of}
use Rattle.hailtrellis_c.specs.declared.HailtrellisReply.{HailtrellisReply}

abbrev pub reply_of : Answer → HailtrellisReply
reply_of answer = record { code = number_of answer; value = value_of answer }

-- the reply of an answer with which the outcome is as `outcome` says
pub record Replied (outcome : Answer → Type 0) (reply : HailtrellisReply) : Type 0 where
  pub answer : Answer
  pub is : reply ≡ reply_of answer
  pub right : outcome answer
