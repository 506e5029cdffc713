-- Two replies that the contracts of the C functions allow are equal, and so is what the calls leave behind, where the memory is not forged.
-- Assumes nothing.
use mathlib.Core.Path.{◌≡◌, sym, ◌∙◌, ap}
use mathlib.Core.Bool.{true}
use mathlib.Core.List.{List}
use Prim.Native.Nat.{ℕ}
use Rattle.words.specs.Lists.{word}
use Rattle.fleet.specs.declared.Change.{Change}
use Rattle.fleet.specs.Change.{Answer, in_range}
use Rattle.fleet.specs.Look.{Look}
use Rattle.fleet.specs.Question.{question_in_range}
use Rattle.calls.specs.Outcome.{Opened, Changed, Asked, Looked}
use Rattle.calls.specs.Promise.{Determinate}
use Rattle.calls.proofs.Determined as answers
use Rattle.hailtrellis_c.specs.declared.HailtrellisReply.{HailtrellisReply}
use Rattle.hailtrellis_c.specs.Replied.{reply_of, Replied}

-- what holds of the answers holds of the replies
replies_agree : (p q : Answer → Type 0) (k l : List ℕ) → ((a b : Answer) → p a → q b → (a ≡ b) × (k ≡ l)) → (r t : HailtrellisReply) → Replied p r → Replied q t → (r ≡ t) × (k ≡ l)
replies_agree p q k l agree r t x y =
    let same = agree x.answer y.answer x.right y.right in
    (x.is ∙ ap reply_of same.0 ∙ sym y.is, same.1)

module _ (r t : HailtrellisReply) (k l : List ℕ) where
  pub open_determined : (bytes mem : List ℕ) (start : ℕ) → Replied (λ a. Opened bytes mem start a k) r → Replied (λ a. Opened bytes mem start a l) t → (r ≡ t) × (k ≡ l)
  open_determined bytes mem start = replies_agree _ _ k l (λ a b x y. answers.opening_determined bytes mem start a b k l x y) r t

  pub change_determined : (c : Change) (mem : List ℕ) → Determinate mem (in_range c) → Replied (λ a. Changed c mem a k) r → Replied (λ a. Changed c mem a l) t → (r ≡ t) × (k ≡ l)
  change_determined c mem known = replies_agree _ _ k l (λ a b x y. answers.change_determined c mem known a b k l x y) r t

  pub question_determined : (x n : ℕ) (mem out : List ℕ) → Determinate mem (question_in_range (word mem 2) x n)
      → Replied (λ a. Asked mem x n out a k) r → Replied (λ a. Asked mem x n out a l) t → (r ≡ t) × (k ≡ l)
  question_determined x n mem out known = replies_agree _ _ k l (λ a b u v. answers.question_determined x n mem out known a b k l u v) r t

pub look_determined : (r t : HailtrellisReply) (l : Look) (mem : List ℕ) → Determinate mem true → Replied (Looked l mem) r → Replied (Looked l mem) t → r ≡ t
look_determined r t l mem known x y = x.is ∙ ap reply_of (answers.look_determined l mem known x.answer y.answer x.right y.right) ∙ sym y.is
