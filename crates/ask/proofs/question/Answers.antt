-- `question` has the outcome of a question: unopened, out of range, too little room, or the list.
-- Assumes nothing.
use mathlib.Core.Path.{sym, ap, ◌∙◌}
use Prim.Native.Nat.{ℕ}
use native.Mathlib.Omega.{arith}
use lib.ListN.{length}
use Rattle.std.proofs.Math.ListN.{length-map}
use Rattle.std.proofs.lemmas.Result.{err_from_is_err_and}
use Rattle.fleet.specs.Question.{question_in_range}
use Rattle.ask.proofs.Gate.{asked_unopened, asked_range, asked_small, asked_listed}
use Rattle.van_offers.specs.Genuine.{list_in}
use Rattle.ask.proofs.question.Goals as goal

pub returns-in_err-used : goal.returns-in_err-used
returns-in_err-used c =
    let p = err_from_is_err_and c.from_residual.result c.from_residual.ensures.1 in
    rw (p.1, p.2) (asked_unopened _ _ _ _ _ c.in_err-used.ensures.used)

pub returns-then-not-in_range : goal.returns-then-not-in_range
returns-then-not-in_range c =
    asked_range _ _ _ _ _ c.in_ok-used.ensures.used (sym (ap (λ (n : ℕ). question_in_range n c.args.vertex c.args.k) c.word.ensures) ∙ sym c.in_range.ensures ∙ c.if-not-in_range.true)

pub returns-then-answer-most : goal.returns-then-answer-most
returns-then-answer-most c =
    asked_small _ _ _ _ _ c.in_ok-used.ensures.used (sym (ap (λ (n : ℕ). question_in_range n c.args.vertex c.args.k) c.word.ensures) ∙ sym c.in_range.ensures ∙ c.if-not-in_range.false) (omega (arith, c.if-answer-most.true))

pub returns : goal.returns
returns c =
    let fits = sym (ap (λ (n : ℕ). question_in_range n c.args.vertex c.args.k) c.word.ensures) ∙ sym c.in_range.ensures ∙ c.if-not-in_range.false in
    let same = ap length c.offers-len.ensures.offers in
    asked_listed _ _ _ _ _ c.in_ok-used.ensures.used fits (list_in _ c.nearest_vans-best.result) _ _ (same ∙ sym (length-map c.nearest_vans-best.result.offers _)) (omega arith) (omega (arith, same, c.nearest_vans-best.ensures.0)) c.nearest_vans-best.ensures.1 c.write_list.ensures
