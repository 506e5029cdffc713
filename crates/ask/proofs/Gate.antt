-- A question on the words used of a memory, as a question on the whole of it.
-- Assumes nothing.
use mathlib.Core.Path.{◌≡◌, refl, sym, ap, ◌∙◌}
use mathlib.Core.Bool.{Bool, true, false}
use mathlib.Core.List.{List, ◌++◌}
use Prim.Native.Nat.{ℕ, ◌*◌, ◌≤◌, ◌<◌}
use native.Mathlib.Omega.{arith}
use lib.ListN.{length, take, drop, length-append, length-drop}
use lib.Dec.{leb, ltb}
use borrow.Author.Tests.{ltb-true, le-leb, lt-leb}
use Rattle.std.specs.Prelude.{Ok, Err}
use Rattle.words.specs.Limits.{most_asked}
use Rattle.words.specs.Lists.{word, gather}
use Rattle.words.specs.Tests.{◌unless◌then◌}
use Rattle.words.proofs.Tests.{clash, both_true, within_true}
use Rattle.words.proofs.Lists.{sum_same, gather_length}
use Rattle.layout.specs.Layout.{vertices_in_head}
use Rattle.roads.specs.Map.{Map}
use Rattle.fleet.specs.State.{State}
use Rattle.fleet.specs.Change.{accepted}
use Rattle.fleet.specs.Question.{Listed, listed_words, nearest, question_in_range, question_refusal, Response, list_into, reply_by, reply}
use Rattle.answers.specs.declared.Refusal.{Refusal}
use Rattle.answers.specs.declared.Refusal.TheVariants.{OutOfRange, TooFewWords}
use Rattle.answers.specs.Answered.{answered}
use Rattle.calls.specs.Head.{Shows}
use Rattle.calls.specs.Outcome.{Asked}
use Rattle.calls.proofs.Head.{vertices_word, shown_opened}
use Rattle.calls.proofs.Screen.{screened_unopened, screened_range, screened_neither}
use Rattle.head.specs.Used.{used_words}
use Rattle.head.proofs.Used.{Used, used_there, unused, used_shown}
use Rattle.van_offers.specs.Genuine.{Genuine}
use Rattle.question.specs.Kept.{list_written}

pub asked_few : (vertices x k : ℕ) → question_in_range vertices x k ≡ true → (x < vertices) × (1 ≤ k) × (k ≤ 32)
asked_few vertices x k e =
    let both = both_true (ltb x vertices) _ e in
    let w = within_true 1 most_asked k both.1 in
    (ltb-true x vertices both.0, w.0, w.1)

module _ (mem : List ℕ) (x k : ℕ) (out : List ℕ) where
  pub asked_unopened : (refusal : Refusal) → Err refusal ≡ used_words mem → Asked mem x k out (answered (Err refusal)) out
  asked_unopened refusal e =
      let not_opened = unused mem refusal e in
      rw not_opened.1
      (record {
        screened = screened_unopened not_opened.0;
        genuine = λ m s shows. absurd (clash (shown_opened shows) not_opened.0);
        refusal = λ n same. refl;
        size = refl;
      })

  -- what a question with a refusal gets
  refused_reply : (m : Map) (s : State) (n : ℕ) → question_refusal m.vertices x k (length out) ≡ n → reply m s x k out ≡ reply_by n m s x k out
  unfolding reply
  refused_reply m s n e = ap (λ (j : ℕ). reply_by j m s x k out) e

  module _ (used : ℕ) (isUsed : Ok used ≡ used_words mem) where
    inside : Used mem used
    inside = used_there mem used isUsed

    pub asked_range : question_in_range (word mem vertices_in_head) x k ≡ false → Asked mem x k out (answered (Err OutOfRange)) out
    asked_range beyond =
        record {
          screened = screened_range inside.there beyond;
          genuine = λ m s shows.
              let r = refused_reply m s 7 (ap (λ (b : Bool). 7 unless b then 5 unless leb (3 * k) (length out) then 0) (ap (λ (v : ℕ). question_in_range v x k) (sym (vertices_word shows)) ∙ beyond)) in
              (ap (λ (p : Response). p.answer) (sym r), ap (λ (p : Response). p.words) (sym r));
          refusal = λ n e. refl;
          size = refl;
        }

    module _ (fits : question_in_range (word mem vertices_in_head) x k ≡ true) where
      fits_in : (m : Map) (s : State) → Shows m s mem → question_in_range m.vertices x k ≡ true
      fits_in m s shows = ap (λ (v : ℕ). question_in_range v x k) (sym (vertices_word shows)) ∙ fits

      pub asked_small : length out < 3 * k → Asked mem x k out (answered (Err TooFewWords)) out
      asked_small small =
          record {
            screened = screened_neither inside.there fits (λ six. omega arith, λ seven. omega arith);
            genuine = λ m s shows.
                let r = refused_reply m s 5
                (ap (λ (b : Bool). 7 unless b then 5 unless leb (3 * k) (length out) then 0) (fits_in m s shows)
                ∙ ap (λ (b : Bool). 5 unless b then 0) (lt-leb (3 * k) (length out) small)) in
                (ap (λ (p : Response). p.answer) (sym r), ap (λ (p : Response). p.words) (sym r));
            refusal = λ n e. refl;
            size = refl;
          }

      pub asked_listed : (list : List Listed) (n : ℕ) (out' : List ℕ) → n ≡ length list → 3 * k ≤ length out → n ≤ k
          → ((m : Map) (s : State) → Genuine m s (take used mem) → x < m.vertices → list ≡ nearest m s x k)
          → out' ≡ list_written list out → Asked mem x k out (answered (Ok n)) out'
      unfolding list_written list_into
      asked_listed list n out' isLength enough few right isOut =
          record {
            screened = screened_neither inside.there fits (λ six. omega arith, λ seven. omega arith);
            genuine = genuine;
            refusal = λ n e. let z : ◌≡◌ {A = ℕ} 0 1 = cc in absurd (omega arith);
            size = ap length isOut ∙ sized;
          }
        where
          sized : length (gather listed_words list ++ drop (3 * length list) out) ≡ length out
          sized =
              omega (
                arith,
                length-append (gather listed_words list) (drop (3 * length list) out),
                gather_length listed_words (λ l. 3) (λ l. refl) list ∙ sum_same 3 list,
                length-drop (3 * length list) out,
                isLength,
                few,
                enough,
              )

          genuine : (m : Map) (s : State) → Shows m s mem → (accepted n ≡ (reply m s x k out).answer) × (out' ≡ (reply m s x k out).words)
          genuine m s shows =
              let here = fits_in m s shows in
              let shown : Genuine m s (take used mem) = record { sound = shows.sound; good = shows.good; is = used_shown mem used m s inside shows } in
              let same = right m s shown (asked_few m.vertices x k here).0 in
              let r = refused_reply m s 0
              (ap (λ (b : Bool). 7 unless b then 5 unless leb (3 * k) (length out) then 0) here ∙ ap (λ (b : Bool). 5 unless b then 0) (le-leb (3 * k) (length out) enough)) in (
                ap accepted isLength ∙ ap (λ (l : List Listed). (list_into l out).answer) same ∙ ap (λ (p : Response). p.answer) (sym r),
                isOut ∙ ap (λ (l : List Listed). (list_into l out).words) same ∙ ap (λ (p : Response). p.words) (sym r),
              )
