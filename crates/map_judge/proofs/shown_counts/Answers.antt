-- `shown_counts` keeps the order of the refusals.
-- Assumes nothing.
use mathlib.Core.Path.{refl, sym, ◌∙◌}
use Rattle.map_judge.proofs.Rules.{judge_by}
use Rattle.map_judge.proofs.shown_counts.Goals as goal

pub returns-then-not-is_record-clause-refused : goal.returns-then-not-is_record-clause-refused
returns-then-not-is_record-clause-refused c = judge_by _ c.is_record.ensures c.if-not-is_record.true refl refl refl refl refl

pub returns-then-not-fit-clause-refused : goal.returns-then-not-fit-clause-refused
returns-then-not-fit-clause-refused c = judge_by _ c.is_record.ensures c.if-not-is_record.false c.counts_of-counts.ensures.0 c.fit.ensures c.if-not-fit.true refl refl

pub returns-then-not-records_fit-clause-refused : goal.returns-then-not-records_fit-clause-refused
returns-then-not-records_fit-clause-refused c =
    judge_by _ c.is_record.ensures c.if-not-is_record.false c.counts_of-counts.ensures.0 c.fit.ensures c.if-not-fit.false c.records_fit.ensures c.if-not-records_fit.true

pub returns-clause-shown : goal.returns-clause-shown
returns-clause-shown c =
    record {
      is_first = sym c.is_record.ensures ∙ c.if-not-is_record.false;
      shown = c.counts_of-counts.ensures.0;
      fit = sym c.fit.ensures ∙ c.if-not-fit.false;
      rest = sym c.records_fit.ensures ∙ c.if-not-records_fit.false;
    }
