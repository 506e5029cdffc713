-- `tables::descend` meets its contract.
-- Assumes nothing.
use mathlib.Core.Path.{◌∙◌}
use Rattle.assembly.proofs.Descent.{descended_step}
use Rattle.tables.proofs.descend.Goals as goal

pub returns : goal.returns
returns c =
    record { descended = descended_step _ _ _ _ c.agree.ensures.agreed c.enter_rows.ensures.entered; mem_len_unchanged = c.enter_rows.ensures.mem_len_unchanged ∙ c.agree.ensures.mem_len_unchanged }
