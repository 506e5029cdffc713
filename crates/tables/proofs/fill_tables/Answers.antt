-- `tables::fill_tables` meets its contract.
-- Assumes nothing.
use borrow.Author.Rules.{rules}
use native.Mathlib.Omega.{arith}
use mathlib.Core.Path.{◌∙◌}
use Rattle.assembly.proofs.Descent.{filled}
use Rattle.tables.proofs.fill_tables.Goals as goal

pub returns : goal.returns
returns c =
    record { filled = filled _ _ _ _ (λ x. omega (arith, c.type_inv.mem x)) (search rules) c.rise_parts.ensures.risen c.descend_parts.ensures.descended; mem_len_unchanged = c.descend_parts.ensures.mem_len_unchanged ∙ c.rise_parts.ensures.mem_len_unchanged }
