use Rattle.row_refresh.proofs.+refresh_up.Given as goal

-- The measure: how many parts may still stand above.
abbrev pub decreases-refresh_up : goal.decreases-refresh_up
decreases-refresh_up l = l.levels
