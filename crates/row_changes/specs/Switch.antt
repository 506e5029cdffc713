-- One vertex becomes active or inactive, and what rows show of it.
use Rattle.std.specs.Prelude.{◌≡◌, ◌≢◌, Bool, cond, ℕ, ltb}
use Rattle.words.specs.Limits.{FAR}
use Rattle.rows.specs.declared.Row.{Row}
use Rattle.rows.specs.Row.{empty_row}

-- `after` is `before` with v active (`is` true: v arrives) or inactive (`is` false: v departs)
pub record Switched (v : ℕ) (is : Bool) (before after : ℕ → Bool) : Type 0 where
  pub here : after v ≡ is
  pub elsewhere : (u : ℕ) → u ≢ v → before u ≡ after u

-- what vertex v shows at distance d: nothing where d is FAR
unfoldable pub seen : ℕ → ℕ → Row
seen v d = cond (ltb d FAR) (record { vertex = v; distance = d }) empty_row
