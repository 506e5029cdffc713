-- `row_departures::list_sources` lists the sources of `filled`.
use mathlib.Core.Path.{◌≡◌, ◌∙◌, ap}
use Prim.Native.Nat.{◌+◌, ◌-◌, ◌*◌}
use lib.Dec.{ltb}
use Rattle.words.specs.Limits.{FAR}
use Rattle.rows.specs.declared.Row.{Row}
use Rattle.row_words.specs.Words.{source_in}
use Rattle.row_departures.specs.Departure.{filled, keyed, source_of}
use Rattle.listing.proofs.Turns.{listed_first, listed_turn, listed_done}
use Rattle.row_departures.proofs.Listed.{listed_sound}
use native.Mathlib.Omega.{arith}
use borrow.Author.Rules.{rules}
use Rattle.row_departures.proofs.list_sources.Goals as goal

pub loop-i-init : goal.loop-i-init
unfolding filled
loop-i-init c =
    (search rules, omega arith, listed_first (λ j. ltb (source_in c.args.mem.now (c.args.part.first + 4 * j)).distance FAR) (source_of c.args.mem.now c.args.part.first c.args.part.size) c.args.sources.now c.args.part.size)

pub loop-i-preserved : goal.loop-i-preserved
loop-i-preserved c =
    let below : c.source-below.result ≡ source_in c.args.mem.now (c.args.part.first + 4 * c.loop-i.i) = c.source-below.ensures ∙ ap (source_in c.args.mem.now) c.row.ensures in (
      search rules,
      omega (arith, c.more-n.ensures.1),
      listed_turn (λ j. ltb (source_in c.args.mem.now (c.args.part.first + 4 * j)).distance FAR) c.loop-i.sources (c.args.part.size - c.loop-i.i) (c.args.part.size - (c.loop-i.i + 1)) c.loop-i.i c.loop-i.n c.more-n.result (record { key = c.key.result; step = c.args.part.size * c.loop-i.i }) (ltb c.source-below.result.distance FAR) (omega arith) (omega arith) (ap (λ (s : Row). ltb s.distance FAR) below) c.more-n.ensures.0 (source_of c.args.mem.now c.args.part.first c.args.part.size) (λ t. record { key = (c.key.ensures ∙ ap keyed below) t; step = c.args.part.size * c.loop-i.i })
          ∙ c.loop-i.invariant.2,
    )

pub returns-clause-listed : goal.returns-clause-listed
returns-clause-listed c =
    listed_done (λ j. ltb (source_in c.args.mem.now (c.args.part.first + 4 * j)).distance FAR) c.loop-i.sources _ (c.args.part.size - c.loop-i.i) c.loop-i.i c.loop-i.n (omega arith) (source_of c.args.mem.now c.args.part.first c.args.part.size) c.loop-i.invariant.2

pub returns-clause-sound : goal.returns-clause-sound
returns-clause-sound c = listed_sound c.args.mem.now c.args.part.first c.args.part.size (λ k. omega (arith, c.type_inv.mem k)) _ (returns-clause-listed c)
