-- `open_up` gives a part's rows their distances, and its children their keys.
-- Assumes nothing.
use mathlib.Core.Path.{◌≡◌, sym, ap, subst}
use Prim.Native.Nat.{◌+◌}
use native.Mathlib.Omega.{arith}
use Rattle.row_lists.specs.Rows.{is_asked}
use Rattle.row_lists.proofs.Rows.{apart_named}
use Rattle.row_distances.proofs.Relaxing.{closer_asked}
use Rattle.listing.specs.Lists.{Among}
use Rattle.part_keys.specs.Keys.{far_count}
use Rattle.part_keys.specs.Spread.{Spreads}
use Rattle.part_keys.specs.declared.waiting.PartsWaiting.{PartsWaiting}
use Rattle.part_bounds.proofs.Opening.{spread_kept, known_kept, spread_asked, spread_listed, opened_of}
use borrow.Author.Rules.{rules}
use Rattle.part_bounds.proofs.open_up.Goals as goal
use Rattle.part_bounds.proofs.open_up.Goals.{then-not-all, else-not-all}

pub spread_known-requires : goal.spread_known-requires
unfolding is_asked
spread_known-requires c =
    let looked = c.look.ensures (is_asked c.args.all c.args.mem.now c.in-Some.part.first c.args.dx.now) (λ i is h e. search rules) in
    (c.in-Some.ensures.within.rows, λ t h. (looked.knows.only t h).0)

pub relax_spread-requires : goal.relax_spread-requires
unfolding is_asked
relax_spread-requires c =
    let looked = c.look.ensures (is_asked c.args.all c.args.mem.now c.in-Some.part.first c.args.dx.now) (λ i is h e. search rules) in
    (c.in-Some.ensures.within, (c.args.all, looked))

pub returns : goal.returns
unfolding is_asked
returns c =
    let mem = c.args.mem.now in
    let part = c.in-Some.ensures in
    let looked = c.look.ensures (is_asked c.args.all mem c.in-Some.part.first c.args.dx.now) (λ i is h e. search rules) in (
      elim c.if-not-all.branch [
        | then-not-all w ↦ omega (arith, ap (λ (a : PartsWaiting). far_count a.keys + a.n) w.waiting-is, w.spread_known.ensures.0, c.relax_spread.ensures.0)
        | else-not-all w ↦ omega (arith, ap (λ (a : PartsWaiting). far_count a.keys + a.n) w.waiting-is, c.relax_spread.ensures.0)
      ],
      λ f.
          let apart = apart_named mem (sym part.first_is) (sym part.size_is) f.apart in
          let (closer, spread) = c.relax_spread.ensures.1 apart in
          let from = λ (a : PartsWaiting) (same : c.if-not-all.waiting ≡ a). subst (λ (b : PartsWaiting). Spreads mem c.in-Some.part.first c.relax_spread.new.dx (Among c.look.new.lists.asked c.look.new.lists.count) b c.relax_spread.new.waiting) same spread in
          opened_of c.args.part c.args.waiting.now c.relax_spread.new.waiting part (closer_asked c.args.all looked closer)
          (elim c.if-not-all.branch [
            | then-not-all w ↦
                spread_listed c.args.all looked (spread_kept _ (known_kept c.args.all looked apart closer) (w.spread_known.ensures.1 c.args.dx.now looked.nears)) (from w.spread_known.new.waiting w.waiting-is) w.if-not-all.true
            | else-not-all w ↦ spread_asked c.args.all looked apart w.if-not-all.false (from c.args.waiting.now w.waiting-is)
          ]),
    )
