-- `lower_rows` makes the distances less by what the table says to one row, and lists the rows that show their own vertex.
-- Assumes nothing.
use mathlib.Core.Path.{◌≡◌, refl, ap, ◌∙◌}
use Prim.Native.Nat.{◌+◌, ◌*◌}
use native.Mathlib.Omega.{arith}
use lib.ListN.{length}
use Rattle.words.specs.Lists.{word}
use Rattle.row_lists.proofs.Rows.{row_read, own_read}
use Rattle.listing.proofs.Listing.{listing_none, listing_more, listing_all}
use Rattle.far_sums.proofs.Lowering.{lowered_length}
use Rattle.row_distances.proofs.Relaxing.{owner_lowered, closer_none, own_next, own_all}
use borrow.Author.Rules.{rules}
use Rattle.row_distances.proofs.lower_rows.Goals as goal

pub loop-i-init : goal.loop-i-init
loop-i-init c = record {
  same_length = refl;
  listing = listing_none;
  closer = λ a. closer_none (λ i (h, row). absurd (omega arith));
}

pub loop-i-preserved : goal.loop-i-preserved
loop-i-preserved c =
    let mem = c.args.mem.now in
    let part = c.args.part in
    let i = c.loop-i.i in
    let here = c.loop-i-test.true in
    let at = c.line.result + c.args.place in
    let way_is : word mem at ≡ word mem (part.table + part.size * i + c.args.place) = ap (λ (k : _). word mem (k + c.args.place)) c.line.ensures in
    record {
      same_length = ap length c.lower.ensures ∙ lowered_length c.loop-i.dx _ (word mem at) ∙ c.loop-i.invariant.same_length;
      listing = listing_more c.loop-i.invariant.listing here (search rules) (own_read mem part.first i (row_read mem part.first part.size c.rows_of-rows.ensures i 1 here (omega arith))) refl c.more-count.ensures;
      closer = λ a. own_next a c.requires.0 (c.loop-i.invariant.closer a) here way_is (omega (arith, c.type_inv.mem at)) (owner_lowered mem part.first part.size i c.loop-i.dx (word mem at) c.rows_of-rows.ensures here c.lower.ensures);
    }

pub returns : goal.returns
returns c = (
  c.loop-i.invariant.same_length,
  listing_all c.loop-i.invariant.listing c.loop-i.auto.i-end c.loop-i-test.false,
  λ a. own_all a c.requires.0 c.loop-i-test.false (c.loop-i.invariant.closer a),
)
