-- `row_arrivals::meet_led` is `arrived` for these numbers, a nearest one before them, and says `any_news`.
use Rattle.row_arrivals.proofs.Sources.{lead_within, led_arrived}
use Rattle.listing.proofs.Turns.{entry_below}
use native.Mathlib.Omega.{arith}
use Rattle.row_arrivals.proofs.meet_led.Goals as goal

pub meet-any-requires-clause-is_row : goal.meet-any-requires-clause-is_row
meet-any-requires-clause-is_row c =
    omega (
      arith,
      c.nearest_number-nearest.ensures,
      lead_within c.args.mem.now c.args.part.first c.args.part.size c.args.part.few c.requires.some c.args.numbers.now (entry_below c.args.part.size c.args.numbers.now c.requires.are_rows),
    )

pub returns : goal.returns
returns c =
    led_arrived c.args.numbers.now c.args.mem.now _ _ c.args.part.first c.args.part.table c.args.part.size c.args.v _ _ _ c.nearest_number-nearest.ensures c.meet-any.ensures c.meet_all.ensures
