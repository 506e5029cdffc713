-- `open` goes by the judgement of the map, and then by the memory's length.
-- Assumes nothing.
use lib.Seq.{length-take-le}
use Rattle.std.proofs.lemmas.Result.{err_from_is_err_and}
use Rattle.map_judge.proofs.Said.{said_sound, said_refused}
use Rattle.maps.proofs.Judged.{judged_sound}
use Rattle.opening.proofs.Whole.{sections_laid, filled_image}
use Rattle.opening.proofs.Outcome.{counted, counts_small, opened_refused, opened_small, opened_whole}
use Rattle.opening.proofs.open.Goals as goal

pub returns-in_err-found : goal.returns-in_err-found
returns-in_err-found c =
    let refused = err_from_is_err_and c.from_residual.result c.from_residual.ensures.1 in
    let a = said_refused c.args.map.now _ c.in_err-found.ensures in
    rw (refused.1, refused.2) (opened_refused c.args.map.now c.args.memory.now c.args.start a.number _ a.judged a.is)

pub returns-then-memory-need : goal.returns-then-memory-need
returns-then-memory-need c =
    let a = said_sound c.args.map.now c.in_ok-found.found c.in_ok-found.ensures in
    opened_small c.args.map.now c.args.memory.now c.args.start a.map _ a.judged a.need_is c.if-memory-need.true

pub write_map-requires : goal.write_map-requires
write_map-requires c =
    counts_small (said_sound c.args.map.now c.in_ok-found.found c.in_ok-found.ensures)

pub returns : goal.returns
returns c =
    let found = c.in_ok-found.found in
    let a = said_sound c.args.map.now found c.in_ok-found.ensures in
    let stand = c.write_map.ensures a.map a.judged (counted a) (length-take-le _ _ c.if-memory-need.false) in
    opened_whole c.args.map.now c.args.memory.now c.args.start a.map found.need _ a.judged a.need_is c.if-memory-need.false
    (filled_image a.map c.args.start _ stand _ (c.fill_tables.ensures.filled a.map (sections_laid a.map c.args.start _ stand (judged_sound c.args.map.now a.map a.judged))))
