-- `write_map` shows the map, measures it, and writes its sections.
-- Assumes nothing.
use mathlib.Core.Path.{sym, subst}
use Rattle.maps.proofs.Judged.{judged_sound}
use Rattle.counts.specs.declared.Counts.{Counts}
use Rattle.opening_sections.specs.Counted.{Counted}
use Rattle.opening_map.proofs.Given.{given_map, shown_by}
use Rattle.opening_map.proofs.write_map.Goals as goal

pub returns : goal.returns
returns c =
    let args = c.args in
    let shown = c.show.new.self in
    let read = c.show.ensures in
    λ m judged counted long.
    let given = given_map args.map.now m args.found.counts args.found.need shown judged counted read.counts read.parts read.roads in
    let measured = c.take.ensures.2 m _ given in
    c.write_sections.ensures m
    (shown_by m shown c.take.new.self args.found.need given (judged_sound args.map.now m judged) (subst (λ (k : Counts). Counted m k.vertices k.roads k.parts args.found.need) (sym read.counts) counted) measured.0 measured.1) long
