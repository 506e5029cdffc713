-- `row_arrivals::meet` is `met`, and says whether the source was offered.
use mathlib.Core.Path.{◌≡◌, ◌∙◌}
use Rattle.rows.specs.Row.{comes_before}
use Rattle.row_arrivals.proofs.Sources.{news_other, news_is, met_yes, met_no}
use borrow.Author.Rules.{rules}
use Rattle.row_arrivals.proofs.meet.Goals as goal
use Rattle.row_arrivals.proofs.meet.Goals.{else-seen-v-via-then-seen-v+else-lt, else-seen-v-via-else-seen-v}

pub returns-then-lt : goal.returns-then-lt
returns-then-lt c =
    let tested : c.lt.result ≡ comes_before c.source-seen.result c.showing-shown.result = search rules in
    met_yes c.args.mem.now c.args.v _ _ _ _ c.row-row.ensures c.source-seen.ensures c.showing-shown.ensures c.args.part.first c.args.part.size _ _ _ c.line.ensures c.if-seen-v.true
    (news_is c.args.mem.now c.args.v _ _ _ _ c.row-row.ensures c.source-seen.ensures c.showing-shown.ensures _ c.if-seen-v.true tested ∙ c.if-lt.true) c.spread_line.ensures

pub returns-else-seen-v : goal.returns-else-seen-v
returns-else-seen-v c =
    met_no c.args.mem.now c.args.v _ _ _ _ c.row-row.ensures c.source-seen.ensures c.showing-shown.ensures c.args.part.first c.args.part.size _
    (elim c.else-seen-v.branch [
      | else-seen-v-via-then-seen-v+else-lt w ↦
          let tested : w.lt.result ≡ comes_before c.source-seen.result c.showing-shown.result = search rules in
          news_is c.args.mem.now c.args.v _ _ _ _ c.row-row.ensures c.source-seen.ensures c.showing-shown.ensures _ w.if-seen-v.true tested ∙ w.if-lt.false
      | else-seen-v-via-else-seen-v w ↦ news_other c.args.mem.now c.args.v _ _ _ _ c.row-row.ensures c.source-seen.ensures c.showing-shown.ensures w.if-seen-v.false
    ])
