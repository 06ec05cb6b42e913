use Rattle.std.proofs.Common.{◌≡◌, ◌∙◌, arith, sym}
use Rattle.std.proofs.lemmas.Result.{IfOk-weaker}
use Rattle.frswire.specs.Rows.{HasNoLineFeed}
use Rattle.frswire.specs.Steps.{IsAt, IsNext}
use Rattle.frswire.proofs.Feeds.{feeds_at, no_feed}
use Rattle.frswire.proofs.Nexts.{is_next}
use Rattle.frswire.proofs.rows.next.Goals as goal

pub end_at-requires : goal.end_at-requires
end_at-requires c = no_feed c.args.bytes.now (sym c.line_feed.ensures ∙ c.in-None.is)

pub row_at-requires : goal.row_at-requires
row_at-requires c = (feeds_at c.args.bytes.now c.in-Some.at (sym c.line_feed.ensures ∙ c.in-Some.is)).lacks

pub returns-in-Some : goal.returns-in-Some
returns-in-Some c =
    let feeds = feeds_at c.args.bytes.now c.in-Some.at (sym c.line_feed.ensures ∙ c.in-Some.is) in
    IfOk-weaker c.row_at.result _ (λ next. IsNext next c.args.bytes.now) (λ next is. is_next next c.args.bytes.now _ c.in-Some.at feeds (grind arith) is) c.row_at.ensures
