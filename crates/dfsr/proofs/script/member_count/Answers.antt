use Rattle.std.proofs.Common.{◌∙◌, rules}
use Rattle.std.proofs.lemmas.Iterator.{YieldsList-from_slice}
use Rattle.std.proofs.lemmas.Iterator.Consumers.{YieldsList-from_filter, count_from_yields_List}
use Rattle.std.proofs.lemmas.List.Sums.{length-filter}
use Rattle.dfsr.specs.Answers.{makes_member}
use Rattle.dfsr.proofs.script.member_count.Goals as goal

pub returns : goal.returns
returns c =
    count_from_yields_List c.filter.result c.count.result c.count.ensures.ran
    (YieldsList-from_filter _ makes_member (YieldsList-from_slice c.args.lines.now (cc)) c.filter.ensures.closure (λ x b q h. search rules))
    ∙ length-filter makes_member c.args.lines.now
