use Rattle.std.proofs.Common.{◌∙◌, sym}
use Rattle.script_lang.proofs.Lines.{four_spelled, three_spelled, two_spelled}
use Rattle.script_lang.proofs.Spaces.{split_none, split_some}
use Rattle.script_lang.proofs.reading.line_of_row.Goals as goal

pub returns-in_default-split_once : goal.returns-in_default-split_once
returns-in_default-split_once c =
    let (whole, word_none) = split_some _ _ _ _ c.split_once.ensures.cases c.in-Some.is in
    let name_none = split_none _ _ c.split_once-2.ensures.cases c.in_default-split_once.is in
    two_spelled c.args.row.now c.in-Some.word.now c.in-Some.rest.now c.in-Some-keyword_in.keyword c.line_of_two.result
    whole word_none name_none (sym c.keyword_in.ensures ∙ c.in-Some-keyword_in.is) c.line_of_two.ensures

pub returns-in_default-split_once-2 : goal.returns-in_default-split_once-2
returns-in_default-split_once-2 c =
    let (whole, word_none) = split_some _ _ _ _ c.split_once.ensures.cases c.in-Some.is in
    let (more, name_none) = split_some _ _ _ _ c.split_once-2.ensures.cases c.in-Some-split_once.is in
    let third_none = split_none _ _ c.split_once-3.ensures.cases c.in_default-split_once-2.is in
    three_spelled c.args.row.now c.in-Some.word.now c.in-Some.rest.now c.in-Some-split_once.name.now c.in-Some-split_once.rest.now c.in-Some-keyword_in.keyword c.line_of_three.result
    whole word_none more name_none third_none (sym c.keyword_in.ensures ∙ c.in-Some-keyword_in.is) c.line_of_three.ensures

pub returns : goal.returns
returns c =
    let (whole, word_none) = split_some _ _ _ _ c.split_once.ensures.cases c.in-Some.is in
    let (more, name_none) = split_some _ _ _ _ c.split_once-2.ensures.cases c.in-Some-split_once.is in
    let (end, third_none) = split_some _ _ _ _ c.split_once-3.ensures.cases c.in-Some-split_once-2.is in
    four_spelled c.args.row.now c.in-Some.word.now c.in-Some.rest.now c.in-Some-split_once.name.now c.in-Some-split_once.rest.now c.in-Some-split_once-2.third.now c.in-Some-split_once-2.rest.now c.in-Some-keyword_in.keyword c.line_of_four.result
    c.requires whole word_none more name_none end third_none (sym c.keyword_in.ensures ∙ c.in-Some-keyword_in.is) c.line_of_four.ensures
