use Rattle.std.proofs.Common.{◌≡◌, ap, sym, ◌∙◌, eqb-true, length}
use Rattle.std.proofs.lemmas.Bool.{eqb-false}
use Rattle.std.proofs.lemmas.List.{nil_from_length}
use Rattle.script_engine.specs.Trees.{files_of, sums_text}
use Rattle.script_engine.proofs.Summed.{lines_of_files, no_files}
use Rattle.script_engine.proofs.Texts.{said_of}
use Rattle.script_engine.proofs.sums.rows_text.Goals as goal

pub returns-then-is_empty : goal.returns-then-is_empty
returns-then-is_empty c =
    let files = files_of c.args.rows.now in
    let nothing = nil_from_length _ (eqb-true _ _ (sym c.is_empty.ensures ∙ c.if-is_empty.true)) in
    let none = no_files files (sym c.in_ok-text.ensures ∙ sym c.as_str.ensures.value ∙ nothing) in
    said_of c.from_str.result _ (λ text. text ≡ sums_text files) c.from_str.ensures.ok (ap sums_text (sym none))

pub returns : goal.returns
returns c =
    let files = files_of c.args.rows.now in
    let some = eqb-false _ _ (sym c.is_empty.ensures ∙ c.if-is_empty.false) in
    c.in_ok-text.ensures ∙ lines_of_files files (λ none. some (ap length (c.as_str.ensures.value ∙ c.in_ok-text.ensures ∙ none)))
