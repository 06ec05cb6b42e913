use Rattle.std.proofs.Common.{◌∙◌, ◌++◌, ap}
use Rattle.std.specs.List.{flat_map}
use Rattle.std.proofs.Common.{◌-◌, ◌∷◌, length, take, drop}
use Rattle.script_lang.specs.Grammar.{path_word}
use Rattle.script_lang.proofs.Texts.{path_joined}
use Rattle.script_lang.proofs.printing.path_text.Goals as goal

pub returns : goal.returns
returns c =
    c.in_ok-push_components.ensures
    ∙ ap (λ text. text ++ flat_map (λ name. 47 ∷ name) (take (length c.as_slice.result.now - 1) (drop 1 c.as_slice.result.now)))
    (c.in_ok-push_component.ensures ∙ ap (λ text. text ++ c.first-item.result) c.new-text.ensures.bytes)
    ∙ path_joined c.as_slice.result.now c.first-item.result c.in-len1-up.len_at_least c.first-item.is
    ∙ ap path_word c.as_slice.ensures
