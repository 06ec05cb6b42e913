use Rattle.std.proofs.Common.{◌≡◌, ◌∷◌, ◌++◌, [], ap, sym, ◌∙◌, append_assoc}
use Rattle.hex.specs.Hex.{encode_lower}
use Rattle.script_engine.specs.Trees.{path_word, sum_text}
use Rattle.script_engine.proofs.Texts.{said_of}
use Rattle.script_engine.proofs.sums.sum_text.Goals as goal

pub returns : goal.returns
returns c =
    let row = c.args.row.now in
    let path = c.in_ok-path.ensures ∙ ap path_word c.path.ensures in
    let digits = c.in_ok-digits.ensures ∙ ap (λ object. encode_lower object.sum.0) c.object.ensures in
    said_of c.format.result _ (λ text. text ≡ sum_text row) c.format.ensures.ok
    ((λ i. digits i ++ 32 ∷ (path i ++ 10 ∷ [])) ∙ sym (append_assoc (encode_lower row.object.sum.0) (32 ∷ path_word row.path) (10 ∷ [])))
