use Rattle.std.proofs.Common.{◌≡◌, ◌∷◌, []}
use Rattle.std.specs.Prelude.{decimal}
use Rattle.script_engine.specs.Printed.{kind_word, name_word, parent_word, printed, record_words, state_word, version_word}
use Rattle.script_engine.proofs.Texts.{joined, said_of}
use Rattle.script_engine.proofs.words.record_text.Goals as goal

pub returns : goal.returns
returns c =
    let names = c.args.names.now in
    let u = c.args.u.now in
    said_of c.format.result _ (λ text. text ≡ printed (record_words names u)) c.format.ensures.ok
    (joined (version_word names u.uid.db u.uid.version) (version_word names u.gvsn.db u.gvsn.version ∷ kind_word u ∷ state_word u ∷ [])
    (parent_word names u.parent) (name_word u.name ∷ decimal u.fence ∷ decimal u.clock ∷ decimal u.created ∷ []) _ _ c.in_ok-subject.ensures c.in_ok-place.ensures)
