use Rattle.std.proofs.Common.{◌∙◌, sym}
use Rattle.vol_state.specs.declared.operation.LocalOp.TheVariants.{Put}
use Rattle.script_engine.specs.Text.{Operates, filled}
use Rattle.script_engine.proofs.Spoken.{fill_refused, known_printed, unknown_printed}
use Rattle.script_engine.proofs.Texts.{said_of}
use Rattle.script_engine.proofs.engine.Engine.fill_too_large.Goals as goal

pub returns-in-None : goal.returns-in-None
returns-in-None c = λ s stands.
    unknown_printed c.args.self.now s c.args.name.now (λ d said after. Operates s d (Put c.args.path.now (filled c.args.length)) said after) c.unknown_text.result stands (sym c.place_of.ensures ∙ c.in-None.is) c.unknown_text.ensures

pub returns-in-Some : goal.returns-in-Some
returns-in-Some c = λ s stands.
    known_printed c.args.self.now s c.args.name.now (λ d said after. Operates s d (Put c.args.path.now (filled c.args.length)) said after) c.local_text.result c.in-Some.field-0 stands (sym c.place_of.ensures ∙ c.in-Some.is)
    (said_of c.local_text.result _ (λ t. Operates s _ (Put c.args.path.now (filled c.args.length)) t s) c.local_text.ensures (fill_refused s _ c.args.path.now c.args.length c.requires.large))
