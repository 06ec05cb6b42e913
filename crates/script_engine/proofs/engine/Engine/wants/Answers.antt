use Rattle.std.proofs.Common.{◌+◌, ◌∙◌, ap, sym, inl, refl}
use Rattle.std.specs.Prelude.{find, option_copied}
use Rattle.frs_base.specs.Identifiers.{database_of}
use Rattle.frs_base.specs.Versions.{same_uid}
use Rattle.script_engine.proofs.Puller.{wants_none, wants_said}
use Rattle.script_engine.proofs.Spoken.{machine_held}
use Rattle.script_engine.proofs.engine.Engine.wants.Goals as goal

pub returns-in-None : goal.returns-in-None
returns-in-None c = λ s stands.
    let f = c.folder.result.now in
    let found = ap (λ b. find (λ r. same_uid r.uid c.args.update.now.uid) b.records) (sym c.book.ensures.book) ∙ sym c.held.ensures ∙ ap option_copied c.in-None.is in
    inl (refl, wants_none s.world (database_of (c.args.at + 1)) f.machine c.args.update.now (machine_held c.args.self.now s c.args.at f stands c.folder.ensures) found)

pub returns-in-Some : goal.returns-in-Some
returns-in-Some c = λ s stands.
    let f = c.folder.result.now in
    let found = ap (λ b. find (λ r. same_uid r.uid c.args.update.now.uid) b.records) (sym c.book.ensures.book) ∙ sym c.held.ensures ∙ ap option_copied c.in-Some.is in
    wants_said c.args.self.now s c.args.at f c.args.update.now c.in-Some.held.now c.beats.result stands c.folder.ensures found c.beats.ensures
