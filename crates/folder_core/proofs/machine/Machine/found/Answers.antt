use Rattle.std.proofs.Common.{◌≡◌, ◌∙◌, ap, sym, None, Some}
use Rattle.std.specs.Prelude.{option_copied}
use Rattle.vol_state.specs.Journal.{pending_local}
use Rattle.name_rules.specs.Recorded.{held_of}
use Rattle.pinned_pages.specs.declared.answer.FileAnswer.TheVariants.{Found}
use Rattle.folder_core.specs.Machine.{Machine}
use Rattle.folder_core.specs.Serve.{answer_by, form_at}
use Rattle.folder_core.proofs.machine.Machine.found.Goals as goal

pub returns : goal.returns
returns c =
    let m : Machine = record { volume = c.self.inside.volume.state; book = c.self.inside.book.state } in
    let uid = c.args.uid.now in
    let given = c.in-Some.record.now in
    let held : Some given ≡ held_of c.args.self.now.book.records uid =
    sym (ap option_copied c.in-Some.is) ∙ (c.held.ensures ∙ ap (λ (x : Machine). held_of x.book.records uid) c.self.view_is) in
    let waits : None ≡ pending_local c.args.self.now.volume.journal uid c.args.self.now.book.consumed =
    sym c.in_default-pending_local.is ∙ (c.pending_local.ensures ∙ (ap (λ n. pending_local m.volume.journal uid n) c.consumed.ensures ∙ ap (λ (x : Machine). pending_local x.volume.journal uid x.book.consumed) c.self.view_is)) in
    ap (λ u. Found c.args.at u c.in_ok-body.body) c.in_ok-update.ensures
    ∙ (ap (λ b. Found c.args.at given b) c.in_ok-body.ensures ∙ (λ i. answer_by c.args.at (held i) (waits i) (form_at c.args.self.now uid)))
