use Rattle.std.proofs.Common.{◌≡◌, true, false, refl, sym, ap, ◌∙◌}
use Rattle.name_rules.specs.declared.step.Step.TheVariants.{Unstage}
use Rattle.version_vector.proofs.Uniqueness.{unique}
use Rattle.folder_core.specs.Machine.{Machine}
use Rattle.folder_core.specs.Notes.{mark_of}
use Rattle.folder_core.proofs.Installing.{next_at}
use Rattle.folder_core.proofs.Sounding.{unstaged_sound}
use Rattle.folder_core.proofs.machine.Machine.unstage.Goals as goal

pub invariant_of-self : goal.invariant_of-self
invariant_of-self c =
    let m : Machine = record { volume = c.self.inside.volume.state; book = c.self.inside.book.state } in
    let (quiet, n) = next_at m c.args.self.now (Unstage c.args.uid.now) c.self.view_is c.requires in
    let (f, o, at, is, staged) = n.candidate in
    unstaged_sound m c.args.uid.now f o c.unstage.new.self.state c.self.invariant at is staged c.vector.ensures.book (c.unstage.ensures.done refl)

pub returns-clause-noted : goal.returns-clause-noted
returns-clause-noted c =
    let m : Machine = record { volume = c.self.inside.volume.state; book = c.self.inside.book.state } in
    let changes = c.unstage.ensures.done refl in
    let same : c.unstage.new.self.state.vector ≡ m.book.vector =
    unique c.unstage.new.self.state.vector m.book.vector changes.vector.canonical c.self.invariant.order.book.canonical changes.vector.covering in
    record {
      mark = ap (λ a. a.mark) c.did.ensures ∙ sym (ap (λ a. mark_of a.reply) c.did.ensures);
      stays = λ e. same ∙ ap (λ (x : Machine). x.book.vector) c.self.view_is;
      moves = λ e. absurd (true_false (sym e ∙ ap (λ a. a.moved) c.did.ensures));
    }
  where
    true_false : true ≡ false → ⊥
    true_false e = cc
