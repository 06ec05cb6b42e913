use Rattle.std.proofs.Common.{◌∙◌, ap, sym}
use Rattle.std.specs.Prelude.{option_copied}
use Rattle.frs_base.specs.Versions.{same_uid}
use Rattle.vol_state.specs.State.{uid_of}
use Rattle.vol_state.proofs.Volumes.{find_in}
use Rattle.folder_core.proofs.machine.Machine.form.Goals as goal

pub form_of-requires : goal.form_of-requires
form_of-requires c =
    let v = c.self.inside.volume.state in
    let o = c.in-Some-object_of.object.now in
    c.object_of.ensures.valid.summed o
    (find_in (λ x. same_uid (uid_of v.own x) c.args.uid.now) v.objects o (sym (c.object_of.ensures.object) ∙ ap option_copied c.in-Some-object_of.is)).0
