use Rattle.std.proofs.Common.{◌≡◌, ◌∙◌, ◌<◌, ◌-◌, ◌^◌, true, ap, sym, subst}
use Rattle.vol_state.specs.Conditions.{is_allowed, step}
use Rattle.vol_state.specs.Effects.{effect}
use Rattle.vol_state.specs.State.{State}
use Rattle.vol_state.specs.Valid.{IsVolume}
use Rattle.folder_core.specs.Install.{MayOperate}
use Rattle.folder_core.specs.Machine.{Machine}
use Rattle.folder_core.specs.Sound.{IsSound}
use Rattle.folder_core.proofs.Sounding.{VolumeLaws, does_effect, operated_sound}
use Rattle.folder_core.proofs.machine.Machine.operate.Goals as goal

pub invariant_of-self-2 : goal.invariant_of-self-2
invariant_of-self-2 c =
    let m : Machine = record { volume = c.self.inside.volume.state; book = c.self.inside.book.state } in
    let Allowed : Machine → Type 0 = λ x. is_allowed c.args.cmd x.volume ≡ true in
    let May : Machine → Type 0 = λ x. MayOperate x c.args.cmd in
    let Numbered : Machine → Type 0 = λ x. x.volume.next_usn < 2 ^ 64 - 1 in
    let Sound : State → Type 0 = λ s. IsSound (record { volume = s; book = c.self.inside.book.state }) in
    let allowed = subst Allowed (sym c.self.view_is) c.requires.allowed in
    let may = subst May (sym c.self.view_is) c.requires.may in
    let numbers = subst Numbered (sym c.self.view_is) c.requires.numbers in
    let is : c.take.new.self.state ≡ effect c.args.cmd m.volume =
    c.take.ensures ∙ (ap (λ s. step c.in_ok-ready.ready s) c.in_ok-ready.ensures.same
    ∙ (ap (λ r. step r m.volume) c.in_ok-ready.ensures.command ∙ does_effect m c.args.cmd c.self.invariant numbers allowed)) in
    let laws : VolumeLaws = record { on = c.step_laws.ensures.on; numbering = c.step_laws.ensures.numbering; free = c.step_laws.ensures.free } in
    subst Sound (sym is) (operated_sound laws m c.args.cmd c.self.invariant numbers allowed may (subst IsVolume is c.objects.ensures.valid))
