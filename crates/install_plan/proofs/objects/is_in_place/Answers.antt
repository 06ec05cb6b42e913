use Rattle.std.proofs.Common.{◌≡◌, ◌∙◌, ap, subst, sym}
use Rattle.std.specs.Bool.{Decides}
use Rattle.std.proofs.lemmas.Slice.Eq.{bytes_eq-Decides}
use Rattle.frs_base.specs.Versions.{same_uid}
use Rattle.frs_base.specs.declared.version.Uid.{Uid}
use Rattle.vol_state.specs.Maps.{maps_of}
use Rattle.vol_state.specs.State.{uid_of}
use Rattle.name_rules.specs.Recorded.{parent_uid}
use Rattle.win_order.specs.declared.update.Update.{Update}
use Rattle.install_plan.proofs.Answered.{not_in_place, parent_differs, place_decides, uid_decides}
use Rattle.install_plan.proofs.objects.is_in_place.Goals as goal

pub returns-in-None : goal.returns-in-None
returns-in-None c = (
  λ t. absurd (cc),
  λ h. absurd (not_in_place c.args.volume.now.state c.args.book.now.state c.args.object.now c.args.place.now (λ u (up, of). c.in-None.ensures u (up, of ∙ sym whose)) h),
)
  where
    whose : c.uid.result ≡ uid_of c.args.volume.now.state.own c.args.object.now
    whose = c.uid.ensures ∙ ap (λ own. uid_of own c.args.object.now) c.own.ensures

pub returns-then-eq : goal.returns-then-eq
returns-then-eq c =
    let (up, of) = c.in-Some.ensures in
    place_decides c.args.volume.now.state c.args.book.now.state c.args.object.now c.requires.book c.args.place.now u c.eq.result c.eq-then-eq.result (up, of ∙ whose)
    (subst (λ b. Decides b (u.parent ≡ directory)) (sym c.eq.ensures) (subst (λ x. Decides (same_uid u.parent c.parent_uid.result) (u.parent ≡ x)) c.parent_uid.ensures (uid_decides u.parent c.parent_uid.result)))
    (subst (λ b. Decides b (u.name ≡ c.args.place.now.1)) (sym c.eq-then-eq.ensures) (bytes_eq-Decides u.name c.args.place.now.1)) c.if-eq.true
  where
    u : Update
    u = c.in-Some.update.now

    directory : Uid
    directory = parent_uid c.args.volume.now.state.own (maps_of c.args.volume.now.state) c.args.place.now.0

    whose : c.uid.result ≡ uid_of c.args.volume.now.state.own c.args.object.now
    whose = c.uid.ensures ∙ ap (λ own. uid_of own c.args.object.now) c.own.ensures

pub returns-else-eq : goal.returns-else-eq
returns-else-eq c =
    let (up, of) = c.in-Some.ensures in
    parent_differs c.args.volume.now.state c.args.book.now.state c.args.object.now c.requires.book c.args.place.now u c.eq.result (up, of ∙ whose)
    (subst (λ b. Decides b (u.parent ≡ directory)) (sym c.eq.ensures) (subst (λ x. Decides (same_uid u.parent c.parent_uid.result) (u.parent ≡ x)) c.parent_uid.ensures (uid_decides u.parent c.parent_uid.result)))
    c.if-eq.false
  where
    u : Update
    u = c.in-Some.update.now

    directory : Uid
    directory = parent_uid c.args.volume.now.state.own (maps_of c.args.volume.now.state) c.args.place.now.0

    whose : c.uid.result ≡ uid_of c.args.volume.now.state.own c.args.object.now
    whose = c.uid.ensures ∙ ap (λ own. uid_of own c.args.object.now) c.own.ensures
