use Rattle.std.proofs.Common.{◌≡◌, ◌∙◌, ◌+◌, ◌++◌, inl, inr, true, not, List, [], ◌∷◌, take, sym, ap, subst, arith}
use Rattle.std.specs.Prelude.{◌⊎◌, is_some, option_copied}
use Rattle.std.proofs.lemmas.List.{take_all, take_more}
use Rattle.frs_base.specs.Options.{In}
use Rattle.frs_base.specs.declared.version.Uid.{Uid}
use Rattle.install_plan.specs.Objects.{HasObject}
use Rattle.install_plan.proofs.Answered.{lent_some}
use Rattle.install_plan.proofs.Listing.{found_there, grew, more_missing}
use Rattle.install_plan.proofs.agenda.add_missing.Goals as goal
use Rattle.install_plan.proofs.agenda.add_missing.Goals.{then-is_none+in_ok-push, else-is_none}

pub loop-uid-preserved : goal.loop-uid-preserved
loop-uid-preserved c = elim c.if-is_none.branch [
  | then-is_none+in_ok-push w ↦
      let (kept, there) = grew c.loop-uid.uids.items c.if-is_none.uids.items c.uid-item.result (ap (λ l. l.items) w.uids-is ∙ w.in_ok-push.ensures.items) in
      record { kept = λ uid i. kept uid (c.loop-uid.invariant.kept uid i); missing = more kept (inl there) }
  | else-is_none w ↦
      let same : c.if-is_none.uids.items ≡ c.loop-uid.uids.items = ap (λ l. l.items) w.uids-is in
      let stays : (uid : Uid) → In uid c.loop-uid.uids.items → In uid c.if-is_none.uids.items = λ uid i. subst (λ l. In uid l) (sym same) i in
      let some : is_some (option_copied c.object_of.result) ≡ true = sym (lent_some c.object_of.result) ∙ (c.is_none.ensures ∙ ap not w.if-is_none.false) in
      record {
        kept = λ uid i. stays uid (c.loop-uid.invariant.kept uid i);
        missing = more stays (inr (found_there c.args.volume.now.state c.object_of.ensures.valid c.uid-item.result (option_copied c.object_of.result) c.object_of.ensures.object some));
      }
]
  where
    so_far : List Uid
    so_far = take c.loop-uid.uid-index c.args.shown.now

    split : take (c.loop-uid.uid-index + 1) c.args.shown.now ≡ so_far ++ c.uid-item.result ∷ []
    split = take_more c.args.shown.now c.loop-uid.uid-index c.uid-item.result c.loop-uid-test.true ∙ ap (λ uid. so_far ++ uid ∷ []) (sym c.uid-item.is)

    more : ((uid : Uid) → In uid c.loop-uid.uids.items → In uid c.if-is_none.uids.items) → In c.uid-item.result c.if-is_none.uids.items ⊎ HasObject c.args.volume.now.state c.uid-item.result
        → (uid : Uid) → In uid (take (c.loop-uid.uid-index + 1) c.args.shown.now) → In uid c.if-is_none.uids.items ⊎ HasObject c.args.volume.now.state uid
    more kept one uid i =
        more_missing c.args.volume.now.state c.loop-uid.uids.items c.if-is_none.uids.items so_far c.uid-item.result kept c.loop-uid.invariant.missing one uid (subst (λ l. In uid l) split i)

pub returns-clause-missing : goal.returns-clause-missing
returns-clause-missing c = λ uid i.
    c.loop-uid.invariant.missing uid (subst (λ l. In uid l) (sym (take_all c.loop-uid.uid-index c.args.shown.now (omega (arith, c.loop-uid-test.false)))) i)
