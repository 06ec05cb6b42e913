use Rattle.std.proofs.Common.{◌≡◌, ◌∙◌, ◌+◌, ◌++◌, inl, inr, List, [], ◌∷◌, take, sym, ap, subst}
use Rattle.std.specs.Prelude.{◌⊎◌}
use Rattle.std.proofs.lemmas.List.{take_more}
use Rattle.frs_base.specs.Options.{In}
use Rattle.frs_base.specs.declared.version.Uid.{Uid}
use Rattle.vol_state.specs.declared.object.Object.{Object}
use Rattle.vol_state.specs.State.{uid_of}
use Rattle.install_plan.specs.Objects.{IsSettled}
use Rattle.install_plan.proofs.Listing.{grew, more_settled}
use Rattle.install_plan.proofs.agenda.unsettled.Goals as goal
use Rattle.install_plan.proofs.agenda.unsettled.Goals.{then-not-is_settled+in_ok-push, else-not-is_settled}

pub loop-object-preserved : goal.loop-object-preserved
loop-object-preserved c = elim c.if-not-is_settled.branch [
  | then-not-is_settled+in_ok-push w ↦
      let (kept, there) = grew c.loop-object.uids.items c.if-not-is_settled.uids.items w.uid.result (ap (λ l. l.items) w.uids-is ∙ w.in_ok-push.ensures.items) in
      more kept (inl (subst (λ uid. In uid c.if-not-is_settled.uids.items) w.uid.ensures there))
  | else-not-is_settled w ↦
      let same : c.if-not-is_settled.uids.items ≡ c.loop-object.uids.items = ap (λ l. l.items) w.uids-is in
      more (λ uid i. subst (λ l. In uid l) (sym same) i) (inr (c.is_settled.ensures w.if-not-is_settled.false))
]
  where
    so_far : List Object
    so_far = take c.loop-object.object-index c.objects-object-items.result.now

    split : take (c.loop-object.object-index + 1) c.objects-object-items.result.now ≡ so_far ++ c.object-item.result ∷ []
    split = take_more c.objects-object-items.result.now c.loop-object.object-index c.object-item.result c.loop-object-test.true ∙ ap (λ o. so_far ++ o ∷ []) (sym c.object-item.is)

    more : ((uid : Uid) → In uid c.loop-object.uids.items → In uid c.if-not-is_settled.uids.items)
        → In (uid_of c.own-own.result c.object-item.result) c.if-not-is_settled.uids.items ⊎ IsSettled c.args.volume.now.state c.args.book.now.state c.object-item.result
        → (o : Object) → In o (take (c.loop-object.object-index + 1) c.objects-object-items.result.now) → In (uid_of c.own-own.result o) c.if-not-is_settled.uids.items ⊎ IsSettled c.args.volume.now.state c.args.book.now.state o
    more kept one o i =
        more_settled c.args.volume.now.state c.args.book.now.state c.own-own.result c.loop-object.uids.items c.if-not-is_settled.uids.items so_far c.object-item.result kept c.loop-object.invariant one o
        (subst (λ l. In o l) split i)
