use Rattle.std.proofs.Common.{◌∙◌, ◌-◌, ◌<◌, sym, ap, subst, arith, rules, length}
use Rattle.std.specs.Prelude.{option_copied}
use Rattle.vol_state.specs.Hints.{AreChained, AreHinted, last_with, uid_key, uid_keys}
use Rattle.vol_state.proofs.Walks.{has_uid, looked_begin, bounds_link, less_link, next_link, uid_found, uid_end}
use Rattle.vol_state.proofs.lookups.object_by.Goals as goal

pub loop-at-init : goal.loop-at-init
loop-at-init c =
    looked_begin (has_uid c.args.own c.args.uid.now) c.args.objects.now c.links-links.result.now (uid_key c.args.uid.now) c.newest-at.result
    (c.newest-at.ensures.newest ∙ ap (λ k. last_with k c.args.hints.now.links) c.uid_key.ensures ∙ ap (last_with (uid_key c.args.uid.now)) (sym c.links-links.ensures.links))

pub offset_bounds-links-at : goal.offset_bounds-links-at
offset_bounds-links-at c =
    let bound : c.loop-at.at - 1 < length c.links-links.result.now = bounds_link (has_uid c.args.own c.args.uid.now) c.args.objects.now c.links-links.result.now (uid_key c.args.uid.now) c.loop-at.at c.loop-at.invariant c.loop-at-test.true in
    search rules

pub bounds-links-at : goal.bounds-links-at
bounds-links-at c = bounds_link (has_uid c.args.own c.args.uid.now) c.args.objects.now c.links-links.result.now (uid_key c.args.uid.now) c.loop-at.at c.loop-at.invariant c.loop-at-test.true

pub returns-in-Some : goal.returns-in-Some
returns-in-Some c = uid_found c.args.own c.args.uid.now c.args.objects.now _ c.in-Some.o.now c.requires.apart (sym c.named_at.ensures ∙ ap option_copied c.in-Some.is)

pub loop-at-smaller : goal.loop-at-smaller
loop-at-smaller c = less_link (has_uid c.args.own c.args.uid.now) c.args.objects.now c.links-links.result.now (uid_key c.args.uid.now) c.loop-at.at (subst AreChained (sym c.links-links.ensures.links) c.links-links.ensures.chained) c.loop-at.invariant c.loop-at-test.true

pub loop-at-preserved : goal.loop-at-preserved
loop-at-preserved c =
    next_link (has_uid c.args.own c.args.uid.now) c.args.objects.now c.links-links.result.now (uid_key c.args.uid.now) c.loop-at.at (subst AreChained (sym c.links-links.ensures.links) c.links-links.ensures.chained) c.loop-at.invariant c.loop-at-test.true
    (sym (ap option_copied c.in_default.is) ∙ c.named_at.ensures)

pub returns : goal.returns
returns c =
    uid_end c.args.own c.args.uid.now c.args.objects.now c.links-links.result.now c.loop-at.at c.requires.tree (subst (λ ls. AreHinted (uid_keys c.args.own) ls c.args.objects.now) (sym c.links-links.ensures.links) c.requires.hinted) c.loop-at.invariant (omega (arith, c.loop-at-test.false))
