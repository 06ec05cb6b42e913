use Rattle.std.proofs.Common.{◌∙◌, ◌-◌, ◌<◌, sym, ap, subst, arith, rules, length}
use Rattle.std.specs.Prelude.{option_copied}
use Rattle.vol_state.specs.Places.{is_child}
use Rattle.vol_state.specs.Hints.{AreChained, AreHinted, last_with, place_key, place_keys}
use Rattle.vol_state.proofs.Walks.{looked_begin, bounds_link, less_link, next_link, child_found, child_end}
use Rattle.vol_state.proofs.lookups.child_by.Goals as goal

pub loop-at-init : goal.loop-at-init
loop-at-init c =
    looked_begin (is_child c.args.parent c.args.name.now) c.args.objects.now c.links-links.result.now (place_key c.args.parent c.args.name.now) c.newest-at.result
    (c.newest-at.ensures.newest ∙ ap (λ k. last_with k c.args.hints.now.links) c.place_key.ensures ∙ ap (last_with (place_key c.args.parent c.args.name.now)) (sym c.links-links.ensures.links))

pub offset_bounds-links-at : goal.offset_bounds-links-at
offset_bounds-links-at c =
    let bound : c.loop-at.at - 1 < length c.links-links.result.now = bounds_link (is_child c.args.parent c.args.name.now) c.args.objects.now c.links-links.result.now (place_key c.args.parent c.args.name.now) c.loop-at.at c.loop-at.invariant c.loop-at-test.true in
    search rules

pub bounds-links-at : goal.bounds-links-at
bounds-links-at c = bounds_link (is_child c.args.parent c.args.name.now) c.args.objects.now c.links-links.result.now (place_key c.args.parent c.args.name.now) c.loop-at.at c.loop-at.invariant c.loop-at-test.true

pub returns-in-Some : goal.returns-in-Some
returns-in-Some c = child_found c.args.objects.now c.args.parent c.args.name.now _ c.in-Some.o.now c.requires.tree (sym c.child_at.ensures ∙ ap option_copied c.in-Some.is)

pub loop-at-smaller : goal.loop-at-smaller
loop-at-smaller c = less_link (is_child c.args.parent c.args.name.now) c.args.objects.now c.links-links.result.now (place_key c.args.parent c.args.name.now) c.loop-at.at (subst AreChained (sym c.links-links.ensures.links) c.links-links.ensures.chained) c.loop-at.invariant c.loop-at-test.true

pub loop-at-preserved : goal.loop-at-preserved
loop-at-preserved c =
    next_link (is_child c.args.parent c.args.name.now) c.args.objects.now c.links-links.result.now (place_key c.args.parent c.args.name.now) c.loop-at.at (subst AreChained (sym c.links-links.ensures.links) c.links-links.ensures.chained) c.loop-at.invariant c.loop-at-test.true
    (sym (ap option_copied c.in_default.is) ∙ c.child_at.ensures)

pub returns : goal.returns
returns c =
    child_end c.args.objects.now c.links-links.result.now c.args.parent c.args.name.now c.loop-at.at c.requires.tree (subst (λ ls. AreHinted place_keys ls c.args.objects.now) (sym c.links-links.ensures.links) c.requires.hinted) c.loop-at.invariant (omega (arith, c.loop-at-test.false))
