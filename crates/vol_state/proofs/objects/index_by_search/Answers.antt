use Rattle.std.proofs.Common.{◌≡◌, ◌∙◌, ◌<◌, ap, arith, get_or, length}
use Rattle.std.proofs.lemmas.List.{get_or_default}
use Rattle.vol_state.specs.declared.object.Object.{Object}
use Rattle.vol_state.proofs.Searches.{search_none, search_some}
use Rattle.vol_state.proofs.objects.index_by_search.Goals as goal

pub returns-then-at-objects : goal.returns-then-at-objects
returns-then-at-objects c =
    search_none c.args.fid c.args.objects.now c.first_from-at.result c.requires c.first_from-at.ensures.point (λ d l. absurd (omega (arith, l, c.if-at-objects.true)))

pub returns-then-objects-at : goal.returns-then-objects-at
returns-then-objects-at c =
    search_some c.args.fid c.args.objects.now c.first_from-at.result c.index-objects-at.result c.first_from-at.ensures.point (omega (arith, c.if-at-objects.false)) c.if-objects-at.true

pub returns : goal.returns
returns c =
    search_none c.args.fid c.args.objects.now c.first_from-at.result c.requires c.first_from-at.ensures.point
    (λ d l e. c.if-objects-at.false (ap (λ (o : Object). o.fid) (same d l) ∙ e))
  where
    same : (d : Object) → c.first_from-at.result < length c.args.objects.now → get_or c.args.objects.now c.first_from-at.result c.index-objects-at.result ≡ get_or c.args.objects.now c.first_from-at.result d
    same d l = get_or_default c.args.objects.now c.first_from-at.result c.index-objects-at.result d l
