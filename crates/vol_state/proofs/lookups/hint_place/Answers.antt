use Rattle.vol_state.specs.Hints.{place_keys}
use Rattle.vol_state.proofs.Hinted.{hinted_put}
use Rattle.vol_state.proofs.lookups.hint_place.Goals as goal

pub returns-clause-hinted : goal.returns-clause-hinted
returns-clause-hinted c =
    hinted_put place_keys c.args.hints.now.links c.put_hint.new.hints.links c.args.objects.now c.place_key-key.result c.is_head_placed-keyed.result c.requires.tree c.is_head_placed-keyed.ensures c.put_hint.ensures.kept c.requires.hinted
