use Rattle.vol_state.specs.Hints.{uid_keys}
use Rattle.vol_state.proofs.Hinted.{hinted_put}
use Rattle.vol_state.proofs.lookups.hint_uid.Goals as goal

pub returns-clause-hinted : goal.returns-clause-hinted
returns-clause-hinted c =
    hinted_put (uid_keys c.args.own) c.args.hints.now.links c.put_hint.new.hints.links c.args.objects.now c.uid_key-key.result c.is_head_named-keyed.result c.requires.tree c.is_head_named-keyed.ensures c.put_hint.ensures.kept c.requires.hinted
