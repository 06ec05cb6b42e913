use Rattle.name_rules.proofs.Made.{makes_own_version}
use Rattle.name_rules.proofs.laws.made_updates_have_their_version.Goals as goal

pub returns : goal.returns
returns c = makes_own_version
