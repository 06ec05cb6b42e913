use Rattle.std.proofs.Common.{rules}
use Rattle.install_plan.proofs.objects.is_settled.Goals as goal

pub returns : goal.returns
returns c = search rules
