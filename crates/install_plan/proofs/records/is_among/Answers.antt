use Rattle.std.proofs.Common.{sym, subst}
use Rattle.std.specs.Prelude.{◌↔◌, IsTrue}
use Rattle.frs_base.specs.Options.{In}
use Rattle.install_plan.proofs.Held.{among}
use Rattle.install_plan.proofs.records.is_among.Goals as goal

pub returns : goal.returns
returns c =
    subst (λ b. IsTrue b ↔ In c.args.uid.now c.args.uids.now) (sym c.is_ok.ensures.value)
    (among c.args.uids.now c.args.uid.now c.binary_search.result c.requires c.binary_search.ensures.bound c.binary_search.ensures.position)
