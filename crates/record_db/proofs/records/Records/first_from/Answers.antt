use Rattle.std.proofs.Common.{◌∙◌, None, Some, ap, subst, sym}
use Rattle.std.specs.Prelude.{option_map}
use Rattle.std.specs.Map.{values_of}
use Rattle.frs_pmap.specs.Entries.{lent}
use Rattle.record_db.specs.Maps.{IsFirstFrom}
use Rattle.record_db.proofs.Maps.{first_filed}
use Rattle.record_db.proofs.records.Records.first_from.Goals as goal

pub returns-in-None : goal.returns-in-None
returns-in-None c =
    subst (λ l. IsFirstFrom c.args.g l None) c.self.view_is
    (subst (λ r. IsFirstFrom c.args.g (values_of c.self.inside.files) (option_map (λ e. e.1) r)) (sym c.at_or_above.ensures.first ∙ ap lent c.in-None.is)
    (first_filed c.args.g c.self.inside.files c.self.inside.versions c.self.invariant))

pub returns-in-Some : goal.returns-in-Some
returns-in-Some c =
    subst (λ l. IsFirstFrom c.args.g l (Some c.in-Some.update.now)) c.self.view_is
    (subst (λ r. IsFirstFrom c.args.g (values_of c.self.inside.files) (option_map (λ e. e.1) r)) (sym c.at_or_above.ensures.first ∙ ap lent c.in-Some.is)
    (first_filed c.args.g c.self.inside.files c.self.inside.versions c.self.invariant))
