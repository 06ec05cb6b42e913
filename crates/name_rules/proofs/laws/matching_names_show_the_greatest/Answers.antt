use Rattle.name_rules.proofs.Examples.{alone_is_shown, matching_names_are}
use Rattle.name_rules.proofs.laws.matching_names_show_the_greatest.Goals as goal

pub returns-clause-greatest : goal.returns-clause-greatest
returns-clause-greatest c = matching_names_are

pub returns-clause-alone : goal.returns-clause-alone
returns-clause-alone c = alone_is_shown
