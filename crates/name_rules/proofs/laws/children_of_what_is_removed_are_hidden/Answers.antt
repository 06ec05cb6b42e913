use Rattle.name_rules.proofs.Examples.{child_of_present, child_of_removed}
use Rattle.name_rules.proofs.laws.children_of_what_is_removed_are_hidden.Goals as goal

pub returns-clause-hidden : goal.returns-clause-hidden
returns-clause-hidden c = child_of_removed

pub returns-clause-shown : goal.returns-clause-shown
returns-clause-shown c = child_of_present
