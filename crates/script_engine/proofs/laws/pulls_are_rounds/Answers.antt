use Rattle.script_engine.proofs.Rounding.{pages_are_asked, pulls_are_rounds}
use Rattle.script_engine.proofs.laws.pulls_are_rounds.Goals as goal

pub returns-clause-rounds : goal.returns-clause-rounds
returns-clause-rounds c = pulls_are_rounds

pub returns-clause-pages : goal.returns-clause-pages
returns-clause-pages c = pages_are_asked
