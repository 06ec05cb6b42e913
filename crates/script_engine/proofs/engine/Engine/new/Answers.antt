use Rattle.std.proofs.Common.{ap}
use Rattle.script_engine.proofs.Events.{fresh_stands}
use Rattle.script_engine.proofs.engine.Engine.new.Goals as goal

pub returns-clause-stands : goal.returns-clause-stands
returns-clause-stands c = fresh_stands _ (ap (λ x. x.items) c.empty.ensures) (ap (λ x. x.items) c.empty-2.ensures)
