use Rattle.credit_gate.proofs.Limits.{none_shared, none_too_many}
use Rattle.credit_gate.proofs.laws.seats_have_places_of_their_own.Goals as goal

pub returns-clause-apart : goal.returns-clause-apart
returns-clause-apart c = none_shared

pub returns-clause-limit : goal.returns-clause-limit
returns-clause-limit c = none_too_many
