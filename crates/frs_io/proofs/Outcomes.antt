-- What holds whatever a result is.
use Rattle.std.proofs.Common.{OnErr, Result, Ok, Err}

-- a fact that stands is a fact after an error
pub OnErr-of_fact : {T E P : Type 0} (r : Result T E) → P → OnErr r P
OnErr-of_fact (Ok x) holds = tt
OnErr-of_fact (Err e) holds = holds
