-- How it is told that a journal record is not consumed.
use Rattle.std.specs.Prelude.{◌++◌, ℕ, List, codes, decimal}
use Rattle.usn_consumer.specs.declared.consumed.ConsumeError.{ConsumeError}
use Rattle.usn_consumer.specs.declared.consumed.ConsumeError.TheVariants.{Skewed, Memory}

-- the text of an error: the clock that is too far ahead, or that memory ran out
abbrev pub error_text : ConsumeError → List ℕ
error_text (Skewed clock) = codes "a clock of " ++ decimal clock
error_text Memory = codes "out of memory"
