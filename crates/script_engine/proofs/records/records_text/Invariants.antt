use Rattle.std.proofs.Common.{◌≡◌, take}
use Rattle.std.specs.Prelude.{string_bytes}
use Rattle.script_engine.specs.Text.{records_text}
use Rattle.script_engine.proofs.records.records_text.Given as goal

-- the records so far
abbrev pub invariant-loop-record : goal.invariant-loop-record
invariant-loop-record l = string_bytes l.text ≡ records_text l.names (take l.record-index l.book.state.records)
