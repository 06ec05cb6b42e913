use Rattle.std.proofs.Common.{◌≡◌, drop}
use Rattle.script_engine.specs.Printed.{name_of}
use Rattle.script_engine.proofs.names.name_of.Given as goal

-- the databases so far are others
abbrev pub invariant-loop-member : goal.invariant-loop-member
invariant-loop-member l = name_of (drop l.member-index l.names) l.db ≡ name_of l.names l.db
