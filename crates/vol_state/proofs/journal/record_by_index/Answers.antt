use Rattle.std.proofs.Common.{◌∙◌, sym, arith}
use Rattle.vol_state.proofs.Runs.{runs_none, runs_get}
use Rattle.vol_state.proofs.journal.record_by_index.Goals as goal

pub returns-then-usn-lt-FIRST_USN : goal.returns-then-usn-lt-FIRST_USN
returns-then-usn-lt-FIRST_USN c = sym (runs_none c.args.usn c.args.records.now c.if-usn-lt-FIRST_USN.true c.requires)

pub returns : goal.returns
returns c = c.get.ensures ∙ runs_get c.args.usn _ c.args.records.now c.requires (omega (arith, c.if-usn-lt-FIRST_USN.false))
