use Rattle.std.proofs.Common.{◌≡◌, ℕ, List, ◌++◌, length}
use Rattle.std.specs.Prelude.{string_bytes}
use Rattle.ndr_core.specs.Items.{AreBytes}
use Rattle.wire_rows.specs.Feeding.{LeadsTo}
use Rattle.wire_rows.proofs.feeding.Stream.drain.Given as goal

-- what was said so far leads here
abbrev pub invariant-turns : goal.invariant-turns
invariant-turns l = record {
  bytes : AreBytes l.self.splitter.rest;
  told : (said : List ℕ) × (string_bytes l.said ≡ string_bytes l.fn.said ++ said) × LeadsTo l.fn.self l.self said;
}

abbrev pub decreases-turns : goal.decreases-turns
decreases-turns l = length l.self.splitter.rest
