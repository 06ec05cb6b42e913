use Rattle.std.proofs.Common.{◌≡◌, ◌∙◌, ◌++◌, [], Ok, None, sym, ap, subst, append_assoc, append-nil}
use Rattle.std.specs.Prelude.{string_bytes}
use Rattle.ndr_core.specs.Items.{AreBytes}
use Rattle.rpc_pdu.specs.Decoding.{decoded}
use Rattle.wire_rows.specs.Feeding.{LeadsTo, Turns}
use Rattle.wire_rows.proofs.Turning.{ended, leads_nowhere, leads_on, leads_to_close, took}
use Rattle.wire_rows.proofs.feeding.Stream.drain.Goals as goal

pub turns-init : goal.turns-init
turns-init c = record { bytes = c.requires; told = ([], sym (append-nil (string_bytes c.args.said.now)), leads_nowhere c.args.self.now) }

pub turns-smaller : goal.turns-smaller
turns-smaller c =
    let turn = subst (λ t. Turns t c.turns.self c.turn.new.self (string_bytes c.turns.said) (string_bytes c.turn.new.said)) c.in-Took.is c.in_ok-turn.ensures in
    (took c.turns.self c.turn.new.self (string_bytes c.turns.said) (string_bytes c.turn.new.said) c.turns.invariant.bytes turn).4

pub turns-preserved : goal.turns-preserved
turns-preserved c =
    let turn = subst (λ t. Turns t c.turns.self c.turn.new.self (string_bytes c.turns.said) (string_bytes c.turn.new.said)) c.in-Took.is c.in_ok-turn.ensures in
    let (said, says, leads, are, smaller) = took c.turns.self c.turn.new.self (string_bytes c.turns.said) (string_bytes c.turn.new.said) c.turns.invariant.bytes turn in
    let told = c.turns.invariant.told in
    record {
      bytes = are;
      told = (told.0 ++ said, says ∙ ap (λ b. b ++ said) told.1 ∙ append_assoc (string_bytes c.args.said.now) told.0 said, leads_on c.args.self.now c.turns.self c.turn.new.self told.0 said told.2 leads);
    }

pub returns-in-Waits : goal.returns-in-Waits
returns-in-Waits c =
    let turn = subst (λ t. Turns t c.turns.self c.turn.new.self (string_bytes c.turns.said) (string_bytes c.turn.new.said)) c.in-Waits.is c.in_ok-turn.ensures in
    let told = c.turns.invariant.told in (
      told.0,
      turn.2 ∙ told.1,
      subst (λ s. LeadsTo c.args.self.now s told.0) (sym turn.1) told.2,
      ap (λ s. decoded s.splitter.rest) turn.1 ∙ turn.0,
      subst (λ s. AreBytes s.splitter.rest) (sym turn.1) c.turns.invariant.bytes,
    )

pub returns-in-Ended : goal.returns-in-Ended
returns-in-Ended c =
    let turn = subst (λ t. Turns t c.turns.self c.turn.new.self (string_bytes c.turns.said) (string_bytes c.turn.new.said)) c.in-Ended.is c.in_ok-turn.ensures in
    let (said, says, closes) = ended c.turns.self c.turn.new.self (string_bytes c.turns.said) (string_bytes c.turn.new.said) c.turns.invariant.bytes turn in
    let told = c.turns.invariant.told in
    (told.0 ++ said, says ∙ ap (λ b. b ++ said) told.1 ∙ append_assoc (string_bytes c.args.said.now) told.0 said, leads_to_close c.args.self.now c.turns.self told.0 said told.2 closes)
