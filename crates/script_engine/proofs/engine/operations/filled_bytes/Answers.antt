use Rattle.std.proofs.Common.{◌≡◌, ◌∙◌, ◌++◌, ◌*◌, ◌/◌, ◌%◌, ◌<◌, ℕ, ap, take, arith}
use Rattle.script_engine.specs.Text.{filled}
use Rattle.script_engine.proofs.Filled.{filled_round, filled_whole}
use Rattle.script_engine.proofs.engine.operations.filled_bytes.Goals as goal

pub loop-round-preserved : goal.loop-round-preserved
loop-round-preserved c =
    c.in_ok-extend_from_slice.ensures.items ∙ (ap (λ l. l ++ c.as_slice.result.now) c.loop-round.invariant
    ∙ (ap (λ l. filled (251 * c.loop-round._round) ++ l) (c.as_slice.ensures.value ∙ c.in_ok-pattern.ensures) ∙ filled_round c.loop-round._round))

pub returns : goal.returns
returns c =
    c.of.ensures ∙ (c.in_ok-extend_from_slice-2.ensures.items ∙ (ap (λ l. l ++ take (c.args.length % 251) c.deref.result.now) (c.loop-round.invariant ∙ ap (λ k. filled (251 * k)) rounds)
    ∙ (ap (λ l. filled (251 * (c.args.length / 251)) ++ take (c.args.length % 251) l) (c.deref.ensures.value ∙ c.in_ok-pattern.ensures) ∙ filled_whole c.args.length (mod_lt c.args.length))))
  where
    rounds : c.loop-round._round ≡ c.args.length / 251
    rounds = omega (arith, c.loop-round-test.false, c.loop-round.auto._round-end)

    mod_lt : (n : ℕ) → n % 251 < 251
    mod_lt n = omega arith
