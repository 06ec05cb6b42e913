use Rattle.std.proofs.Common.{◌≡◌, ◌+◌, ◌∙◌, ◌++◌, length, string_bytes, sym, ap, subst, arith}
use Rattle.dfsr.specs.Big.{round, rounds}
use Rattle.dfsr.specs.Leading.{LeadsOn}
use Rattle.dfsr.proofs.Generated.{rounds_more}
use Rattle.dfsr.proofs.Leading.{lead_further}
use Rattle.dfsr.proofs.big.run_rounds.Goals as goal

pub loop-preserved : goal.loop-preserved
loop-preserved c =
    let k = c.loop.counter in
    let are : c.deref.result.now ≡ round = c.deref.ensures.value ∙ c.in_ok-lines.ensures in
    let many : length c.deref.result.now ≡ 9 = ap length are in
    let whole : rounds k ++ c.deref.result.now ≡ rounds (k + 1) = ap (λ ls. rounds k ++ ls) are ∙ sym (rounds_more k) in
    record {
      within = omega (arith, many, c.in_ok-run_lines.ensures.made, c.loop.invariant.within);
      leads = subst (λ ls. LeadsOn c.args.engine.now ls c.run_lines.new.engine) whole
          (lead_further c.args.engine.now c.loop.engine c.run_lines.new.engine (rounds k) c.deref.result.now (string_bytes c.in_ok-run_lines.field-0) c.loop.invariant.leads c.in_ok-run_lines.ensures.ok);
    }

pub returns-clause-ok : goal.returns-clause-ok
returns-clause-ok c =
    let all : c.loop.counter ≡ 3 = omega arith in
    subst (λ k. LeadsOn c.args.engine.now (rounds k) c.loop.engine) all c.loop.invariant.leads
