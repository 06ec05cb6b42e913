use Rattle.std.proofs.Common.{◌≡◌, ◌+◌, ◌∙◌, [], ◌∷◌, ◌++◌, take, sym, ap, subst, arith}
use Rattle.std.specs.Prelude.{string_bytes}
use Rattle.std.proofs.lemmas.List.{take_more}
use Rattle.script_engine.specs.Engines.{local_by_all}
use Rattle.dfsr.specs.Leading.{Leads}
use Rattle.dfsr.proofs.Leading.{line_more}
use Rattle.dfsr.proofs.big.run_lines.Goals as goal

pub loop-line-preserved : goal.loop-line-preserved
loop-line-preserved c =
    let lines = c.args.lines.now in
    let i = c.loop-line.line-index in
    let line = c.line-item.result in
    let text = string_bytes c.in_ok-text.text in
    let more : take (i + 1) lines ≡ take i lines ++ line ∷ [] = take_more lines i line c.loop-line-test.true ∙ ap (λ l. take i lines ++ l ∷ []) (sym c.line-item.is) in
    let pushed : string_bytes c.push_str.new.self ≡ string_bytes c.loop-line.printed ++ text = c.in_ok-push_str.ensures.bytes ∙ ap (λ t. string_bytes c.loop-line.printed ++ t) c.as_str.ensures.value in
    let counted = c.in_ok-text.ensures.within (local_by_all c.loop-line.engine) (omega arith) in
    record {
      within = omega (arith, counted, c.loop-line.invariant.within);
      leads = subst (λ t. Leads c.args.engine.now (take (i + 1) lines) t c.run.new.self) (sym pushed)
          (line_more c.args.engine.now c.loop-line.engine c.run.new.self lines i line (string_bytes c.loop-line.printed) text more c.loop-line.invariant.leads c.in_ok-text.ensures.ok);
    }
