use Rattle.std.proofs.Common.{◌≡◌, ◌∙◌, List, [], Some, Ok, ap, sym, subst, refl, IfOk, OnErr}
use Rattle.std.specs.Prelude.{string_bytes}
use Rattle.std.proofs.lemmas.Result.{on_err_weaker}
use Rattle.vol_state.specs.declared.operation.LocalOp.TheVariants as op
use Rattle.script_lang.specs.declared.line.Line.TheVariants as lines
use Rattle.script_engine.specs.declared.consumed.Consumed.{Consumed}
use Rattle.script_engine.specs.Begun.{Begins, BeginsAt, BeginsChange, OperatesOnce}
use Rattle.script_engine.specs.Consuming.{ConsumesOne}
use Rattle.name_rules.specs.declared.step.Step.{Step}
use Rattle.script_engine.specs.Engines.{Stands}
use Rattle.script_engine.specs.Installing.{Installs, InstallsSome}
use Rattle.script_engine.specs.Scene.{Scene}
use Rattle.script_engine.specs.Text.{Changes, Consumes, Counts, Does, DrainsAll, InstallsNext, Operates, PrintsSums, PrintsTree, Shows, filled}
use Rattle.script_engine.proofs.Beginning.{line_begun, nothing_begun, on_err}
use Rattle.script_engine.proofs.Speaking.{named_line, printed_line}
use Rattle.script_engine.proofs.engine.Engine.run.Goals as goal

pub returns-in_ok-operation-in-Put-clause-ok : goal.returns-in_ok-operation-in-Put-clause-ok
returns-in_ok-operation-in-Put-clause-ok c = λ s stands.
    let name = c.as_slice.result.now in
    named_line s (lines.Put name c.in-Put.path c.in-Put.text) c.args.line.now name (λ d said after. Operates s d c.in_ok-operation-in-Put.operation said after) c.local.result c.local.new.self
    (ap (λ n. lines.Put n c.in-Put.path c.in-Put.text) c.as_slice.ensures ∙ sym c.in-Put.is) refl refl (λ d text new named o. (d, named, subst (λ x. Operates s d x text new) c.in_ok-operation-in-Put.ensures o)) (c.local.ensures.ok s stands)

pub returns-in-Fill-clause-ok : goal.returns-in-Fill-clause-ok
returns-in-Fill-clause-ok c = λ s stands.
    let name = c.as_slice-in-Fill.result.now in
    named_line s (lines.Fill name c.in-Fill.path c.in-Fill.length) c.args.line.now name (λ d said after. Operates s d (op.Put c.in-Fill.path (filled c.in-Fill.length)) said after) c.fill.result c.fill.new.self
    (ap (λ n. lines.Fill n c.in-Fill.path c.in-Fill.length) c.as_slice-in-Fill.ensures ∙ sym c.in-Fill.is) refl refl (λ d text new named o. (d, named, o)) (c.fill.ensures.ok s stands)

pub returns-in_ok-operation-in-Mkdir-clause-ok : goal.returns-in_ok-operation-in-Mkdir-clause-ok
returns-in_ok-operation-in-Mkdir-clause-ok c = λ s stands.
    let name = c.as_slice-in-Mkdir.result.now in
    named_line s (lines.Mkdir name c.in-Mkdir.path) c.args.line.now name (λ d said after. Operates s d c.in_ok-operation-in-Mkdir.operation said after) c.local-in-Mkdir.result c.local-in-Mkdir.new.self
    (ap (λ n. lines.Mkdir n c.in-Mkdir.path) c.as_slice-in-Mkdir.ensures ∙ sym c.in-Mkdir.is) refl refl (λ d text new named o. (d, named, subst (λ x. Operates s d x text new) c.in_ok-operation-in-Mkdir.ensures o)) (c.local-in-Mkdir.ensures.ok s stands)

pub returns-in_ok-operation-in-Move-clause-ok : goal.returns-in_ok-operation-in-Move-clause-ok
returns-in_ok-operation-in-Move-clause-ok c = λ s stands.
    let name = c.as_slice-in-Move.result.now in
    named_line s (lines.Move name c.in-Move.from c.in-Move.to) c.args.line.now name (λ d said after. Operates s d c.in_ok-operation-in-Move.operation said after) c.local-in-Move.result c.local-in-Move.new.self
    (ap (λ n. lines.Move n c.in-Move.from c.in-Move.to) c.as_slice-in-Move.ensures ∙ sym c.in-Move.is) refl refl (λ d text new named o. (d, named, subst (λ x. Operates s d x text new) c.in_ok-operation-in-Move.ensures o)) (c.local-in-Move.ensures.ok s stands)

pub returns-in_ok-operation-in-Remove-clause-ok : goal.returns-in_ok-operation-in-Remove-clause-ok
returns-in_ok-operation-in-Remove-clause-ok c = λ s stands.
    let name = c.as_slice-in-Remove.result.now in
    named_line s (lines.Remove name c.in-Remove.path) c.args.line.now name (λ d said after. Operates s d c.in_ok-operation-in-Remove.operation said after) c.local-in-Remove.result c.local-in-Remove.new.self
    (ap (λ n. lines.Remove n c.in-Remove.path) c.as_slice-in-Remove.ensures ∙ sym c.in-Remove.is) refl refl (λ d text new named o. (d, named, subst (λ x. Operates s d x text new) c.in_ok-operation-in-Remove.ensures o)) (c.local-in-Remove.ensures.ok s stands)

pub returns-in-Consume-clause-ok : goal.returns-in-Consume-clause-ok
returns-in-Consume-clause-ok c = λ s stands.
    let name = c.as_slice-in-Consume.result.now in
    named_line s (lines.Consume name c.in-Consume.moment) c.args.line.now name (λ d said after. Consumes s name d c.in-Consume.moment said after) c.consume_line.result c.consume_line.new.self
    (ap (λ n. lines.Consume n c.in-Consume.moment) c.as_slice-in-Consume.ensures ∙ sym c.in-Consume.is) refl refl (λ d text new named o. (d, named, o)) (c.consume_line.ensures.ok s stands)

pub returns-in-Change-clause-ok : goal.returns-in-Change-clause-ok
returns-in-Change-clause-ok c = λ s stands.
    let name = c.as_slice-in-Change.result.now in
    named_line s (lines.Change name c.in-Change.path c.in-Change.moment) c.args.line.now name (λ d said after. Changes s name d (op.Put c.in-Change.path []) c.in-Change.moment said after) c.change.result c.change.new.self
    (ap (λ n. lines.Change n c.in-Change.path c.in-Change.moment) c.as_slice-in-Change.ensures ∙ sym c.in-Change.is) refl refl (λ d text new named o. (d, named, o)) (c.change.ensures.ok s stands)

pub returns-in-Pull-clause-ok : goal.returns-in-Pull-clause-ok
returns-in-Pull-clause-ok c = λ s stands.
    let same = (λ i. lines.Pull (c.as_slice-in-Pull.ensures i) (c.as_slice-in-Pull-2.ensures i)) ∙ sym c.in-Pull.is in
    subst (λ l. IfOk c.pull_line.result (λ text. (new : Scene) × Does s l (string_bytes text) new × Stands c.pull_line.new.self new)) same (c.pull_line.ensures.ok s stands)

pub returns-in-Show-clause-ok : goal.returns-in-Show-clause-ok
returns-in-Show-clause-ok c = λ s stands.
    let name = c.as_slice-in-Show.result.now in
    printed_line s (lines.Show name) c.args.line.now name (λ d said after. Shows s d said × (after ≡ s)) c.show.result c.args.self.now
    (ap lines.Show c.as_slice-in-Show.ensures ∙ sym c.in-Show.is) refl refl (λ d text named o. (d, named, o.0, o.1)) stands (c.show.ensures s stands)

pub returns-in-Tree-clause-ok : goal.returns-in-Tree-clause-ok
returns-in-Tree-clause-ok c = λ s stands.
    let name = c.as_slice-in-Tree.result.now in
    printed_line s (lines.Tree name) c.args.line.now name (λ d said after. PrintsTree s d said × (after ≡ s)) c.tree.result c.args.self.now
    (ap lines.Tree c.as_slice-in-Tree.ensures ∙ sym c.in-Tree.is) refl refl (λ d text named o. (d, named, o.0, o.1)) stands (c.tree.ensures s stands)

pub returns-in-Sums-clause-ok : goal.returns-in-Sums-clause-ok
returns-in-Sums-clause-ok c = λ s stands.
    let name = c.as_slice-in-Sums.result.now in
    printed_line s (lines.Sums name) c.args.line.now name (λ d said after. PrintsSums s d said × (after ≡ s)) c.sums.result c.args.self.now
    (ap lines.Sums c.as_slice-in-Sums.ensures ∙ sym c.in-Sums.is) refl refl (λ d text named o. (d, named, o.0, o.1)) stands (c.sums.ensures s stands)

pub returns-in-Count-clause-ok : goal.returns-in-Count-clause-ok
returns-in-Count-clause-ok c = λ s stands.
    let name = c.as_slice-in-Count.result.now in
    printed_line s (lines.Count name) c.args.line.now name (λ d said after. Counts s d said × (after ≡ s)) c.count.result c.args.self.now
    (ap lines.Count c.as_slice-in-Count.ensures ∙ sym c.in-Count.is) refl refl (λ d text named o. (d, named, o.0, o.1)) stands (c.count.ensures s stands)

pub returns-in-Member-clause-err : goal.returns-in-Member-clause-err
returns-in-Member-clause-err c = λ s stands. on_err_weaker c.add.result (λ on. (s, nothing_begun s c.args.line.now, on)) (c.add.ensures.err s stands)

pub returns-in_err-operation-in-Put-clause-err : goal.returns-in_err-operation-in-Put-clause-err
returns-in_err-operation-in-Put-clause-err c = λ s stands. on_err c.from_residual.result (s, nothing_begun s c.args.line.now, stands)

pub returns-in_err-operation-in-Mkdir-clause-err : goal.returns-in_err-operation-in-Mkdir-clause-err
returns-in_err-operation-in-Mkdir-clause-err c = λ s stands. on_err c.from_residual-in_err-operation-in-Mkdir.result (s, nothing_begun s c.args.line.now, stands)

pub returns-in_err-operation-in-Move-clause-err : goal.returns-in_err-operation-in-Move-clause-err
returns-in_err-operation-in-Move-clause-err c = λ s stands. on_err c.from_residual-in_err-operation-in-Move.result (s, nothing_begun s c.args.line.now, stands)

pub returns-in_err-operation-in-Remove-clause-err : goal.returns-in_err-operation-in-Remove-clause-err
returns-in_err-operation-in-Remove-clause-err c = λ s stands. on_err c.from_residual-in_err-operation-in-Remove.result (s, nothing_begun s c.args.line.now, stands)

pub returns-in_ok-operation-in-Put-clause-err : goal.returns-in_ok-operation-in-Put-clause-err
returns-in_ok-operation-in-Put-clause-err c = λ s stands.
    let name = c.as_slice.result.now in
    line_begun s (lines.Put name c.in-Put.path c.in-Put.text) c.args.line.now (λ new. BeginsAt s name (λ d w. OperatesOnce s.world d c.in_ok-operation-in-Put.operation w) new) c.local.result c.local.new.self
    (ap (λ n. lines.Put n c.in-Put.path c.in-Put.text) c.as_slice.ensures ∙ sym c.in-Put.is) (λ new b. subst (λ o. BeginsAt s name (λ d w. OperatesOnce s.world d o w) new) c.in_ok-operation-in-Put.ensures b) (c.local.ensures.err s stands)

pub returns-in_ok-operation-in-Mkdir-clause-err : goal.returns-in_ok-operation-in-Mkdir-clause-err
returns-in_ok-operation-in-Mkdir-clause-err c = λ s stands.
    let name = c.as_slice-in-Mkdir.result.now in
    line_begun s (lines.Mkdir name c.in-Mkdir.path) c.args.line.now (λ new. BeginsAt s name (λ d w. OperatesOnce s.world d c.in_ok-operation-in-Mkdir.operation w) new) c.local-in-Mkdir.result c.local-in-Mkdir.new.self
    (ap (λ n. lines.Mkdir n c.in-Mkdir.path) c.as_slice-in-Mkdir.ensures ∙ sym c.in-Mkdir.is) (λ new b. subst (λ o. BeginsAt s name (λ d w. OperatesOnce s.world d o w) new) c.in_ok-operation-in-Mkdir.ensures b) (c.local-in-Mkdir.ensures.err s stands)

pub returns-in_ok-operation-in-Move-clause-err : goal.returns-in_ok-operation-in-Move-clause-err
returns-in_ok-operation-in-Move-clause-err c = λ s stands.
    let name = c.as_slice-in-Move.result.now in
    line_begun s (lines.Move name c.in-Move.from c.in-Move.to) c.args.line.now (λ new. BeginsAt s name (λ d w. OperatesOnce s.world d c.in_ok-operation-in-Move.operation w) new) c.local-in-Move.result c.local-in-Move.new.self
    (ap (λ n. lines.Move n c.in-Move.from c.in-Move.to) c.as_slice-in-Move.ensures ∙ sym c.in-Move.is) (λ new b. subst (λ o. BeginsAt s name (λ d w. OperatesOnce s.world d o w) new) c.in_ok-operation-in-Move.ensures b) (c.local-in-Move.ensures.err s stands)

pub returns-in_ok-operation-in-Remove-clause-err : goal.returns-in_ok-operation-in-Remove-clause-err
returns-in_ok-operation-in-Remove-clause-err c = λ s stands.
    let name = c.as_slice-in-Remove.result.now in
    line_begun s (lines.Remove name c.in-Remove.path) c.args.line.now (λ new. BeginsAt s name (λ d w. OperatesOnce s.world d c.in_ok-operation-in-Remove.operation w) new) c.local-in-Remove.result c.local-in-Remove.new.self
    (ap (λ n. lines.Remove n c.in-Remove.path) c.as_slice-in-Remove.ensures ∙ sym c.in-Remove.is) (λ new b. subst (λ o. BeginsAt s name (λ d w. OperatesOnce s.world d o w) new) c.in_ok-operation-in-Remove.ensures b) (c.local-in-Remove.ensures.err s stands)

pub returns-in-Fill-clause-err : goal.returns-in-Fill-clause-err
returns-in-Fill-clause-err c = λ s stands.
    let name = c.as_slice-in-Fill.result.now in
    line_begun s (lines.Fill name c.in-Fill.path c.in-Fill.length) c.args.line.now (λ new. BeginsAt s name (λ d w. OperatesOnce s.world d (op.Put c.in-Fill.path (filled c.in-Fill.length)) w) new) c.fill.result c.fill.new.self
    (ap (λ n. lines.Fill n c.in-Fill.path c.in-Fill.length) c.as_slice-in-Fill.ensures ∙ sym c.in-Fill.is) (λ new b. b) (c.fill.ensures.err s stands)

pub returns-in-Consume-clause-err : goal.returns-in-Consume-clause-err
returns-in-Consume-clause-err c = λ s stands.
    let name = c.as_slice-in-Consume.result.now in
    line_begun s (lines.Consume name c.in-Consume.moment) c.args.line.now (λ new. BeginsAt s name (λ d w. (one : Consumed) × ConsumesOne s.world d c.in-Consume.moment one w) new) c.consume_line.result c.consume_line.new.self
    (ap (λ n. lines.Consume n c.in-Consume.moment) c.as_slice-in-Consume.ensures ∙ sym c.in-Consume.is) (λ new b. b) (c.consume_line.ensures.err s stands)

pub returns-in-Change-clause-err : goal.returns-in-Change-clause-err
returns-in-Change-clause-err c = λ s stands.
    let name = c.as_slice-in-Change.result.now in
    line_begun s (lines.Change name c.in-Change.path c.in-Change.moment) c.args.line.now (λ new. BeginsAt s name (λ d w. BeginsChange s.world d (op.Put c.in-Change.path []) c.in-Change.moment w) new) c.change.result c.change.new.self
    (ap (λ n. lines.Change n c.in-Change.path c.in-Change.moment) c.as_slice-in-Change.ensures ∙ sym c.in-Change.is) (λ new b. b) (c.change.ensures.err s stands)

pub returns-in-Pull-clause-err : goal.returns-in-Pull-clause-err
returns-in-Pull-clause-err c = λ s stands.
    let same = (λ i. lines.Pull (c.as_slice-in-Pull.ensures i) (c.as_slice-in-Pull-2.ensures i)) ∙ sym c.in-Pull.is in
    subst (λ l. OnErr c.pull_line.result ((new : Scene) × Begins s l new × Stands c.pull_line.new.self new)) same (c.pull_line.ensures.err s stands)

pub returns-in-Show-clause-err : goal.returns-in-Show-clause-err
returns-in-Show-clause-err c = λ s stands. on_err c.show.result (s, nothing_begun s c.args.line.now, stands)

pub returns-in-Tree-clause-err : goal.returns-in-Tree-clause-err
returns-in-Tree-clause-err c = λ s stands. on_err c.tree.result (s, nothing_begun s c.args.line.now, stands)

pub returns-in-Sums-clause-err : goal.returns-in-Sums-clause-err
returns-in-Sums-clause-err c = λ s stands. on_err c.sums.result (s, nothing_begun s c.args.line.now, stands)

pub returns-in-Count-clause-err : goal.returns-in-Count-clause-err
returns-in-Count-clause-err c = λ s stands. on_err c.count.result (s, nothing_begun s c.args.line.now, stands)

pub returns-in-Install-clause-ok : goal.returns-in-Install-clause-ok
returns-in-Install-clause-ok c = λ s stands.
    let name = c.as_slice-in-Install.result.now in
    named_line s (lines.Install name) c.args.line.now name (λ d said after. InstallsNext s name d said after) c.install_line.result c.install_line.new.self
    (ap lines.Install c.as_slice-in-Install.ensures ∙ sym c.in-Install.is) refl refl (λ d text new named o. (d, named, o)) (c.install_line.ensures.ok s stands)

pub returns-in-Install-clause-err : goal.returns-in-Install-clause-err
returns-in-Install-clause-err c = λ s stands.
    let name = c.as_slice-in-Install.result.now in
    line_begun s (lines.Install name) c.args.line.now (λ new. BeginsAt s name (λ d w. (step : Step) × Installs s d (Ok (Some step)) w) new) c.install_line.result c.install_line.new.self
    (ap lines.Install c.as_slice-in-Install.ensures ∙ sym c.in-Install.is) (λ new b. b) (c.install_line.ensures.err s stands)

pub returns-in-Drain-clause-ok : goal.returns-in-Drain-clause-ok
returns-in-Drain-clause-ok c = λ s stands.
    let name = c.as_slice-in-Drain.result.now in
    named_line s (lines.Drain name) c.args.line.now name (λ d said after. DrainsAll s d said after) c.drain_line.result c.drain_line.new.self
    (ap lines.Drain c.as_slice-in-Drain.ensures ∙ sym c.in-Drain.is) refl refl (λ d text new named o. (d, named, o)) (c.drain_line.ensures.ok s stands)

pub returns-in-Drain-clause-err : goal.returns-in-Drain-clause-err
returns-in-Drain-clause-err c = λ s stands.
    let name = c.as_slice-in-Drain.result.now in
    line_begun s (lines.Drain name) c.args.line.now (λ new. BeginsAt s name (λ d w. (steps : List Step) × InstallsSome s d steps w) new) c.drain_line.result c.drain_line.new.self
    (ap lines.Drain c.as_slice-in-Drain.ensures ∙ sym c.in-Drain.is) (λ new b. b) (c.drain_line.ensures.err s stands)
