use Rattle.std.proofs.Common.{subst, IfOk, inl, refl, OnErr}
use Rattle.std.specs.Prelude.{string_bytes}
use Rattle.script_engine.specs.Begun.{BeginsAt, OperatesOnce}
use Rattle.script_engine.specs.Engines.{AtNamed, Stands}
use Rattle.script_engine.specs.Scene.{Scene}
use Rattle.script_engine.specs.Text.{Operates}
use Rattle.script_engine.proofs.Beginning.{on_err}
use Rattle.script_engine.proofs.engine.Engine.fill.Goals as goal

pub returns-clause-ok : goal.returns-clause-ok
returns-clause-ok c = λ s stands.
    subst (λ o. IfOk c.local.result (λ text. (new : Scene) × AtNamed s c.args.name.now (λ d said after. Operates s d o said after) (string_bytes text) new × Stands c.local.new.self new))
    c.in_ok-operation.ensures (c.local.ensures.ok s stands)

pub returns-then-length-gt-LARGEST-clause-err : goal.returns-then-length-gt-LARGEST-clause-err
returns-then-length-gt-LARGEST-clause-err c = λ s stands. on_err c.fill_too_large.result (s, inl refl, stands)

pub returns-in_err-operation-clause-err : goal.returns-in_err-operation-clause-err
returns-in_err-operation-clause-err c = λ s stands. on_err c.from_residual.result (s, inl refl, stands)

pub returns-clause-err : goal.returns-clause-err
returns-clause-err c = λ s stands.
    subst (λ o. OnErr c.local.result ((new : Scene) × BeginsAt s c.args.name.now (λ d w. OperatesOnce s.world d o w) new × Stands c.local.new.self new)) c.in_ok-operation.ensures (c.local.ensures.err s stands)
