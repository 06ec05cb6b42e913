use Rattle.std.proofs.Common.{◌∙◌, ap}
use Rattle.folder_core.specs.Machine.{Machine}
use Rattle.folder_core.proofs.Finishing.{least_found, none_allowed, none_found}
use Rattle.folder_core.proofs.machine.Machine.least_ahead.Goals as goal

pub returns-in-None-clause-least : goal.returns-in-None-clause-least
returns-in-None-clause-least c =
    none_found c.args.self.now c.own.result c.consumed-consumed.result c.intervals.result.now c.args.sent.now
    (c.own.ensures ∙ ap (λ (m : Machine). m.book.own) c.self.view_is)
    (c.consumed-consumed.ensures ∙ ap (λ (m : Machine). m.book.consumed) c.self.view_is)
    c.intervals.ensures.intervals c.in-None.ensures

pub returns-in-None-clause-allowed : goal.returns-in-None-clause-allowed
returns-in-None-clause-allowed c =
    none_allowed c.args.self.now c.own.result c.consumed-consumed.result c.intervals.result.now c.args.sent.now
    (c.own.ensures ∙ ap (λ (m : Machine). m.book.own) c.self.view_is)
    (c.consumed-consumed.ensures ∙ ap (λ (m : Machine). m.book.consumed) c.self.view_is)
    c.intervals.ensures.intervals c.in-None.ensures

pub returns-in-Some-clause-least : goal.returns-in-Some-clause-least
returns-in-Some-clause-least c =
    least_found c.args.self.now c.own.result c.consumed-consumed.result c.max.result c.intervals.result.now c.args.sent.now c.in-Some.interval.now
    (c.own.ensures ∙ ap (λ (m : Machine). m.book.own) c.self.view_is)
    (c.consumed-consumed.ensures ∙ ap (λ (m : Machine). m.book.consumed) c.self.view_is)
    c.intervals.ensures.intervals c.intervals.ensures.canonical c.in-Some.ensures c.max.ensures
