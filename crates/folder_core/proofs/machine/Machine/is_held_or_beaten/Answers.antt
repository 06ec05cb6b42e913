use Rattle.std.proofs.Common.{◌∙◌, ap}
use Rattle.std.specs.Prelude.{not}
use Rattle.frs_base.specs.Options.{some_is}
use Rattle.win_order.specs.Order.{key_lt, key_of}
use Rattle.name_rules.specs.Recorded.{held_of}
use Rattle.folder_core.specs.Machine.{Machine}
use Rattle.folder_core.proofs.machine.Machine.is_held_or_beaten.Goals as goal

pub returns : goal.returns
returns c =
    c.stands_by.ensures
    ∙ ap (λ found. some_is (λ r. not (key_lt (key_of r) (key_of c.args.update.now))) found)
    (c.held.ensures ∙ ap (λ (m : Machine). held_of m.book.records c.args.update.now.uid) c.self.view_is)
