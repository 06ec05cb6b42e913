use Rattle.std.proofs.Common.{◌∙◌, ap}
use Rattle.std.specs.Prelude.{not, option_map}
use Rattle.frs_base.specs.Options.{kept_if}
use Rattle.win_order.specs.Order.{key_lt, key_of}
use Rattle.name_rules.specs.Recorded.{held_of}
use Rattle.folder_core.specs.declared.refusal.Refusal.TheVariants.{Beaten}
use Rattle.folder_core.specs.Machine.{Machine}
use Rattle.folder_core.proofs.machine.Machine.beaten.Goals as goal

pub returns : goal.returns
returns c =
    c.beaten_by.ensures
    ∙ ap (λ found. option_map Beaten (kept_if (λ held. not (key_lt held (key_of c.args.update.now))) (option_map key_of found)))
    (c.held.ensures ∙ ap (λ (m : Machine). held_of m.book.records c.args.update.now.uid) c.self.view_is)
