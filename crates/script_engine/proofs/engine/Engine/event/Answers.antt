use Rattle.std.proofs.Common.{◌≡◌, ◌∙◌, ap, subst, sym, length}
use Rattle.std.specs.Prelude.{Some, map, slice_get, slice_set}
use Rattle.std.proofs.lemmas.List.{length-set}
use Rattle.std.proofs.lemmas.Result.{on_err_weaker}
use Rattle.folder_core.specs.Replay.{Does, Seen}
use Rattle.script_engine.specs.declared.engine.Engine.{Engine}
use Rattle.script_engine.specs.Engines.{Answered}
use Rattle.script_engine.specs.Histories.{Entered}
use Rattle.script_engine.proofs.Events.{answered_by, ok_by}
use Rattle.script_engine.proofs.Pairs.{set_same}
use Rattle.script_engine.proofs.engine.Engine.event.Goals as goal

pub returns-clause-ok : goal.returns-clause-ok
returns-clause-ok c =
    let old = c.args.self.now in
    let new : Engine = record { names = old.names; folders = c.change.new.self } in
    let (first, last, found, made, items) = c.change.ensures.changed in
    let (does, (sound, (usns, err))) = made.met in
    let before = made.shown.now in
    let after = made.left.now in
    let was = subst (λ f. slice_get old.folders.items c.args.at ≡ Some f) (sym made.shows) found in
    let now = items ∙ ap (slice_set old.folders.items c.args.at) (sym made.leaves) in
    ok_by c.change.result (λ reply. Does 0 c.args.event reply before after) (λ reply. Answered c.args.at c.args.event reply old new) does
    (λ reply did. answered_by 0 c.args.at c.args.event reply old new before after was now did sound usns)

pub returns-clause-many : goal.returns-clause-many
returns-clause-many c =
    let (first, last, found, made, items) = c.change.ensures.changed in
    ap length items ∙ length-set c.args.self.now.folders.items c.args.at last

pub returns-clause-err : goal.returns-clause-err
returns-clause-err c =
    let folders = c.args.self.now.folders.items in
    let (first, last, found, made, items) = c.change.ensures.changed in
    let (does, (sound, (usns, err))) = made.met in
    on_err_weaker c.change.result (λ same. ap (map (λ (f : Seen). f.machine)) (items ∙ ap (slice_set folders c.args.at) (sym made.leaves ∙ same ∙ made.shows) ∙ set_same folders c.args.at first found)) err

pub returns-clause-entered : goal.returns-clause-entered
returns-clause-entered c =
    let old = c.args.self.now in
    let new : Engine = record { names = old.names; folders = c.change.new.self } in
    let (first, last, found, made, items) = c.change.ensures.changed in
    let (does, (sound, (usns, err))) = made.met in
    let before = made.shown.now in
    let after = made.left.now in
    let was = subst (λ f. slice_get old.folders.items c.args.at ≡ Some f) (sym made.shows) found in
    let now = items ∙ ap (slice_set old.folders.items c.args.at) (sym made.leaves) in
    ok_by c.change.result (λ reply. Does 0 c.args.event reply before after) (λ reply. Entered c.args.at c.args.event reply old new) does
    (λ reply did. record { before = before; after = after; found = was; does = did; folders = now })
