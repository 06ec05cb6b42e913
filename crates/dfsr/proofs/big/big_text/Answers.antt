use Rattle.std.proofs.Common.{◌≡◌, ◌∙◌, ◌++◌, string_bytes, subst}
use Rattle.script_engine.specs.Scene.{fresh_scene}
use Rattle.dfsr.specs.Big.{counts, groups, opening, rounds}
use Rattle.dfsr.specs.Leading.{Leads, LeadsOn}
use Rattle.dfsr.proofs.Leading.{has_scene, has_scene_on, last_printed, lead_on, leads_on}
use Rattle.dfsr.proofs.big.big_text.Goals as goal

pub run_groups-requires-clause-scene : goal.run_groups-requires-clause-scene
run_groups-requires-clause-scene c =
    has_scene c.new-engine.result c.run_lines.new.engine c.deref.result.now (string_bytes c.in_ok-run_lines.field-0) c.in_ok-run_lines.ensures.ok (fresh_scene, c.new-engine.ensures.stands)

pub run_rounds-requires-clause-scene : goal.run_rounds-requires-clause-scene
run_rounds-requires-clause-scene c =
    let opened = has_scene c.new-engine.result c.run_lines.new.engine c.deref.result.now (string_bytes c.in_ok-run_lines.field-0) c.in_ok-run_lines.ensures.ok (fresh_scene, c.new-engine.ensures.stands) in
    has_scene_on c.run_lines.new.engine c.run_groups.new.engine (groups c.args.seed c.args.count) c.in_ok-run_groups.ensures.ok opened

pub run_lines-requires-2-clause-scene : goal.run_lines-requires-2-clause-scene
run_lines-requires-2-clause-scene c =
    let opened = has_scene c.new-engine.result c.run_lines.new.engine c.deref.result.now (string_bytes c.in_ok-run_lines.field-0) c.in_ok-run_lines.ensures.ok (fresh_scene, c.new-engine.ensures.stands) in
    let grouped = has_scene_on c.run_lines.new.engine c.run_groups.new.engine (groups c.args.seed c.args.count) c.in_ok-run_groups.ensures.ok opened in
    has_scene_on c.run_groups.new.engine c.run_rounds.new.engine (rounds 3) c.in_ok-run_rounds.ensures.ok grouped

pub returns : goal.returns
returns c =
    let fresh = c.new-engine.result in
    let opened = c.run_lines.new.engine in
    let grouped = c.run_groups.new.engine in
    let settled = c.run_rounds.new.engine in
    let counted = c.run_lines-2.new.engine in
    let opens : c.deref.result.now ≡ opening = c.deref.ensures.value ∙ c.in_ok-opening.ensures in
    let counting : c.deref-2.result.now ≡ counts = c.deref-2.ensures.value ∙ c.in_ok-counts.ensures in
    let first : LeadsOn fresh opening opened =
    subst (λ ls. LeadsOn fresh ls opened) opens (leads_on fresh opened c.deref.result.now (string_bytes c.in_ok-run_lines.field-0) c.in_ok-run_lines.ensures.ok) in
    let then = lead_on fresh opened grouped opening (groups c.args.seed c.args.count) first c.in_ok-run_groups.ensures.ok in
    let all = lead_on fresh grouped settled (opening ++ groups c.args.seed c.args.count) (rounds 3) then c.in_ok-run_rounds.ensures.ok in
    let last : Leads settled counts (string_bytes c.in_ok-text.text) counted = subst (λ ls. Leads settled ls (string_bytes c.in_ok-text.text) counted) counting c.in_ok-text.ensures.ok in
    last_printed fresh settled counted (opening ++ groups c.args.seed c.args.count ++ rounds 3) counts (string_bytes c.in_ok-text.text) c.new-engine.ensures.stands all last
