use Rattle.std.proofs.Common.{◌≡◌, ◌-◌, ◌+◌, ◌∙◌, ◌++◌, ◌∷◌, [], suc, length, map, None, Some, sym, ap, arith, refl}
use Rattle.std.proofs.lemmas.List.{map_push}
use Rattle.script_engine.specs.Rows.{names_up}
use Rattle.script_engine.proofs.Climbing.{arrived, behind, climbed, from_limbo}
use Rattle.script_engine.proofs.rows.names_up.Goals as goal

pub returns-in_default : goal.returns-in_default
returns-in_default c =
    let objects = c.args.volume.now.state.objects in
    sym (from_limbo objects (length objects - c.loop-step._step) c.loop-step.at.now.place (map (λ name. name.now) c.loop-step.names.items) c.in_default.is) ∙ c.loop-step.invariant

pub returns-then-parent-eq0 : goal.returns-then-parent-eq0
returns-then-parent-eq0 c =
    let objects = c.args.volume.now.state.objects in
    let left = length objects - (c.loop-step._step + 1) in
    let steps : length objects - c.loop-step._step ≡ suc left = omega (arith, c.loop-step-test.true, ap length c.objects-count.ensures.objects) in
    let at : c.loop-step.at.now.place ≡ Some (c.in-Some.parent, c.in-Some.name) = cc in
    let more : map (λ name. name.now) c.push.new.self.items ≡ map (λ name. name.now) c.loop-step.names.items ++ c.in-Some.name ∷ [] =
    ap (map (λ name. name.now)) c.in_ok-push.ensures.items ∙ map_push (λ name. name.now) c.loop-step.names.items _ in
    ap Some more
    ∙ sym (arrived objects (length objects - c.loop-step._step) left c.loop-step.at.now.place (map (λ name. name.now) c.loop-step.names.items) (c.in-Some.parent, c.in-Some.name) steps at c.if-parent-eq0.true)
    ∙ c.loop-step.invariant

pub returns-in_default-object_at : goal.returns-in_default-object_at
returns-in_default-object_at c =
    let objects = c.args.volume.now.state.objects in
    let left = length objects - (c.loop-step._step + 1) in
    let steps : length objects - c.loop-step._step ≡ suc left = omega (arith, c.loop-step-test.true, ap length c.objects-count.ensures.objects) in
    let at : c.loop-step.at.now.place ≡ Some (c.in-Some.parent, c.in-Some.name) = cc in
    let names = map (λ name. name.now) c.loop-step.names.items in
    sym (from_limbo objects left None (names ++ c.in-Some.name ∷ []) refl)
    ∙ sym (climbed objects (length objects - c.loop-step._step) left c.loop-step.at.now.place names (c.in-Some.parent, c.in-Some.name) None steps at c.if-parent-eq0.false (sym c.in_default-object_at.ensures.object))
    ∙ c.loop-step.invariant

pub loop-step-preserved : goal.loop-step-preserved
loop-step-preserved c =
    let objects = c.args.volume.now.state.objects in
    let left = length objects - (c.loop-step._step + 1) in
    let steps : length objects - c.loop-step._step ≡ suc left = omega (arith, c.loop-step-test.true, ap length c.objects-count.ensures.objects) in
    let at : c.loop-step.at.now.place ≡ Some (c.in-Some.parent, c.in-Some.name) = cc in
    let names = map (λ name. name.now) c.loop-step.names.items in
    let up = c.in-Some-object_at.up.now in
    let more : map (λ name. name.now) c.push.new.self.items ≡ names ++ c.in-Some.name ∷ [] =
    ap (map (λ name. name.now)) c.in_ok-push.ensures.items ∙ map_push (λ name. name.now) c.loop-step.names.items _ in
    ap (λ l. behind l (names_up objects left up.place)) more
    ∙ sym (climbed objects (length objects - c.loop-step._step) left c.loop-step.at.now.place names (c.in-Some.parent, c.in-Some.name) (Some up) steps at c.if-parent-eq0.false (sym c.in-Some-object_at.ensures.object))
    ∙ c.loop-step.invariant
