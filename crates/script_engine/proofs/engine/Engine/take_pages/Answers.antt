use Rattle.std.proofs.Common.{refl, ◌≡◌, ◌+◌, ◌++◌, ◌∷◌, [], ◌∙◌, ap, sym, subst, length, suc, true, false, Some, None, arith}
use Rattle.frs_base.specs.Identifiers.{database_of}
use Rattle.name_rules.specs.Tree.{is_file}
use Rattle.world_model.specs.Rounds.{IsWanted}
use Rattle.script_engine.specs.Engines.{Stands, local_by_all}
use Rattle.folder_core.specs.declared.event.Event.TheVariants.{Adopt}
use Rattle.script_engine.specs.Histories.{Adopted, Came}
use Rattle.script_engine.specs.Replies.{taken_of}
use Rattle.script_engine.specs.Pulling.{TakesPages}
use Rattle.script_engine.specs.Pulls.{CanTake, Took, after_taking}
use Rattle.script_engine.specs.Scene.{in_world}
use Rattle.script_engine.proofs.Beginning.{on_err}
use Rattle.script_engine.proofs.Paging.{PagesSo, in_place, page_can, pages_cut, pages_end, pages_first, pages_list, pages_pass, pages_take}
use Rattle.script_engine.proofs.Puller.{said_no, said_yes}
use Rattle.script_engine.proofs.engine.Engine.take_pages.Goals as goal
use Rattle.script_engine.proofs.engine.Engine.take_pages.Goals.{then-wants+then-is_file+in_ok-copy+in_ok-push, then-wants+else-is_file+in_ok-update+in_ok-refusal+in_default, else-wants}

pub adopt-requires-clause-may : goal.adopt-requires-clause-may
adopt-requires-clause-may c =
    let p = database_of (c.args.at + 1) in
    let page = c.args.page.now in
    let i = c.loop-update.update-index in
    let u = c.update-item.result in
    let (s, stands, pages) = c.requires.may in
    let (w, so, on) = c.loop-update.invariant.ran s stands pages in
    let wanted = said_yes c.wants.result (IsWanted w p u) (c.wants.ensures (in_world s w) on) c.if-wants.true in
    let can = page_can s.world w p c.args.from page u stands.machines.scene.world.invariant.versions pages so.grows (in_place page i u c.loop-update-test.true c.update-item.is) wanted in
    (in_world s w, on, subst (CanTake w p c.args.from) (sym c.in_ok-update.ensures) can)

pub adopt-requires-clause-form : goal.adopt-requires-clause-form
adopt-requires-clause-form c = λ file. absurd (cc (sym c.is_file.ensures ∙ c.if-is_file.false, subst (λ v. is_file v ≡ true) c.in_ok-update.ensures file))

pub returns-in-Err-clause-ok : goal.returns-in-Err-clause-ok
returns-in-Err-clause-ok c = λ s stands pages.
    let p = database_of (c.args.at + 1) in
    let e = c.args.from in
    let page = c.args.page.now in
    let i = c.loop-update.update-index in
    let u = c.update-item.result in
    let (w, so, on) = c.loop-update.invariant.ran s stands pages in
    let wanted = said_yes c.wants.result (IsWanted w p u) (c.wants.ensures (in_world s w) on) c.if-wants.true in
    let can = page_can s.world w p e page u stands.machines.scene.world.invariant.versions pages so.grows (in_place page i u c.loop-update-test.true c.update-item.is) wanted in
    let (next, took, after) = c.in_ok-refusal.ensures.ok (in_world s w) None on (subst (CanTake w p e) (sym c.in_ok-update.ensures) can) refl in
    let (count, much, why, same) = subst (λ o. Took w p e u o next) c.in-Err.is (subst (λ v. Took w p e v c.in_ok-refusal.field-0 next) c.in_ok-update.ensures took) in
    let file : is_file u ≡ false = sym c.is_file.ensures ∙ c.if-is_file.false in
    let cut = pages_cut s.world p e page i w c.loop-update.listed.items c.loop-update.taken u count so c.loop-update-test.true c.update-item.is file much in
    let listed = c.loop-update.listed.items ++ [] in
    let taken = c.loop-update.taken + 0 in
    (next, (listed, taken, subst (λ z. TakesPages s.world p e page listed taken (Some z) next) (sym why) (subst (TakesPages s.world p e page listed taken _) (sym same) cut)), subst (λ o. Stands c.adopt.new.self (after_taking (in_world s w) p c.in_ok-update.update None o next)) c.in-Err.is after)

pub loop-update-preserved : goal.loop-update-preserved
loop-update-preserved c = elim c.if-wants.branch [
  | then-wants+then-is_file+in_ok-copy+in_ok-push b ↦
      let l = c.loop-update.invariant in
      record {
        many = ap (λ x. length x.folders.items) b.self-is ∙ l.many;
        made = ap local_by_all b.self-is ∙ l.made;
        few = let few = l.few in let taken = b.taken-is in omega (arith, few, taken);
        adopted = subst (λ x. Adopted c.args.at c.args.from c.args.entry c.if-wants.taken c.args.self.now x) (sym b.self-is) (subst (λ n. Adopted c.args.at c.args.from c.args.entry n c.args.self.now c.loop-update.self) (sym b.taken-is) l.adopted);
        ran = λ s stands pages.
            let p = database_of (c.args.at + 1) in
            let e = c.args.from in
            let page = c.args.page.now in
            let i = c.loop-update.update-index in
            let u = c.update-item.result in
            let (w, so, on) = l.ran s stands pages in
            let wanted = said_yes c.wants.result (IsWanted w p u) (c.wants.ensures (in_world s w) on) b.if-wants.true in
            let file : is_file u ≡ true = sym b.is_file.ensures ∙ b.if-is_file.true in
            let listed : c.if-wants.listed.items ≡ c.loop-update.listed.items ++ u ∷ [] = ap (λ v. v.items) b.listed-is ∙ b.in_ok-push.ensures.items ∙ (λ j. c.loop-update.listed.items ++ b.in_ok-copy.ensures j ∷ []) in
            let so' = pages_list s.world p e page i w c.loop-update.listed.items c.loop-update.taken u so c.loop-update-test.true c.update-item.is wanted file in (
              w,
              subst (λ x. PagesSo s.world p e page (i + 1) w x c.if-wants.taken) (sym listed) (subst (PagesSo s.world p e page (i + 1) w (c.loop-update.listed.items ++ u ∷ [])) (sym b.taken-is) so'),
              subst (λ x. Stands x (in_world s w)) (sym b.self-is) on,
            );
      }
  | then-wants+else-is_file+in_ok-update+in_ok-refusal+in_default b ↦
      let l = c.loop-update.invariant in
      record {
        many = ap (λ x. length x.folders.items) b.self-is ∙ b.adopt.ensures.many ∙ l.many;
        made = ap local_by_all b.self-is ∙ b.in_ok-refusal.ensures.made ∙ l.made;
        few = let few = l.few in let taken = b.taken-is in omega (arith, few, taken);
        adopted =
            let one = b.taken-is in
            let more : c.if-wants.taken ≡ suc c.loop-update.taken = omega (arith, one) in
            let came = subst (λ o. Came c.args.at (Adopt c.args.from c.args.entry b.in_ok-update.update None) taken_of o c.loop-update.self b.adopt.new.self) b.in_default.is b.in_ok-refusal.ensures.came in
            subst (λ x. Adopted c.args.at c.args.from c.args.entry c.if-wants.taken c.args.self.now x) (sym b.self-is)
            (subst (λ n. Adopted c.args.at c.args.from c.args.entry n c.args.self.now b.adopt.new.self) (sym more) (c.loop-update.self, b.in_ok-update.update, l.adopted, came));
        ran = λ s stands pages.
            let p = database_of (c.args.at + 1) in
            let e = c.args.from in
            let page = c.args.page.now in
            let i = c.loop-update.update-index in
            let u = c.update-item.result in
            let (w, so, on) = l.ran s stands pages in
            let wanted = said_yes c.wants.result (IsWanted w p u) (c.wants.ensures (in_world s w) on) b.if-wants.true in
            let can = page_can s.world w p e page u stands.machines.scene.world.invariant.versions pages so.grows (in_place page i u c.loop-update-test.true c.update-item.is) wanted in
            let (next, took, after) = b.in_ok-refusal.ensures.ok (in_world s w) None on (subst (CanTake w p e) (sym b.in_ok-update.ensures) can) refl in
            let takes = subst (λ o. Took w p e u o next) b.in_default.is (subst (λ v. Took w p e v b.in_ok-refusal.field-0 next) b.in_ok-update.ensures took) in
            let file : is_file u ≡ false = sym b.is_file.ensures ∙ b.if-is_file.false in
            let listed : c.if-wants.listed.items ≡ c.loop-update.listed.items = ap (λ v. v.items) b.listed-is in
            let sound = on.machines.scene.world.invariant in
            let so' = pages_take s.world p e page i w c.loop-update.listed.items c.loop-update.taken u next sound.versions sound.sent so c.loop-update-test.true c.update-item.is file takes in (
              next,
              subst (λ x. PagesSo s.world p e page (i + 1) next x c.if-wants.taken) (sym listed) (subst (PagesSo s.world p e page (i + 1) next c.loop-update.listed.items) (sym b.taken-is) so'),
              subst (λ x. Stands x (in_world s next)) (sym b.self-is) (subst (λ o. Stands b.adopt.new.self (after_taking (in_world s w) p b.in_ok-update.update None o next)) b.in_default.is after),
            );
      }
  | else-wants b ↦
      let l = c.loop-update.invariant in
      record {
        many = ap (λ x. length x.folders.items) b.self-is ∙ l.many;
        made = ap local_by_all b.self-is ∙ l.made;
        few = let few = l.few in let taken = b.taken-is in omega (arith, few, taken);
        adopted = subst (λ x. Adopted c.args.at c.args.from c.args.entry c.if-wants.taken c.args.self.now x) (sym b.self-is) (subst (λ n. Adopted c.args.at c.args.from c.args.entry n c.args.self.now c.loop-update.self) (sym b.taken-is) l.adopted);
        ran = λ s stands pages.
            let p = database_of (c.args.at + 1) in
            let e = c.args.from in
            let page = c.args.page.now in
            let i = c.loop-update.update-index in
            let u = c.update-item.result in
            let (w, so, on) = l.ran s stands pages in
            let never = said_no c.wants.result (IsWanted w p u) (c.wants.ensures (in_world s w) on) b.if-wants.false in
            let listed : c.if-wants.listed.items ≡ c.loop-update.listed.items = ap (λ v. v.items) b.listed-is in
            let so' = pages_pass s.world p e page i w c.loop-update.listed.items c.loop-update.taken u so c.loop-update-test.true c.update-item.is never in (
              w,
              subst (λ x. PagesSo s.world p e page (i + 1) w x c.if-wants.taken) (sym listed) (subst (PagesSo s.world p e page (i + 1) w c.loop-update.listed.items) (sym b.taken-is) so'),
              subst (λ x. Stands x (in_world s w)) (sym b.self-is) on,
            );
      }
]

pub returns-clause-ok : goal.returns-clause-ok
returns-clause-ok c = λ s stands pages.
    let p = database_of (c.args.at + 1) in
    let (w, so, on) = c.loop-update.invariant.ran s stands pages in
    (w, pages_end s.world p c.args.from c.args.page.now c.loop-update.update-index w c.loop-update.listed.items c.loop-update.taken so (let past = c.loop-update-test.false in omega (arith, past)), on)

pub returns-in_err-copy-clause-err : goal.returns-in_err-copy-clause-err
returns-in_err-copy-clause-err c = λ s stands pages.
    let (w, so, on) = c.loop-update.invariant.ran s stands pages in
    on_err c.from_residual.result (w, pages_first s.world (database_of (c.args.at + 1)) c.args.from c.args.page.now c.loop-update.update-index w c.loop-update.listed.items c.loop-update.taken so, on)

pub returns-in_err-push-clause-err : goal.returns-in_err-push-clause-err
returns-in_err-push-clause-err c = λ s stands pages.
    let (w, so, on) = c.loop-update.invariant.ran s stands pages in
    on_err c.from_residual-in_err-push.result (w, pages_first s.world (database_of (c.args.at + 1)) c.args.from c.args.page.now c.loop-update.update-index w c.loop-update.listed.items c.loop-update.taken so, on)

pub returns-in_err-update-clause-err : goal.returns-in_err-update-clause-err
returns-in_err-update-clause-err c = λ s stands pages.
    let (w, so, on) = c.loop-update.invariant.ran s stands pages in
    on_err c.from_residual-in_err-update.result (w, pages_first s.world (database_of (c.args.at + 1)) c.args.from c.args.page.now c.loop-update.update-index w c.loop-update.listed.items c.loop-update.taken so, on)

pub returns-in_err-refusal-clause-err : goal.returns-in_err-refusal-clause-err
returns-in_err-refusal-clause-err c = λ s stands pages.
    let (w, so, on) = c.loop-update.invariant.ran s stands pages in
    on_err c.from_residual-in_err-refusal.result (w, pages_first s.world (database_of (c.args.at + 1)) c.args.from c.args.page.now c.loop-update.update-index w c.loop-update.listed.items c.loop-update.taken so, c.in_err-refusal.ensures.err (in_world s w) on)

pub returns-clause-adopted : goal.returns-clause-adopted
returns-clause-adopted c = c.loop-update.invariant.adopted
