use Rattle.std.proofs.Common.{◌≡◌, ◌+◌, ◌∙◌, ap, sym, subst, length, suc, Some, arith}
use Rattle.frs_base.specs.Identifiers.{database_of}
use Rattle.world_model.specs.Rounds.{IsWanted}
use Rattle.script_engine.specs.Engines.{Stands, local_by_all}
use Rattle.folder_core.specs.declared.event.Event.TheVariants.{Adopt, File}
use Rattle.script_engine.specs.Histories.{Came, Fetches, answer_of}
use Rattle.script_engine.specs.Replies.{file_of, taken_of}
use Rattle.script_engine.specs.Pulling.{TakesFiles, with_given}
use Rattle.script_engine.specs.Pulls.{CanTake, FetchedFrom, Took, after_taking}
use Rattle.script_engine.specs.Scene.{in_world}
use Rattle.script_engine.proofs.Beginning.{on_err}
use Rattle.script_engine.proofs.Paging.{FilesSo, file_can, files_covered, files_cut, files_end, files_first, files_pass, files_take, files_wait, in_place}
use Rattle.script_engine.proofs.Puller.{said_no, said_yes}
use Rattle.script_engine.proofs.engine.Engine.take_files.Goals as goal
use Rattle.script_engine.proofs.engine.Engine.take_files.Goals.{then-wants+in_ok-fetched+in-Ok+in_ok-refusal+in_default, else-wants}

pub fetch-requires-clause-may : goal.fetch-requires-clause-may
fetch-requires-clause-may c =
    let e = database_of (c.args.from + 1) in
    let (s, stands, covered) = c.requires.may in
    let (t, so, on) = c.loop-file.invariant.ran s stands covered in
    (t, on, files_covered s.world t.world e c.args.files.now c.file-item.result covered so.grows (in_place c.args.files.now c.loop-file.file-index c.file-item.result c.loop-file-test.true c.file-item.is))

pub returns-in-Err-clause-ok : goal.returns-in-Err-clause-ok
returns-in-Err-clause-ok c = λ s stands covered.
    let p = database_of (c.args.at + 1) in
    let e = database_of (c.args.from + 1) in
    let files = c.args.files.now in
    let i = c.loop-file.file-index in
    let u = c.file-item.result in
    let (t, so, on) = c.loop-file.invariant.ran s stands covered in
    let wanted = said_yes c.wants.result (IsWanted t.world p u) (c.wants.ensures t on) c.if-wants.true in
    let known = files_covered s.world t.world e files u covered so.grows (in_place files i u c.loop-file-test.true c.file-item.is) in
    let (fetched, there) = c.in_ok-fetched.ensures.ok t on known in
    let last = subst (FetchedFrom t e u.uid) c.in-Err.is fetched in
    (t, (c.loop-file.taken + 0, files_wait s p e files i t c.loop-file.taken u c.in-Err.usn so c.loop-file-test.true c.file-item.is wanted last), there)

pub adopt-requires-clause-may : goal.adopt-requires-clause-may
adopt-requires-clause-may c =
    let p = database_of (c.args.at + 1) in
    let e = database_of (c.args.from + 1) in
    let files = c.args.files.now in
    let i = c.loop-file.file-index in
    let u = c.file-item.result in
    let v = c.in-Ok.fetched.update in
    let (s, stands, covered) = c.requires.may in
    let (t, so, on) = c.loop-file.invariant.ran s stands covered in
    let wanted = said_yes c.wants.result (IsWanted t.world p u) (c.wants.ensures t on) c.if-wants.true in
    let known = files_covered s.world t.world e files u covered so.grows (in_place files i u c.loop-file-test.true c.file-item.is) in
    let (fetched, there) = c.in_ok-fetched.ensures.ok t on known in
    let (file, of_file, has, (given, gives, is)) = subst (FetchedFrom t e u.uid) c.in-Ok.is fetched in
    (t, there, subst (λ n. CanTake t.world p n v) (sym c.loop-file.invariant.server) (file_can t.world p e u v known wanted file of_file))

pub adopt-requires-clause-form : goal.adopt-requires-clause-form
adopt-requires-clause-form c =
    let p = database_of (c.args.at + 1) in
    let e = database_of (c.args.from + 1) in
    let files = c.args.files.now in
    let i = c.loop-file.file-index in
    let u = c.file-item.result in
    let (s, stands, covered) = c.requires.may in
    let (t, so, on) = c.loop-file.invariant.ran s stands covered in
    let known = files_covered s.world t.world e files u covered so.grows (in_place files i u c.loop-file-test.true c.file-item.is) in
    let (fetched, there) = c.in_ok-fetched.ensures.ok t on known in
    let (file, of_file, has, (given, gives, is)) = subst (FetchedFrom t e u.uid) c.in-Ok.is fetched in
    has

pub returns-in-Err-2-clause-ok : goal.returns-in-Err-2-clause-ok
returns-in-Err-2-clause-ok c = λ s stands covered.
    let p = database_of (c.args.at + 1) in
    let e = database_of (c.args.from + 1) in
    let files = c.args.files.now in
    let i = c.loop-file.file-index in
    let u = c.file-item.result in
    let v = c.in-Ok.fetched.update in
    let (t, so, on) = c.loop-file.invariant.ran s stands covered in
    let wanted = said_yes c.wants.result (IsWanted t.world p u) (c.wants.ensures t on) c.if-wants.true in
    let known = files_covered s.world t.world e files u covered so.grows (in_place files i u c.loop-file-test.true c.file-item.is) in
    let (fetched, there) = c.in_ok-fetched.ensures.ok t on known in
    let (file, of_file, has, (given, gives, is)) = subst (FetchedFrom t e u.uid) c.in-Ok.is fetched in
    let can = subst (λ n. CanTake t.world p n v) (sym c.loop-file.invariant.server) (file_can t.world p e u v known wanted file of_file) in
    let (next, took, after) = c.in_ok-refusal.ensures.ok t given there can is in
    let (count, much, why, same) = subst (λ o. Took t.world p e v o next) c.in-Err-2.is (subst (λ n. Took t.world p n v c.in_ok-refusal.field-0 next) c.loop-file.invariant.server took) in
    let cut = files_cut s p e files i t c.loop-file.taken u v count so c.loop-file-test.true c.file-item.is wanted file of_file much in
    let left : Stands c.adopt.new.self t = subst (λ z. Stands c.adopt.new.self (in_world t z)) same (subst (λ o. Stands c.adopt.new.self (after_taking t p v given o next)) c.in-Err-2.is after) in
    (t, (c.loop-file.taken + 0, subst (λ z. TakesFiles s p e files (c.loop-file.taken + 0) (Some z) t) (sym why) cut), left)

pub loop-file-preserved : goal.loop-file-preserved
loop-file-preserved c = elim c.if-wants.branch [
  | then-wants+in_ok-fetched+in-Ok+in_ok-refusal+in_default b ↦
      let l = c.loop-file.invariant in
      record {
        many = ap (λ x. length x.folders.items) b.self-is ∙ b.adopt.ensures.many ∙ b.fetch.ensures.many ∙ l.many;
        made = ap local_by_all b.self-is ∙ b.in_ok-refusal.ensures.made ∙ b.in_ok-fetched.ensures.made ∙ l.made;
        few = let few = l.few in let taken = b.taken-is in omega (arith, few, taken);
        fetched =
            let e = database_of (c.args.from + 1) in
            let f = b.in-Ok.fetched in
            let one = b.taken-is in
            let more : c.if-wants.taken ≡ suc c.loop-file.taken = omega (arith, one) in
            let asked = subst (λ o. Came c.args.from (File c.file-item.result.uid) file_of (answer_of o) c.loop-file.self b.fetch.new.self) b.in-Ok.is b.in_ok-fetched.ensures.came in
            let came = subst (λ o. Came c.args.at (Adopt e f.at f.update f.form) taken_of o b.fetch.new.self b.adopt.new.self) b.in_default.is
            (subst (λ n. Came c.args.at (Adopt n f.at f.update f.form) taken_of b.in_ok-refusal.field-0 b.fetch.new.self b.adopt.new.self) l.server b.in_ok-refusal.ensures.came) in
            subst (λ x. Fetches c.args.at c.args.from e c.if-wants.taken c.args.self.now x) (sym b.self-is)
            (subst (λ n. Fetches c.args.at c.args.from e n c.args.self.now b.adopt.new.self) (sym more) (c.loop-file.self, b.fetch.new.self, c.file-item.result.uid, f, l.fetched, asked, came));
        server = l.server;
        ran = λ s stands covered.
            let p = database_of (c.args.at + 1) in
            let e = database_of (c.args.from + 1) in
            let files = c.args.files.now in
            let i = c.loop-file.file-index in
            let u = c.file-item.result in
            let v = b.in-Ok.fetched.update in
            let (t, so, on) = l.ran s stands covered in
            let wanted = said_yes c.wants.result (IsWanted t.world p u) (c.wants.ensures t on) b.if-wants.true in
            let known = files_covered s.world t.world e files u covered so.grows (in_place files i u c.loop-file-test.true c.file-item.is) in
            let (fetched, there) = b.in_ok-fetched.ensures.ok t on known in
            let (file, of_file, has, (given, gives, is)) = subst (FetchedFrom t e u.uid) b.in-Ok.is fetched in
            let can = subst (λ n. CanTake t.world p n v) (sym l.server) (file_can t.world p e u v known wanted file of_file) in
            let (next, took, after) = b.in_ok-refusal.ensures.ok t given there can is in
            let takes = subst (λ o. Took t.world p e v o next) b.in_default.is (subst (λ n. Took t.world p n v b.in_ok-refusal.field-0 next) l.server took) in
            let sound = on.machines.scene.world.invariant in (
              with_given t p v given next,
              subst (FilesSo s p e files (i + 1) (with_given t p v given next)) (sym b.taken-is) (files_take s p e files i t c.loop-file.taken u v given next sound.versions sound.sent so c.loop-file-test.true c.file-item.is known wanted file of_file gives takes),
              subst (λ x. Stands x (with_given t p v given next)) (sym b.self-is) (subst (λ o. Stands b.adopt.new.self (after_taking t p v given o next)) b.in_default.is after),
            );
      }
  | else-wants b ↦
      let l = c.loop-file.invariant in
      record {
        many = ap (λ x. length x.folders.items) b.self-is ∙ l.many;
        made = ap local_by_all b.self-is ∙ l.made;
        few = let few = l.few in let taken = b.taken-is in omega (arith, few, taken);
        fetched = subst (λ x. Fetches c.args.at c.args.from (database_of (c.args.from + 1)) c.if-wants.taken c.args.self.now x) (sym b.self-is) (subst (λ n. Fetches c.args.at c.args.from (database_of (c.args.from + 1)) n c.args.self.now c.loop-file.self) (sym b.taken-is) l.fetched);
        server = l.server;
        ran = λ s stands covered.
            let p = database_of (c.args.at + 1) in
            let e = database_of (c.args.from + 1) in
            let files = c.args.files.now in
            let i = c.loop-file.file-index in
            let u = c.file-item.result in
            let (t, so, on) = l.ran s stands covered in
            let never = said_no c.wants.result (IsWanted t.world p u) (c.wants.ensures t on) b.if-wants.false in
            (t, subst (FilesSo s p e files (i + 1) t) (sym b.taken-is) (files_pass s p e files i t c.loop-file.taken u so c.loop-file-test.true c.file-item.is never), subst (λ x. Stands x t) (sym b.self-is) on);
      }
]

pub returns-clause-ok : goal.returns-clause-ok
returns-clause-ok c = λ s stands covered.
    let p = database_of (c.args.at + 1) in
    let e = database_of (c.args.from + 1) in
    let (t, so, on) = c.loop-file.invariant.ran s stands covered in
    (t, files_end s p e c.args.files.now c.loop-file.file-index t c.loop-file.taken so (let past = c.loop-file-test.false in omega (arith, past)), on)

pub returns-in_err-fetched-clause-err : goal.returns-in_err-fetched-clause-err
returns-in_err-fetched-clause-err c = λ s stands covered.
    let p = database_of (c.args.at + 1) in
    let e = database_of (c.args.from + 1) in
    let (t, so, on) = c.loop-file.invariant.ran s stands covered in
    on_err c.from_residual.result (t, files_first s p e c.args.files.now c.loop-file.file-index t c.loop-file.taken so, c.in_err-fetched.ensures.err t on)

pub returns-in_err-refusal-clause-err : goal.returns-in_err-refusal-clause-err
returns-in_err-refusal-clause-err c = λ s stands covered.
    let p = database_of (c.args.at + 1) in
    let e = database_of (c.args.from + 1) in
    let files = c.args.files.now in
    let i = c.loop-file.file-index in
    let u = c.file-item.result in
    let (t, so, on) = c.loop-file.invariant.ran s stands covered in
    let known = files_covered s.world t.world e files u covered so.grows (in_place files i u c.loop-file-test.true c.file-item.is) in
    let (fetched, there) = c.in_ok-fetched.ensures.ok t on known in
    on_err c.from_residual-in_err-refusal.result (t, files_first s p e files i t c.loop-file.taken so, c.in_err-refusal.ensures.err t there)

pub returns-clause-fetched : goal.returns-clause-fetched
returns-clause-fetched c = c.loop-file.invariant.fetched
