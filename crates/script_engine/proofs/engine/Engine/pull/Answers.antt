use Rattle.std.proofs.Common.{◌+◌, ◌∙◌, ap, sym, subst, inl, inr, refl, None, Ok}
use Rattle.std.specs.Prelude.{IfOk}
use Rattle.frs_base.specs.Identifiers.{database_of}
use Rattle.world_model.specs.Events.{sends_vector}
use Rattle.script_engine.specs.Begun.{BeginsFiles, BeginsPages}
use Rattle.folder_core.specs.declared.event.Event.TheVariants.{Finish}
use Rattle.pinned_pages.specs.Pages.{IsPage}
use Rattle.script_engine.specs.Histories.{Adopted, Came, Fetches}
use Rattle.script_engine.specs.Replies.{taken_of}
use Rattle.script_engine.specs.Pulls.{AreCovered, ArePages, Ended, FilesTaken, MayFinish, PagesTaken, unknown}
use Rattle.script_engine.specs.Scene.{in_world}
use Rattle.script_engine.proofs.Beginning.{files_begun, on_err, sent_begun}
use Rattle.script_engine.proofs.Whole.{all_taken, cut_at_end, cut_in_files, cut_in_pages, listed_covered, may_finish, pages_are, pull_asked}
use Rattle.script_engine.proofs.engine.Engine.pull.Goals as goal

pub take_pages-requires-clause-may : goal.take_pages-requires-clause-may
take_pages-requires-clause-may c =
    let p = database_of (c.args.at + 1) in
    let e = database_of (c.args.from + 1) in
    let pinned = c.in_ok-pinned.pinned in
    let page = c.in_ok-page.page.items in
    let server = c.database-server.ensures in
    let (s, stands) = c.requires.scene in
    let sent = sends_vector s.world e in
    let (is, on) = c.in_ok-pinned.ensures.ok s stands in
    let vector = c.vector.ensures.vector ∙ ap (λ b. b.vector) c.book.ensures.book in
    let asked = pull_asked c.args.self.now c.ask.new.self s c.args.at e pinned c.folder.result.now c.vector.result.now.items page stands on is c.folder.ensures vector c.in_ok-page.ensures in
    let pages = pages_are s.world p e page asked in
    let given = subst (ArePages sent c.database-server.result) (sym c.deref.ensures.value) (subst (λ n. ArePages sent n page) (sym server) pages) in
    (in_world s sent, on, given)

pub returns-in-Err-clause-ok : goal.returns-in-Err-clause-ok
returns-in-Err-clause-ok c = λ s stands.
    let p = database_of (c.args.at + 1) in
    let e = database_of (c.args.from + 1) in
    let pinned = c.in_ok-pinned.pinned in
    let page = c.in_ok-page.page.items in
    let server = c.database-server.ensures in
    let sent = sends_vector s.world e in
    let (is, on) = c.in_ok-pinned.ensures.ok s stands in
    let vector = c.vector.ensures.vector ∙ ap (λ b. b.vector) c.book.ensures.book in
    let asked = pull_asked c.args.self.now c.ask.new.self s c.args.at e pinned c.folder.result.now c.vector.result.now.items page stands on is c.folder.ensures vector c.in_ok-page.ensures in
    let pages = pages_are s.world p e page asked in
    let given = subst (ArePages sent c.database-server.result) (sym c.deref.ensures.value) (subst (λ n. ArePages sent n page) (sym server) pages) in
    let (paged, took, on1) = c.in_ok-paged.ensures.ok (in_world s sent) on given in
    let took1 = subst (λ n. PagesTaken sent p n page c.in_ok-paged.field-0 paged) server (subst (λ l. PagesTaken sent p c.database-server.result l c.in_ok-paged.field-0 paged) c.deref.ensures.value took) in
    let cut = subst (λ o. PagesTaken sent p e page o paged) c.in-Err.is took1 in
    (in_world s paged, cut_in_pages s p e page c.in-Err.refusal paged asked cut, on1)

pub take_files-requires-clause-may : goal.take_files-requires-clause-may
take_files-requires-clause-may c =
    let p = database_of (c.args.at + 1) in
    let e = database_of (c.args.from + 1) in
    let pinned = c.in_ok-pinned.pinned in
    let page = c.in_ok-page.page.items in
    let server = c.database-server.ensures in
    let (s, stands) = c.requires.scene in
    let sent = sends_vector s.world e in
    let (is, on) = c.in_ok-pinned.ensures.ok s stands in
    let vector = c.vector.ensures.vector ∙ ap (λ b. b.vector) c.book.ensures.book in
    let asked = pull_asked c.args.self.now c.ask.new.self s c.args.at e pinned c.folder.result.now c.vector.result.now.items page stands on is c.folder.ensures vector c.in_ok-page.ensures in
    let pages = pages_are s.world p e page asked in
    let given = subst (ArePages sent c.database-server.result) (sym c.deref.ensures.value) (subst (λ n. ArePages sent n page) (sym server) pages) in
    let (paged, took, on1) = c.in_ok-paged.ensures.ok (in_world s sent) on given in
    let took1 = subst (λ n. PagesTaken sent p n page c.in_ok-paged.field-0 paged) server (subst (λ l. PagesTaken sent p c.database-server.result l c.in_ok-paged.field-0 paged) c.deref.ensures.value took) in
    let all1 = subst (λ o. PagesTaken sent p e page o paged) c.in-Ok.is took1 in
    let (pages_took, treated, grown) = all1 in
    let listed = c.in-Ok.paged.listed.items in
    let covered = listed_covered s.world p e page listed paged asked treated grown in
    let files = subst (AreCovered paged e) (sym c.deref-2.ensures.value) covered in
    (in_world s paged, on1, files)

pub returns-in-Err-2-clause-ok : goal.returns-in-Err-2-clause-ok
returns-in-Err-2-clause-ok c = λ s stands.
    let p = database_of (c.args.at + 1) in
    let e = database_of (c.args.from + 1) in
    let pinned = c.in_ok-pinned.pinned in
    let page = c.in_ok-page.page.items in
    let server = c.database-server.ensures in
    let sent = sends_vector s.world e in
    let (is, on) = c.in_ok-pinned.ensures.ok s stands in
    let vector = c.vector.ensures.vector ∙ ap (λ b. b.vector) c.book.ensures.book in
    let asked = pull_asked c.args.self.now c.ask.new.self s c.args.at e pinned c.folder.result.now c.vector.result.now.items page stands on is c.folder.ensures vector c.in_ok-page.ensures in
    let pages = pages_are s.world p e page asked in
    let given = subst (ArePages sent c.database-server.result) (sym c.deref.ensures.value) (subst (λ n. ArePages sent n page) (sym server) pages) in
    let (paged, took, on1) = c.in_ok-paged.ensures.ok (in_world s sent) on given in
    let took1 = subst (λ n. PagesTaken sent p n page c.in_ok-paged.field-0 paged) server (subst (λ l. PagesTaken sent p c.database-server.result l c.in_ok-paged.field-0 paged) c.deref.ensures.value took) in
    let all1 = subst (λ o. PagesTaken sent p e page o paged) c.in-Ok.is took1 in
    let (pages_took, treated, grown) = all1 in
    let listed = c.in-Ok.paged.listed.items in
    let covered = listed_covered s.world p e page listed paged asked treated grown in
    let files = subst (AreCovered paged e) (sym c.deref-2.ensures.value) covered in
    let (filed, got, on2) = c.in_ok-fetched.ensures.ok (in_world s paged) on1 files in
    let got2 = subst (λ l. FilesTaken (in_world s paged) p e l c.in_ok-fetched.field-0 filed) c.deref-2.ensures.value got in
    let cut = subst (λ o. FilesTaken (in_world s paged) p e listed o filed) c.in-Err-2.is got2 in
    (filed, cut_in_files s p e page c.in-Ok.paged paged c.in-Err-2.refusal filed asked all1 cut, on2)

pub finish-requires-clause-may : goal.finish-requires-clause-may
finish-requires-clause-may c =
    let p = database_of (c.args.at + 1) in
    let e = database_of (c.args.from + 1) in
    let pinned = c.in_ok-pinned.pinned in
    let page = c.in_ok-page.page.items in
    let server = c.database-server.ensures in
    let (s, stands) = c.requires.scene in
    let sent = sends_vector s.world e in
    let (is, on) = c.in_ok-pinned.ensures.ok s stands in
    let vector = c.vector.ensures.vector ∙ ap (λ b. b.vector) c.book.ensures.book in
    let asked = pull_asked c.args.self.now c.ask.new.self s c.args.at e pinned c.folder.result.now c.vector.result.now.items page stands on is c.folder.ensures vector c.in_ok-page.ensures in
    let pages = pages_are s.world p e page asked in
    let given = subst (ArePages sent c.database-server.result) (sym c.deref.ensures.value) (subst (λ n. ArePages sent n page) (sym server) pages) in
    let (paged, took, on1) = c.in_ok-paged.ensures.ok (in_world s sent) on given in
    let took1 = subst (λ n. PagesTaken sent p n page c.in_ok-paged.field-0 paged) server (subst (λ l. PagesTaken sent p c.database-server.result l c.in_ok-paged.field-0 paged) c.deref.ensures.value took) in
    let all1 = subst (λ o. PagesTaken sent p e page o paged) c.in-Ok.is took1 in
    let (pages_took, treated, grown) = all1 in
    let listed = c.in-Ok.paged.listed.items in
    let covered = listed_covered s.world p e page listed paged asked treated grown in
    let files = subst (AreCovered paged e) (sym c.deref-2.ensures.value) covered in
    let (filed, got, on2) = c.in_ok-fetched.ensures.ok (in_world s paged) on1 files in
    let got2 = subst (λ l. FilesTaken (in_world s paged) p e l c.in_ok-fetched.field-0 filed) c.deref-2.ensures.value got in
    let all2 = subst (λ o. FilesTaken (in_world s paged) p e listed o filed) c.in-Ok-2.is got2 in
    let (files_took, held, more) = all2 in
    let may = may_finish s.world p e pinned.vector page listed paged filed.world on.machines.scene.world.invariant.versions is.vector asked treated grown held more in
    let seen = subst (MayFinish filed.world p (s.world.at e).known pinned.vector) (sym c.of-seen.ensures) may in
    (filed, (s.world.at e).known, on2, seen)

pub returns-in-Ok-3-clause-ok : goal.returns-in-Ok-3-clause-ok
returns-in-Ok-3-clause-ok c = λ s stands.
    let p = database_of (c.args.at + 1) in
    let e = database_of (c.args.from + 1) in
    let pinned = c.in_ok-pinned.pinned in
    let page = c.in_ok-page.page.items in
    let server = c.database-server.ensures in
    let sent = sends_vector s.world e in
    let (is, on) = c.in_ok-pinned.ensures.ok s stands in
    let vector = c.vector.ensures.vector ∙ ap (λ b. b.vector) c.book.ensures.book in
    let asked = pull_asked c.args.self.now c.ask.new.self s c.args.at e pinned c.folder.result.now c.vector.result.now.items page stands on is c.folder.ensures vector c.in_ok-page.ensures in
    let pages = pages_are s.world p e page asked in
    let given = subst (ArePages sent c.database-server.result) (sym c.deref.ensures.value) (subst (λ n. ArePages sent n page) (sym server) pages) in
    let (paged, took, on1) = c.in_ok-paged.ensures.ok (in_world s sent) on given in
    let took1 = subst (λ n. PagesTaken sent p n page c.in_ok-paged.field-0 paged) server (subst (λ l. PagesTaken sent p c.database-server.result l c.in_ok-paged.field-0 paged) c.deref.ensures.value took) in
    let all1 = subst (λ o. PagesTaken sent p e page o paged) c.in-Ok.is took1 in
    let (pages_took, treated, grown) = all1 in
    let listed = c.in-Ok.paged.listed.items in
    let covered = listed_covered s.world p e page listed paged asked treated grown in
    let files = subst (AreCovered paged e) (sym c.deref-2.ensures.value) covered in
    let (filed, got, on2) = c.in_ok-fetched.ensures.ok (in_world s paged) on1 files in
    let got2 = subst (λ l. FilesTaken (in_world s paged) p e l c.in_ok-fetched.field-0 filed) c.deref-2.ensures.value got in
    let all2 = subst (λ o. FilesTaken (in_world s paged) p e listed o filed) c.in-Ok-2.is got2 in
    let (files_took, held, more) = all2 in
    let may = may_finish s.world p e pinned.vector page listed paged filed.world on.machines.scene.world.invariant.versions is.vector asked treated grown held more in
    let seen = subst (MayFinish filed.world p (s.world.at e).known pinned.vector) (sym c.of-seen.ensures) may in
    let (after, ended, on3) = c.in_ok-finish.ensures.ok filed (s.world.at e).known on2 seen in
    let ends = subst (λ o. Ended filed.world p (s.world.at e).known o after) c.in-Ok-3.is ended in
    (in_world filed after, all_taken s p e page c.in-Ok.paged paged c.in-Ok-2.fetched filed after asked all1 all2 ends, on3)

pub returns-clause-ok : goal.returns-clause-ok
returns-clause-ok c = λ s stands.
    let p = database_of (c.args.at + 1) in
    let e = database_of (c.args.from + 1) in
    let pinned = c.in_ok-pinned.pinned in
    let page = c.in_ok-page.page.items in
    let server = c.database-server.ensures in
    let sent = sends_vector s.world e in
    let (is, on) = c.in_ok-pinned.ensures.ok s stands in
    let vector = c.vector.ensures.vector ∙ ap (λ b. b.vector) c.book.ensures.book in
    let asked = pull_asked c.args.self.now c.ask.new.self s c.args.at e pinned c.folder.result.now c.vector.result.now.items page stands on is c.folder.ensures vector c.in_ok-page.ensures in
    let pages = pages_are s.world p e page asked in
    let given = subst (ArePages sent c.database-server.result) (sym c.deref.ensures.value) (subst (λ n. ArePages sent n page) (sym server) pages) in
    let (paged, took, on1) = c.in_ok-paged.ensures.ok (in_world s sent) on given in
    let took1 = subst (λ n. PagesTaken sent p n page c.in_ok-paged.field-0 paged) server (subst (λ l. PagesTaken sent p c.database-server.result l c.in_ok-paged.field-0 paged) c.deref.ensures.value took) in
    let all1 = subst (λ o. PagesTaken sent p e page o paged) c.in-Ok.is took1 in
    let (pages_took, treated, grown) = all1 in
    let listed = c.in-Ok.paged.listed.items in
    let covered = listed_covered s.world p e page listed paged asked treated grown in
    let files = subst (AreCovered paged e) (sym c.deref-2.ensures.value) covered in
    let (filed, got, on2) = c.in_ok-fetched.ensures.ok (in_world s paged) on1 files in
    let got2 = subst (λ l. FilesTaken (in_world s paged) p e l c.in_ok-fetched.field-0 filed) c.deref-2.ensures.value got in
    let all2 = subst (λ o. FilesTaken (in_world s paged) p e listed o filed) c.in-Ok-2.is got2 in
    let (files_took, held, more) = all2 in
    let may = may_finish s.world p e pinned.vector page listed paged filed.world on.machines.scene.world.invariant.versions is.vector asked treated grown held more in
    let seen = subst (MayFinish filed.world p (s.world.at e).known pinned.vector) (sym c.of-seen.ensures) may in
    let (after, ended, on3) = c.in_ok-finish.ensures.ok filed (s.world.at e).known on2 seen in
    let ends = subst (λ o. Ended filed.world p (s.world.at e).known o after) c.in-Err-3.is ended in
    (in_world filed after, cut_at_end s p e page c.in-Ok.paged paged c.in-Ok-2.fetched filed c.in-Err-3.refusal after asked all1 all2 ends, on3)

pub returns-in_err-pinned-clause-err : goal.returns-in_err-pinned-clause-err
returns-in_err-pinned-clause-err c = λ s stands. on_err c.from_residual.result (s, inl refl, c.in_err-pinned.ensures.err s stands)

pub returns-in_err-page-clause-err : goal.returns-in_err-page-clause-err
returns-in_err-page-clause-err c = λ s stands.
    let p = database_of (c.args.at + 1) in
    let e = database_of (c.args.from + 1) in
    let sent = sends_vector s.world e in
    let (is, on) = c.in_ok-pinned.ensures.ok s stands in
    on_err c.from_residual-in_err-page.result (in_world s sent, inr (sent_begun s p e stands.machines.scene.world.invariant.versions), on)

pub returns-in_err-paged-clause-err : goal.returns-in_err-paged-clause-err
returns-in_err-paged-clause-err c = λ s stands.
    let p = database_of (c.args.at + 1) in
    let e = database_of (c.args.from + 1) in
    let sent = sends_vector s.world e in
    let (is, on) = c.in_ok-pinned.ensures.ok s stands in
    let pinned = c.in_ok-pinned.pinned in
    let page = c.in_ok-page.page.items in
    let server = c.database-server.ensures in
    let vector = c.vector.ensures.vector ∙ ap (λ b. b.vector) c.book.ensures.book in
    let asked = pull_asked c.args.self.now c.ask.new.self s c.args.at e pinned c.folder.result.now c.vector.result.now.items page stands on is c.folder.ensures vector c.in_ok-page.ensures in
    let pages = pages_are s.world p e page asked in
    let given = subst (ArePages sent c.database-server.result) (sym c.deref.ensures.value) (subst (λ n. ArePages sent n page) (sym server) pages) in
    let (w, begun, there) = c.in_err-paged.ensures.err (in_world s sent) on given in
    let first = subst (λ n. BeginsPages sent p n page w) server (subst (λ l. BeginsPages sent p c.database-server.result l w) c.deref.ensures.value begun) in
    on_err c.from_residual-in_err-paged.result (in_world s w, inr (sent, page, refl, asked, inl (w, first, refl)), there)

pub returns-in_err-fetched-clause-err : goal.returns-in_err-fetched-clause-err
returns-in_err-fetched-clause-err c = λ s stands.
    let p = database_of (c.args.at + 1) in
    let e = database_of (c.args.from + 1) in
    let sent = sends_vector s.world e in
    let (is, on) = c.in_ok-pinned.ensures.ok s stands in
    let pinned = c.in_ok-pinned.pinned in
    let page = c.in_ok-page.page.items in
    let server = c.database-server.ensures in
    let vector = c.vector.ensures.vector ∙ ap (λ b. b.vector) c.book.ensures.book in
    let asked = pull_asked c.args.self.now c.ask.new.self s c.args.at e pinned c.folder.result.now c.vector.result.now.items page stands on is c.folder.ensures vector c.in_ok-page.ensures in
    let pages = pages_are s.world p e page asked in
    let given = subst (ArePages sent c.database-server.result) (sym c.deref.ensures.value) (subst (λ n. ArePages sent n page) (sym server) pages) in
    let (paged, took, on1) = c.in_ok-paged.ensures.ok (in_world s sent) on given in
    let took1 = subst (λ n. PagesTaken sent p n page c.in_ok-paged.field-0 paged) server (subst (λ l. PagesTaken sent p c.database-server.result l c.in_ok-paged.field-0 paged) c.deref.ensures.value took) in
    let all1 = subst (λ o. PagesTaken sent p e page o paged) c.in-Ok.is took1 in
    let (pages_took, treated, grown) = all1 in
    let listed = c.in-Ok.paged.listed.items in
    let covered = listed_covered s.world p e page listed paged asked treated grown in
    let files = subst (AreCovered paged e) (sym c.deref-2.ensures.value) covered in
    let (new, begun, there) = c.in_err-fetched.ensures.err (in_world s paged) on1 files in
    let first = subst (λ l. BeginsFiles (in_world s paged) p e l new) c.deref-2.ensures.value begun in
    on_err c.from_residual-in_err-fetched.result (new, inr (sent, page, refl, asked, inr (listed, c.in-Ok.paged.taken, paged, pages_took, inl first)), there)

pub returns-in_err-finish-clause-err : goal.returns-in_err-finish-clause-err
returns-in_err-finish-clause-err c = λ s stands.
    let p = database_of (c.args.at + 1) in
    let e = database_of (c.args.from + 1) in
    let sent = sends_vector s.world e in
    let (is, on) = c.in_ok-pinned.ensures.ok s stands in
    let pinned = c.in_ok-pinned.pinned in
    let page = c.in_ok-page.page.items in
    let server = c.database-server.ensures in
    let vector = c.vector.ensures.vector ∙ ap (λ b. b.vector) c.book.ensures.book in
    let asked = pull_asked c.args.self.now c.ask.new.self s c.args.at e pinned c.folder.result.now c.vector.result.now.items page stands on is c.folder.ensures vector c.in_ok-page.ensures in
    let pages = pages_are s.world p e page asked in
    let given = subst (ArePages sent c.database-server.result) (sym c.deref.ensures.value) (subst (λ n. ArePages sent n page) (sym server) pages) in
    let (paged, took, on1) = c.in_ok-paged.ensures.ok (in_world s sent) on given in
    let took1 = subst (λ n. PagesTaken sent p n page c.in_ok-paged.field-0 paged) server (subst (λ l. PagesTaken sent p c.database-server.result l c.in_ok-paged.field-0 paged) c.deref.ensures.value took) in
    let all1 = subst (λ o. PagesTaken sent p e page o paged) c.in-Ok.is took1 in
    let (pages_took, treated, grown) = all1 in
    let listed = c.in-Ok.paged.listed.items in
    let covered = listed_covered s.world p e page listed paged asked treated grown in
    let files = subst (AreCovered paged e) (sym c.deref-2.ensures.value) covered in
    let (filed, got, on2) = c.in_ok-fetched.ensures.ok (in_world s paged) on1 files in
    let got2 = subst (λ l. FilesTaken (in_world s paged) p e l c.in_ok-fetched.field-0 filed) c.deref-2.ensures.value got in
    let all2 = subst (λ o. FilesTaken (in_world s paged) p e listed o filed) c.in-Ok-2.is got2 in
    let (files_took, held, more) = all2 in
    let all = files_begun (in_world s paged) p e listed c.in-Ok-2.fetched None filed files_took in
    on_err c.from_residual-in_err-finish.result (filed, inr (sent, page, refl, asked, inr (listed, c.in-Ok.paged.taken, paged, pages_took, inl all)), c.in_err-finish.ensures.err filed on2)

pub returns-in-Ok-3-clause-pulled : goal.returns-in-Ok-3-clause-pulled
returns-in-Ok-3-clause-pulled c =
    let p = c.args.at in
    let e = database_of (c.args.from + 1) in
    let pinned = c.in_ok-pinned.pinned in
    let page = c.in_ok-page.page.items in
    let server = c.database-server.ensures in
    let asked = c.ask.new.self in
    let paged = c.take_pages.new.self in
    let filed = c.take_files.new.self in
    let new = c.finish.new.self in
    let vector = c.vector.ensures.vector ∙ ap (λ b. b.vector) c.book.ensures.book in
    let adopted = subst (λ n. Adopted p n pinned.at c.in-Ok.paged.taken asked paged) server
    (subst (λ o. IfOk o (λ x. Adopted p c.database-server.result pinned.at x.taken asked paged)) c.in-Ok.is c.in_ok-paged.ensures.adopted) in
    let fetched = subst (λ o. IfOk o (λ n. Fetches p c.args.from e n paged filed)) c.in-Ok-2.is c.in_ok-fetched.ensures.fetched in
    let came = subst (λ o. Came p (Finish c.database-server.result pinned.at pinned.vector c.of-seen.result) taken_of o filed new) c.in-Ok-3.is c.in_ok-finish.ensures.came in
    let seen = subst (λ us. Came p (Finish c.database-server.result pinned.at pinned.vector us) taken_of (Ok tt) filed new) c.of-seen.ensures came in
    let finished = subst (λ n. Came p (Finish n pinned.at pinned.vector page) taken_of (Ok tt) filed new) server seen in
    let is_page = subst (λ v. IsPage (unknown pinned.vector v) pinned.records page) vector c.in_ok-page.ensures in
    (asked, paged, filed, pinned, page, c.in-Ok.paged.taken, c.in-Ok-2.fetched, c.in_ok-pinned.ensures.came, adopted, fetched, finished, (c.folder.result.now, c.folder.ensures, is_page), refl)
