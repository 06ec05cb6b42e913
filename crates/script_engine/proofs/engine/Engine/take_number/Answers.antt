use Rattle.std.proofs.Common.{◌≡◌, ◌+◌, ◌++◌, ◌∷◌, [], ◌∙◌, ap, length, refl}
use Rattle.frs_base.specs.Identifiers.{database_of}
use Rattle.std.specs.Prelude.{map}
use Rattle.folder_core.specs.Machine.{fresh_machine}
use Rattle.folder_core.specs.Replay.{Seen}
use Rattle.script_engine.specs.declared.engine.Engine.{Engine}
use Rattle.script_engine.specs.declared.names.MemberName.{MemberName}
use Rattle.script_engine.proofs.Beginning.{on_err, still}
use Rattle.script_engine.proofs.Speaking.{stands_more}
use Rattle.script_engine.proofs.engine.Engine.take_number.Goals as goal

pub returns-clause-ok : goal.returns-clause-ok
returns-clause-ok c = λ s stands.
    let e = c.args.self.now in
    let name = c.args.name in
    let kind = c.args.kind in
    let new : Engine = record { names = c.push.new.self; folders = c.push-2.new.self } in
    let many = ap length (c.as_slice.ensures ∙ c.reserve_one.ensures.items) in
    let db = c.database_of-db.ensures ∙ ap (λ n. database_of (n + 1)) many in
    let m : MemberName = record { db = c.database_of-db.result; name = name } in
    let named : m ≡ record { db = database_of (length e.names.items + 1); name = name } = λ i. record { db = db i; name = name } in
    let names = c.push.ensures.items ∙ ap (λ l. l ++ m ∷ []) c.reserve_one.ensures.items in
    let folders = c.push-2.ensures.items ∙ ap (λ l. l ++ c.new-folder.result ∷ []) c.reserve_one-2.ensures.items in
    let fresh = ap (λ f. f.machine) c.new-folder.ensures ∙ (λ i. fresh_machine kind (db i) (c.content_set.ensures i)) in
    stands_more e new s name kind m c.new-folder.result stands c.requires.name names folders named fresh c.book.ensures.sound

pub returns-in_err-reserve_one-clause-err : goal.returns-in_err-reserve_one-clause-err
returns-in_err-reserve_one-clause-err c = λ s stands.
    let e = c.args.self.now in
    let new : Engine = record { names = c.reserve_one.new.self; folders = e.folders } in
    on_err _ (still e new s stands c.reserve_one.ensures.items refl)

pub returns-in_err-reserve_one-2-clause-err : goal.returns-in_err-reserve_one-2-clause-err
returns-in_err-reserve_one-2-clause-err c = λ s stands.
    let e = c.args.self.now in
    let new : Engine = record { names = c.reserve_one.new.self; folders = c.reserve_one-2.new.self } in
    on_err _ (still e new s stands c.reserve_one.ensures.items (ap (map (λ (f : Seen). f.machine)) c.reserve_one-2.ensures.items))
