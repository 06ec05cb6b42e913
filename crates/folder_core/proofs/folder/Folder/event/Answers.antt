use Rattle.std.proofs.Common.{◌∙◌, ◌+◌, List, [], ◌∷◌, ◌++◌, ap, length, refl}
use Rattle.folder_core.specs.declared.entry.Entry.{Entry}
use Rattle.folder_core.specs.Replay.{Seen}
use Rattle.folder_core.proofs.Replaying.{does_keep, does_of}
use Rattle.folder_core.proofs.folder.Folder.event.Goals as goal

pub invariant_of-self-2 : goal.invariant_of-self-2
invariant_of-self-2 c =
    let given = c.in_ok-reply.field-0 in
    let entry : Entry = record { caller = c.args.caller; note = c.in_ok-note.note; reply = given.mark } in
    let old : Seen = record { machine = c.self.inside.machine; history = c.self.inside.history.items; generation = c.self.inside.generation } in
    let new : Seen = record { machine = c.answer.new.self; history = c.push.new.self.items; generation = c.generation_after-self-inside.result } in
    let place = ap (λ (l : List Entry). length l + 1) c.as_slice-length.ensures in
    let more = c.push.ensures.items ∙ ap (λ (l : List Entry). l ++ entry ∷ []) c.in_ok-reserve_one.ensures.items in (
      does_keep c.args.caller c.args.event given.reply old new c.self.invariant.0 c.requires
          (does_of c.args.caller (length c.as_slice-length.result.now + 1) c.args.event given.reply c.in_ok-note.note given.mark given.moved given old new
          place more c.generation_after-self-inside.ensures c.in_ok-note.ensures refl c.in_ok-reply.ensures.answers c.in_ok-reply.ensures.noted),
      c.in_ok-reply.ensures.planned,
    )
