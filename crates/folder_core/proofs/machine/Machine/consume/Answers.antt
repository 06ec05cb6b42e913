use Rattle.std.proofs.Common.{◌∙◌, ◌<◌, ◌-◌, ◌^◌, sym, subst, None, Some}
use Rattle.usn_consumer.specs.Next.{HasClock}
use Rattle.folder_core.specs.Machine.{Machine}
use Rattle.folder_core.proofs.Consuming.{answers_recorded, have_clocks_of, is_next, may_at, may_record}
use Rattle.folder_core.proofs.machine.Machine.consume.Goals as goal

pub next_record-requires-clause-next : goal.next_record-requires-clause-next
next_record-requires-clause-next c = is_next (record { volume = c.self.inside.volume.state; book = c.self.inside.book.state }) c.self.invariant

pub next_record-requires-clause-clocks : goal.next_record-requires-clause-clocks
next_record-requires-clause-clocks c = have_clocks_of (record { volume = c.self.inside.volume.state; book = c.self.inside.book.state }) c.self.invariant

pub widen-requires-clause-may : goal.widen-requires-clause-may
widen-requires-clause-may c =
    let m : Machine = record { volume = c.self.inside.volume.state; book = c.self.inside.book.state } in
    let Numbered : Machine → Type 0 = λ x. x.volume.next_usn < 2 ^ 64 - 1 in
    may_at m c.args.self.now c.consumed-usn.result None c.consumed-usn.ensures c.self.view_is
    (may_record m c.args.moment None c.self.invariant (subst Numbered (sym c.self.view_is) c.requires) (sym c.in-Ok-Skip.field-0-is ∙ c.in-Ok-Skip.ensures.answer) tt)

pub record-requires : goal.record-requires
record-requires c =
    let m : Machine = record { volume = c.self.inside.volume.state; book = c.self.inside.book.state } in
    let Numbered : Machine → Type 0 = λ x. x.volume.next_usn < 2 ^ 64 - 1 in
    record {
      may = may_at m c.args.self.now c.consumed-usn.result (Some c.in-Ok-Make.update) c.consumed-usn.ensures c.self.view_is
          (may_record m c.args.moment (Some c.in-Ok-Make.update) c.self.invariant (subst Numbered (sym c.self.view_is) c.requires) (sym c.in-Ok-Make.field-0-is ∙ c.in-Ok-Make.ensures.answer) (subst HasClock c.in-Ok-Make.field-0-is c.in-Ok-Make.ensures.clock));
    }

pub returns-in-Ok-Make-clause-answers : goal.returns-in-Ok-Make-clause-answers
returns-in-Ok-Make-clause-answers c =
    answers_recorded (record { volume = c.self.inside.volume.state; book = c.self.inside.book.state }) c.args.self.now c.args.moment c.consumed-usn.result c.in-Ok-Make.update c.in-Ok-Make.field-0
    c.record.result c.record.new.self c.self.view_is c.consumed-usn.ensures c.in-Ok-Make.field-0-is c.in-Ok-Make.ensures.answer c.in-Ok-Make.ensures.clock c.record.ensures.answers
