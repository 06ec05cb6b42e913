use Rattle.std.proofs.Common.{◌+◌, inl}
use Rattle.frs_journal.proofs.Records.{broken_here, broken_off, read_more, slice_behind}
use Rattle.frs_journal.proofs.reading.read_commands.Goals as goal

pub loop-at-init : goal.loop-at-init
loop-at-init g c = rw c.new-commands.ensures.items c.requires

pub returns-in_default : goal.returns-in_default
returns-in_default g c =
    inl (broken_off g.M.Machine.law c.args.bytes.now _ c.loop-at.at c.args.saved c.loop-at.commands.items c.loop-at.invariant
    c.loop-at-test.true (slice_behind c.args.bytes.now (c.loop-at.at + 1)) c.in_default.ensures.none)

pub returns-in_default-2 : goal.returns-in_default-2
returns-in_default-2 g c =
    let none = rw c.in_default-2.is at c.in_ok-command.ensures in
    inl (broken_here g.M.Machine.law c.args.bytes.now _ c.in-Some.payload.now c.loop-at.at c.args.saved c.loop-at.commands.items c.loop-at.invariant
    c.loop-at-test.true (slice_behind c.args.bytes.now (c.loop-at.at + 1)) c.in-Some.ensures.whole c.in-Some.ensures.short none)

pub loop-at-preserved : goal.loop-at-preserved
loop-at-preserved g c =
    let found = rw c.in-Some-2.is at c.in_ok-command.ensures in
    let more = read_more g.M.Machine.law c.args.bytes.now _ c.in-Some.payload.now c.loop-at.at c.args.saved c.loop-at.commands.items c.in-Some-2.command c.loop-at.invariant
    c.loop-at-test.true (slice_behind c.args.bytes.now (c.loop-at.at + 1)) c.in-Some.ensures.whole c.in-Some.ensures.inside found.0 found.1 c.in-Some.ensures.short in
    rw c.in_ok-push.ensures.items more
