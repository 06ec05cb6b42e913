use Rattle.std.proofs.Common.{subst}
use Rattle.vol_state.specs.Valid.{IsVolume}
use Rattle.record_db.specs.State.{IsBook}
use Rattle.folder_core.proofs.Sounding.{fresh_is_sound}
use Rattle.folder_core.proofs.machine.Machine.new.Goals as goal

pub invariant_of-result : goal.invariant_of-result
invariant_of-result c =
    let volume = subst IsVolume c.new-volume.ensures c.objects.ensures.valid in
    let book = subst IsBook c.new-book.ensures c.vector.ensures.book in
    rw (c.new-volume.ensures, c.new-book.ensures) (fresh_is_sound c.args.kind c.args.own c.args.set c.requires volume book)
