use Rattle.std.proofs.Common.{◌<◌, ◌^◌, subst, sym}
use Rattle.std.specs.Prelude.{IfSome}
use Rattle.usn_consumer.proofs.Clocks.{found_clock}
use Rattle.usn_consumer.proofs.consume.next_record.Goals as goal

pub recorded_of-requires : goal.recorded_of-requires
recorded_of-requires c = subst (λ held. IfSome held (λ u. u.clock < 2 ^ 62)) (sym c.held-held.ensures) (found_clock _ c.args.book.now.state.records c.requires.clocks)
