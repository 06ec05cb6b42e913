use Rattle.ndr_core.proofs.Loops.{fits_at}
use Rattle.ndr_core.proofs.wire.put_many.Goals as goal

pub put-requires : goal.put-requires
put-requires g c = rw c.value-item.is (fits_at g.T.Wire.fits c.args.values.now c.loop-value.value-index c.value-item.result c.loop-value-test.true c.requires)
