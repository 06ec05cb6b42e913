use Rattle.ndr_frs.proofs.NameItems.{name_reads, name_refused, not_a_name}
use Rattle.ndr_frs.proofs.fields.take_name.Goals as goal

pub returns-in-Ok : goal.returns-in-Ok
returns-in-Ok c = name_reads c.args.r.now c.take_string.new.self c.in_ok-units.units.items c.in-Ok.name c.in_ok-units.ensures c.in-Ok.ensures.name c.in-Ok.ensures.valid

pub returns-in-Err-NameBad : goal.returns-in-Err-NameBad
returns-in-Err-NameBad c = rw c.place_of-at.ensures (name_refused c.args.r.now c.take_string.new.self c.in_ok-units.units.items c.in_ok-units.ensures (not_a_name c.in-Err-NameBad.field-0 c.in-Err-NameBad.field-0-0 c.in_ok-units.units.items c.in-Err-NameBad.field-0-is c.in-Err-NameBad.ensures.refused))
