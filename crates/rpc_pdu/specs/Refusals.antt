-- Refusals of bodies.
use Rattle.ndr_core.specs.Refusals.{place_of}
use Rattle.ndr_core.specs.declared.refusal.NdrError.{NdrError}
use Rattle.ndr_core.specs.declared.refusal.NdrError.TheVariants as items
use Rattle.rpc_pdu.specs.declared.refusal.PduBad.TheVariants.{Body}
use Rattle.rpc_pdu.specs.declared.refusal.PduError.{PduError}
use Rattle.rpc_pdu.specs.declared.refusal.PduError.TheVariants as pdus

-- a body in which an item is refused
abbrev pub of_body : NdrError → PduError
of_body items.Memory = pdus.Memory
of_body (items.Bad bad) = pdus.Bad (Body (place_of bad))
