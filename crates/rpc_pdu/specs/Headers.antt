-- The header of a PDU, and which headers are good.
use Rattle.std.specs.Prelude.{◌==◌, ◌||◌, ℕ, Bool, Result, Ok, Err, nat_lt, not, if◌then◌else◌}
use Rattle.std.specs.Int.{w8, w16, w32}
use Rattle.ndr_core.specs.Items.{◌⨾◌, Item, number, seen, skip}
use Rattle.rpc_pdu.specs.declared.header.Header.{Header}
use Rattle.rpc_pdu.specs.declared.refusal.PduBad.{PduBad}
use Rattle.rpc_pdu.specs.declared.refusal.PduBad.TheVariants.{Version, Kind, Drep, Length, Auth}

-- version, minor version, kind, flags, the two bytes of the data representation that are looked at and the two that aren't, length, length of authentication, call
abbrev pub header_item : Item Header
header_item =
    seen
    (λ t. record { version = t.0; minor = t.1.0; kind = t.1.1.0; flags = t.1.1.1.0; representation = t.1.1.1.1.0; length = t.1.1.1.1.1.1.0; auth = t.1.1.1.1.1.1.1.0; call = t.1.1.1.1.1.1.1.1 })
    (λ h. (h.version, (h.minor, (h.kind, (h.flags, (h.representation, (tt, (h.length, (h.auth, h.call)))))))))
    (number w8 ⨾ (number w8 ⨾ (number w8 ⨾ (number w8 ⨾ (number w16 ⨾ (skip 2 ⨾ (number w16 ⨾ (number w16 ⨾ number w32))))))))

-- request, response, fault, bind, bind_ack, bind_nak, shutdown, co_cancel, orphaned
abbrev pub is_kind : ℕ → Bool
is_kind kind = kind == 0 || kind == 2 || kind == 3 || kind == 11 || kind == 12 || kind == 13 || kind == 17 || kind == 18 || kind == 19

-- the first field that is wrong
abbrev pub judged : Header → Result (Unit {0}) PduBad
judged h =
    if not (h.version == 5) || nat_lt 1 h.minor then Err Version
    else (if not (is_kind h.kind) then Err Kind
    else (if not (h.representation == 0x10) then Err Drep
    else (if nat_lt h.length 16 || nat_lt 5840 h.length then Err Length
    else (if not (h.auth == 0) then Err Auth
    else Ok tt))))
