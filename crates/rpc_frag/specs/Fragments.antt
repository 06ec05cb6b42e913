-- Fragments of calls, and which of them a call is cut into.
use Rattle.std.specs.Prelude.{◌≡◌, ◌<◌, ◌≤◌, ◌==◌, ◌&&◌, ℕ, Bool, List, [], ◌∷◌, bit_and, drop, length, not, take, false, true, if◌then◌else◌}
use Rattle.rpc_pdu.specs.declared.pdu.Pdu.{Pdu}
use Rattle.rpc_pdu.specs.declared.pdu.PduBody.{PduBody}
use Rattle.rpc_pdu.specs.declared.pdu.PduBody.TheVariants as bodies
use Rattle.rpc_frag.specs.declared.fragment.Fragment.{Fragment}
use Rattle.rpc_frag.specs.declared.fragment.Whole.{Whole}

-- a request or a response
abbrev pub IsPart : PduBody → Type 0
IsPart (bodies.Request request) = Unit {0}
IsPart (bodies.Response response) = Unit {0}
IsPart other = ⊥

-- a fragment of no call
abbrev pub no_fragment : Pdu → Fragment
no_fragment p = record { call = p.call; flags = p.flags; context = 0; opnum = 0; stub = [] }

-- what a PDU says of its call; a response has the opnum 0
abbrev pub fragment_with : Pdu → PduBody → Fragment
fragment_with p (bodies.Request r) = record { call = p.call; flags = p.flags; context = r.context; opnum = r.opnum; stub = r.stub }
fragment_with p (bodies.Response r) = record { call = p.call; flags = p.flags; context = r.context; opnum = 0; stub = r.stub }
fragment_with p other = no_fragment p

abbrev pub fragment_of : Pdu → Fragment
fragment_of p = fragment_with p p.body

abbrev pub is_first : Fragment → Bool
is_first f = not (bit_and f.flags 1 == 0)

abbrev pub is_last : Fragment → Bool
is_last f = not (bit_and f.flags 2 == 0)

-- call, context and opnum are shared
abbrev pub is_same : Whole → Fragment → Bool
is_same w f = w.call == f.call && w.context == f.context && w.opnum == f.opnum

-- ---- cutting

-- a fragment with these bytes of the stub, of which so many come from here on
abbrev pub part : Whole → Bool → ℕ → ℕ → List ℕ → Pdu
part w response flags hint stub = record {
  call = w.call;
  flags = flags;
  body = if response
      then bodies.Response (record { hint = hint; context = w.context; stub = stub })
      else bodies.Request (record { hint = hint; context = w.context; opnum = w.opnum; stub = stub });
}

-- 0x01 in the first, 0x02 in the last
abbrev pub flags_of : Bool → Bool → ℕ
flags_of true true = 3
flags_of true false = 1
flags_of false true = 2
flags_of false false = 0

-- the fragments that these bytes of a call's stub are cut into, each with so many but the last
abbrev pub IsCut : Whole → Bool → ℕ → Bool → List ℕ → List Pdu → Type 0
IsCut w response size first rest [] = ⊥
IsCut w response size first rest (p ∷ []) = (length rest ≤ size) × (p ≡ part w response (flags_of first true) (length rest) rest)
IsCut w response size first rest (p ∷ q ∷ ps) =
    (size < length rest) × (p ≡ part w response (flags_of first false) (length rest) (take size rest)) × IsCut w response size false (drop size rest) (q ∷ ps)
