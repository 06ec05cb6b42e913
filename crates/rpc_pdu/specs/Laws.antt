-- What holds of every PDU.
use Rattle.std.specs.Prelude.{◌≡◌, ◌⊎◌, ◌≤◌, ◌++◌, ℕ, List, [], None, Some, Ok, Err, length, take}
use Rattle.ndr_core.specs.Items.{AreBytes}
use Rattle.rpc_pdu.specs.Decoding.{decoded}
use Rattle.rpc_pdu.specs.Encoding.{HasFewTransfers, HasNoObject, encoded, encoded_as}
use Rattle.rpc_pdu.specs.Spelling.{IsPdu, Spells}
use Rattle.rpc_pdu.specs.declared.pdu.Pdu.{Pdu}
use Rattle.rpc_pdu.specs.declared.refusal.PduBad.{PduBad}

-- what is written is a spelling
abbrev pub PdusAreSpelled : Type 0
PdusAreSpelled = (p : Pdu) → IsPdu p → Spells p (encoded p)

-- a spelling is read, whatever follows
abbrev pub PdusAreReadAsSpelled : Type 0
PdusAreReadAsSpelled = (p : Pdu) (text rest : List ℕ) → Spells p text → decoded (text ++ rest) ≡ Ok (Some (p, length text))

-- bytes spell one PDU at most, and no spelling begins another
abbrev pub NoneBegins : Type 0
NoneBegins = (p q : Pdu) (text rest : List ℕ) → Spells p text → Spells q (text ++ rest) → (p ≡ q) × (rest ≡ [])

-- bytes that begin with a spelling are never refused
abbrev pub NeverBoth : Type 0
NeverBoth = (p : Pdu) (text rest : List ℕ) (bad : PduBad) → Spells p text → decoded (text ++ rest) ≡ Err bad → ⊥

-- what is read is a spelling, of so many bytes
abbrev pub WhatIsReadIsSpelled : Type 0
WhatIsReadIsSpelled = (bytes : List ℕ) (p : Pdu) (size : ℕ) → AreBytes bytes → decoded bytes ≡ Ok (Some (p, size)) → (size ≤ length bytes) × Spells p (take size bytes)

-- what is written is read again, whatever follows
abbrev pub PdusReadBack : Type 0
PdusReadBack = (p : Pdu) (rest : List ℕ) → IsPdu p → decoded (encoded p ++ rest) ≡ Ok (Some (p, length (encoded p)))

-- more bytes change nothing of what was said of some, but that there is no PDU yet
abbrev pub MoreChangesNothing : Type 0
MoreChangesNothing = (bytes piece : List ℕ) → AreBytes bytes → (decoded bytes ≡ Ok None) ⊎ (decoded (bytes ++ piece) ≡ decoded bytes)

-- what `encode` asks of a PDU
pub record IsWritable (p : Pdu) : Type 0 where
  pub transfers : HasFewTransfers p.body
  pub object : HasNoObject p
  pub short : length (encoded_as p 0) ≤ 5840

-- what was read can be written
abbrev pub WhatIsReadIsWritable : Type 0
WhatIsReadIsWritable = (bytes : List ℕ) (p : Pdu) (size : ℕ) → AreBytes bytes → decoded bytes ≡ Ok (Some (p, size)) → IsWritable p
