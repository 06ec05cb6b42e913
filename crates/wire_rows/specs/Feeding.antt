-- What is said of a stream, and of its calls.
use Rattle.std.specs.Prelude.{◌≡◌, ◌⊎◌, ◌<◌, ◌++◌, ℕ, zero, suc, Bool, true, false, List, [], Option, Some, None, Result, Ok, Err, codes, decimal, drop, length, if◌then◌else◌}
use Rattle.ndr_core.specs.Cursor.{Cursor}
use Rattle.ndr_core.specs.Items.{AreBytes}
use Rattle.rpc_pdu.specs.Decoding.{decoded}
use Rattle.rpc_pdu.specs.declared.pdu.Pdu.{Pdu}
use Rattle.rpc_pdu.specs.declared.pdu.PduBody.{PduBody}
use Rattle.rpc_pdu.specs.declared.pdu.PduBody.TheVariants as bodies
use Rattle.rpc_pdu.specs.declared.refusal.PduBad.{PduBad}
use Rattle.rpc_frag.specs.Assembling.{feed_of}
use Rattle.rpc_frag.specs.Fragments.{fragment_of}
use Rattle.rpc_frag.specs.Streams.{whole}
use Rattle.rpc_frag.specs.declared.fragment.Whole.{Whole}
use Rattle.rpc_frag.specs.declared.refusal.FragBad.{FragBad}
use Rattle.rpc_frag.specs.declared.refusal.StreamError.{StreamError}
use Rattle.rpc_frag.specs.declared.refusal.StreamError.TheVariants as streams
use Rattle.wire_rows.specs.Naming.{bad_text, call_text, frag_bad_text, pdu_text}
use Rattle.wire_rows.specs.declared.feeding.Stream.{Stream}
use Rattle.wire_rows.specs.declared.feeding.Turn.{Turn}
use Rattle.wire_rows.specs.declared.feeding.Turn.TheVariants.{Took, Waits, Ended}

-- ---- the answer

-- a request or a response
abbrev pub is_part : PduBody → Bool
is_part (bodies.Request request) = true
is_part (bodies.Response response) = true
is_part other = false

-- a PDU is given to the assembler, if it is a part of a call or of an answer: the call that it completes, and what is begun behind it
abbrev pub fed : Option Whole → Pdu → Result (Option Whole × Option Whole) FragBad
fed begun p = if is_part p.body then feed_of begun (fragment_of p) else Ok (None, begun)

-- what is said of a PDU, and what parts it from what follows
abbrev pub pdu_part : Pdu × ℕ → List ℕ
pdu_part x = pdu_text x.1 x.0.body ++ codes "; "

-- the same of a call, where one is complete
abbrev pub call_part : Option Whole → List ℕ
call_part None = []
call_part (Some w) = call_text w ++ codes "; "

-- behind a PDU that was given to the assembler: a refusal ends it
abbrev pub behind : Result (Option Whole × Option Whole) FragBad → (Option Whole → List ℕ) → List ℕ
behind (Err bad) next = frag_bad_text bad
behind (Ok x) next = call_part x.0 ++ next x.1

-- of what is at the front: a refusal, how many bytes are left, or a PDU and what is behind it
abbrev pub said_of : Result (Option (Pdu × ℕ)) PduBad → Option Whole → List ℕ → (Option Whole → List ℕ → List ℕ) → List ℕ
said_of (Err bad) begun bytes next = bad_text bad
said_of (Ok None) begun bytes next = codes "rest " ++ decimal (length bytes)
said_of (Ok (Some x)) begun bytes next = pdu_part x ++ behind (fed begun x.0) (λ after. next after (drop x.1 bytes))

-- of so many PDUs at most
abbrev pub stream_text : ℕ → Option Whole → List ℕ → List ℕ
stream_text zero begun bytes = []
stream_text (suc turns) begun bytes = said_of (decoded bytes) begun bytes (stream_text turns)

-- what is said of a stream that comes in these pieces, however they are cut; since a PDU has 16 bytes at least, there are fewer than there are bytes
abbrev pub feed_answer : List (List ℕ) → List ℕ
feed_answer pieces = stream_text (suc (length (whole pieces))) None (whole pieces)

-- ---- calls

-- a PDU was taken, with its size; or there is none yet, or none
abbrev pub Takes : Result (Option (Pdu × ℕ)) StreamError → Cursor → Cursor → Type 0
Takes (Ok (Some x)) old new = (decoded old.rest ≡ Ok (Some x)) × (new.rest ≡ drop x.1 old.rest)
Takes (Ok None) old new = (decoded old.rest ≡ Ok None) × (new ≡ old)
Takes (Err streams.Memory) old new = Unit {0}
Takes (Err (streams.Bad bad)) old new = (decoded old.rest ≡ Err bad.why) × (new ≡ old)

-- a PDU was told, and the call that it completes; or it is refused
abbrev pub Tells : Turn → Pdu × ℕ → Stream → Stream → List ℕ → List ℕ → Type 0
Tells Took x old new before now = (call : Option Whole) × (fed old.assembler x.0 ≡ Ok (call, new.assembler)) × (new.splitter ≡ old.splitter) × (now ≡ before ++ (pdu_part x ++ call_part call))
Tells Waits x old new before now = ⊥
Tells Ended x old new before now = (bad : FragBad) × (fed old.assembler x.0 ≡ Err bad) × (now ≡ before ++ (pdu_part x ++ frag_bad_text bad))

-- a PDU was taken and told; or none is there in full; or something is refused
abbrev pub Turns : Turn → Stream → Stream → List ℕ → List ℕ → Type 0
Turns Took old new before now =
    (x : Pdu × ℕ) × (call : Option Whole) × (decoded old.splitter.rest ≡ Ok (Some x)) × (fed old.assembler x.0 ≡ Ok (call, new.assembler)) × (new.splitter.rest ≡ drop x.1 old.splitter.rest)
    × (now ≡ before ++ (pdu_part x ++ call_part call))
Turns Waits old new before now = (decoded old.splitter.rest ≡ Ok None) × (new ≡ old) × (now ≡ before)
Turns Ended old new before now =
    ((bad : PduBad) × (decoded old.splitter.rest ≡ Err bad) × (now ≡ before ++ bad_text bad))
    ⊎ ((x : Pdu × ℕ) × (bad : FragBad) × (decoded old.splitter.rest ≡ Ok (Some x)) × (fed old.assembler x.0 ≡ Err bad) × (now ≡ before ++ (pdu_part x ++ frag_bad_text bad)))

-- whatever comes behind, what was said and what will be said from here on is what is said from there on
abbrev pub LeadsTo : Stream → Stream → List ℕ → Type 0
LeadsTo old new said =
    (tail : List ℕ) (turns : ℕ) → length (old.splitter.rest ++ tail) < turns
    → (left : ℕ) × (length (new.splitter.rest ++ tail) < left) × (stream_text turns old.assembler (old.splitter.rest ++ tail) ≡ said ++ stream_text left new.assembler (new.splitter.rest ++ tail))

-- whatever comes behind, this is all that is said from there on
abbrev pub Closes : Stream → List ℕ → Type 0
Closes old said = (tail : List ℕ) (turns : ℕ) → length (old.splitter.rest ++ tail) < turns → stream_text turns old.assembler (old.splitter.rest ++ tail) ≡ said

-- the PDUs that are there were told, and none is left; or something was refused
abbrev pub Drains : Bool → Stream → Stream → List ℕ → List ℕ → Type 0
Drains true old new before now = (said : List ℕ) × (now ≡ before ++ said) × LeadsTo old new said × (decoded new.splitter.rest ≡ Ok None) × AreBytes new.splitter.rest
Drains false old new before now = (said : List ℕ) × (now ≡ before ++ said) × Closes old said

-- nothing has come
pub record IsFresh (s : Stream) : Type 0 where
  pub rest : s.splitter.rest ≡ []
  pub begun : s.assembler ≡ None

-- a piece has come
pub record Pushed (old new : Stream) (piece : List ℕ) : Type 0 where
  pub bytes : AreBytes piece
  pub rest : new.splitter.rest ≡ old.splitter.rest ++ piece
  pub begun : new.assembler ≡ old.assembler
