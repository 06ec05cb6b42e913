-- The words of answers.
use Rattle.std.specs.Prelude.{◌++◌, ◌==◌, ℕ, List, codes, decimal, length, if◌then◌else◌}
use Rattle.hex.specs.Hex.{encode_lower}
use Rattle.ndr_core.specs.declared.refusal.NdrBad.{NdrBad}
use Rattle.ndr_core.specs.declared.refusal.NdrBad.TheVariants as items
use Rattle.ndr_frs.specs.declared.refusal.StubBad.{StubBad}
use Rattle.ndr_frs.specs.declared.refusal.StubBad.TheVariants as stubs
use Rattle.rpc_pdu.specs.declared.pdu.PduBody.{PduBody}
use Rattle.rpc_pdu.specs.declared.pdu.PduBody.TheVariants as bodies
use Rattle.rpc_pdu.specs.declared.refusal.PduBad.{PduBad}
use Rattle.rpc_pdu.specs.declared.refusal.PduBad.TheVariants as pdus
use Rattle.rpc_frag.specs.declared.fragment.Whole.{Whole}
use Rattle.rpc_frag.specs.declared.refusal.FragBad.{FragBad}
use Rattle.rpc_frag.specs.declared.refusal.FragBad.TheVariants.{FragOrder, FragTooLong}

-- bytes as hexadecimal digits in lower case, no bytes as `-`
abbrev pub hex_word : List ℕ → List ℕ
hex_word bytes = if length bytes == 0 then codes "-" else encode_lower bytes

-- the name of a PDU's kind
abbrev pub kind_name : PduBody → List ℕ
kind_name (bodies.Bind bind) = codes "Bind"
kind_name (bodies.BindAck ack) = codes "BindAck"
kind_name (bodies.BindNak nak) = codes "BindNak"
kind_name (bodies.Request request) = codes "Request"
kind_name (bodies.Response response) = codes "Response"
kind_name (bodies.Fault fault) = codes "Fault"
kind_name bodies.Shutdown = codes "Shutdown"
kind_name bodies.CoCancel = codes "CoCancel"
kind_name bodies.Orphaned = codes "Orphaned"

-- a PDU: how many bytes it takes, and its kind
abbrev pub pdu_text : ℕ → PduBody → List ℕ
pdu_text size body = codes "pdu " ++ (decimal size ++ (codes " " ++ kind_name body))

-- a call: its number, its context, its opnum, its stub
abbrev pub call_text : Whole → List ℕ
call_text w = codes "whole " ++ (decimal w.call ++ (codes " " ++ (decimal w.context ++ (codes " " ++ (decimal w.opnum ++ (codes " " ++ hex_word w.stub))))))

-- bytes that are no PDU; of a body the place is told
abbrev pub bad_text : PduBad → List ℕ
bad_text pdus.Version = codes "bad Version"
bad_text pdus.Kind = codes "bad Kind"
bad_text pdus.Drep = codes "bad Drep"
bad_text pdus.Length = codes "bad Length"
bad_text pdus.Auth = codes "bad Auth"
bad_text (pdus.Body at) = codes "bad Body " ++ decimal at

-- a fragment that is refused; of a stub that is too long its length is told
abbrev pub frag_bad_text : FragBad → List ℕ
frag_bad_text FragOrder = codes "bad FragOrder"
frag_bad_text (FragTooLong length) = codes "bad FragTooLong " ++ decimal length

-- an item that is refused, and its place
abbrev pub item_bad_text : NdrBad → List ℕ
item_bad_text (items.Short at) = codes "bad Short " ++ decimal at
item_bad_text (items.Count at) = codes "bad Count " ++ decimal at
item_bad_text (items.Terminator at) = codes "bad Terminator " ++ decimal at
item_bad_text (items.Value at) = codes "bad Value " ++ decimal at
item_bad_text (items.Rest at) = codes "bad Rest " ++ decimal at

-- bytes that are no stub
abbrev pub stub_bad_text : StubBad → List ℕ
stub_bad_text (stubs.Item bad) = item_bad_text bad
stub_bad_text stubs.Opnum = codes "bad Opnum"
