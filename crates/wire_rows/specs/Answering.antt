-- What answers a row.
use Rattle.std.specs.Prelude.{◌≡◌, ◌⊎◌, ◌++◌, ℕ, List, [], Option, Some, None, Result, Ok, Err, codes, decimal}
use Rattle.hex.specs.Hex.{encode_lower}
use Rattle.sha1.specs.Sha1.{sha1}
use Rattle.marshal_form.specs.Fields.{IsFirstBad, IsForm}
use Rattle.marshal_form.specs.declared.meta.Meta.{Meta}
use Rattle.ndr_frs.specs.Requests.{request_appends, request_of}
use Rattle.ndr_frs.specs.Replies.{reply_appends, reply_of}
use Rattle.ndr_frs.specs.declared.refusal.StubBad.{StubBad}
use Rattle.ndr_frs.specs.declared.reply.FrsReply.{FrsReply}
use Rattle.ndr_frs.specs.declared.request.FrsRequest.{FrsRequest}
use Rattle.rpc_pdu.specs.Decoding.{decoded}
use Rattle.rpc_pdu.specs.Encoding.{encoded}
use Rattle.rpc_pdu.specs.declared.pdu.Pdu.{Pdu}
use Rattle.rpc_pdu.specs.declared.refusal.PduBad.{PduBad}
use Rattle.wire_rows.specs.Naming.{bad_text, hex_word, pdu_text, stub_bad_text}
use Rattle.wire_rows.specs.Feeding.{feed_answer}
use Rattle.wire_rows.specs.declared.row.WireRow.{WireRow}
use Rattle.wire_rows.specs.declared.row.WireRow.TheVariants as rows

-- of the PDU at the front of bytes: that more bytes are wanted, the refusal, or its size, its kind and its encoding
abbrev pub pdu_answer : Result (Option (Pdu × ℕ)) PduBad → List ℕ
pdu_answer (Ok None) = codes "more"
pdu_answer (Ok (Some x)) = pdu_text x.1 x.0.body ++ (codes " " ++ hex_word (encoded x.0))
pdu_answer (Err bad) = bad_text bad

-- a stub, written again
abbrev pub stub_text : List ℕ → List ℕ
stub_text stub = codes "stub " ++ hex_word stub

-- of the request that bytes are the stub of
abbrev pub request_answer : Result FrsRequest StubBad → List ℕ
request_answer (Ok request) = stub_text (request_appends request [])
request_answer (Err bad) = stub_bad_text bad

-- of the reply
abbrev pub reply_answer : Result FrsReply StubBad → List ℕ
reply_answer (Ok reply) = stub_text (reply_appends reply [])
reply_answer (Err bad) = stub_bad_text bad

-- of the file that bytes are the form of: its attributes, the place of its contents, and the sum of the form
abbrev pub file_text : Meta → List ℕ → List ℕ
file_text meta form = codes "file " ++ (decimal meta.attributes ++ (codes " " ++ (decimal 44 ++ (codes " " ++ encode_lower (sha1 form)))))

-- that, or the first place at which bytes are no form
abbrev pub IsFormAnswer : List ℕ → List ℕ → Type 0
IsFormAnswer form text =
    ((meta : Meta) × (contents : List ℕ) × IsForm form meta contents × (text ≡ file_text meta form))
    ⊎ ((at : ℕ) × IsFirstBad form at × (text ≡ codes "bad " ++ decimal at))

-- the text answers the row
abbrev pub Answers : WireRow → List ℕ → Type 0
Answers (rows.Pdu bytes) text = text ≡ pdu_answer (decoded bytes)
Answers (rows.Request opnum stub) text = text ≡ request_answer (request_of opnum stub)
Answers (rows.Reply opnum stub) text = text ≡ reply_answer (reply_of opnum stub)
Answers (rows.Feed pieces) text = text ≡ feed_answer pieces
Answers (rows.Form bytes) text = IsFormAnswer bytes text

-- a row has one answer
abbrev pub OneAnswer : Type 0
OneAnswer = (row : WireRow) (a b : List ℕ) → Answers row a → Answers row b → a ≡ b
