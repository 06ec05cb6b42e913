-- What holds of every stub.
use Rattle.std.specs.Prelude.{◌≡◌, ◌++◌, ℕ, List, [], Ok, Err}
use Rattle.ndr_core.specs.Items.{AreBytes}
use Rattle.ndr_core.specs.Laws.{DifferInFree}
use Rattle.ndr_frs.specs.Requests.{IsRequest, SpellsRequest, request_appends, request_number, request_of}
use Rattle.ndr_frs.specs.Replies.{IsReply, SpellsReply, reply_appends, reply_number, reply_of}
use Rattle.ndr_frs.specs.declared.refusal.StubBad.{StubBad}
use Rattle.ndr_frs.specs.declared.reply.FrsReply.{FrsReply}
use Rattle.ndr_frs.specs.declared.request.FrsRequest.{FrsRequest}

-- what is read is spelled by the stub, and what is spelled is read, so that a stub spells one value at most and none that is refused, and no spelling begins another; the spellings of one value differ only in free bytes; what is written is a spelling and is read again
pub record RequestsAreExact : Type 0 where
  pub found : (opnum : ℕ) (stub : List ℕ) (q : FrsRequest) → AreBytes stub → request_of opnum stub ≡ Ok q → SpellsRequest opnum q stub
  pub only : (opnum : ℕ) (stub : List ℕ) (q : FrsRequest) → SpellsRequest opnum q stub → request_of opnum stub ≡ Ok q
  pub begins : (opnum : ℕ) (text rest : List ℕ) (q r : FrsRequest) → SpellsRequest opnum q text → SpellsRequest opnum r (text ++ rest) → (q ≡ r) × (rest ≡ [])
  pub one : (opnum : ℕ) (stub : List ℕ) (q r : FrsRequest) → SpellsRequest opnum q stub → SpellsRequest opnum r stub → q ≡ r
  pub alike : (opnum : ℕ) (q : FrsRequest) (x y : List ℕ) → SpellsRequest opnum q x → SpellsRequest opnum q y → DifferInFree (SpellsRequest opnum q) x y
  pub refused : (opnum : ℕ) (stub : List ℕ) (bad : StubBad) (q : FrsRequest) → request_of opnum stub ≡ Err bad → SpellsRequest opnum q stub → ⊥
  pub written : (q : FrsRequest) → IsRequest q → SpellsRequest (request_number q) q (request_appends q [])
  pub back : (q : FrsRequest) → IsRequest q → request_of (request_number q) (request_appends q []) ≡ Ok q

-- the same of replies
pub record RepliesAreExact : Type 0 where
  pub found : (opnum : ℕ) (stub : List ℕ) (q : FrsReply) → AreBytes stub → reply_of opnum stub ≡ Ok q → SpellsReply opnum q stub
  pub only : (opnum : ℕ) (stub : List ℕ) (q : FrsReply) → SpellsReply opnum q stub → reply_of opnum stub ≡ Ok q
  pub begins : (opnum : ℕ) (text rest : List ℕ) (q r : FrsReply) → SpellsReply opnum q text → SpellsReply opnum r (text ++ rest) → (q ≡ r) × (rest ≡ [])
  pub one : (opnum : ℕ) (stub : List ℕ) (q r : FrsReply) → SpellsReply opnum q stub → SpellsReply opnum r stub → q ≡ r
  pub alike : (opnum : ℕ) (q : FrsReply) (x y : List ℕ) → SpellsReply opnum q x → SpellsReply opnum q y → DifferInFree (SpellsReply opnum q) x y
  pub refused : (opnum : ℕ) (stub : List ℕ) (bad : StubBad) (q : FrsReply) → reply_of opnum stub ≡ Err bad → SpellsReply opnum q stub → ⊥
  pub written : (q : FrsReply) → IsReply q → SpellsReply (reply_number q) q (reply_appends q [])
  pub back : (q : FrsReply) → IsReply q → reply_of (reply_number q) (reply_appends q []) ≡ Ok q
