-- What a stub spells has the stated values.
use Rattle.std.proofs.Common.{◌≡◌, ℕ, ◌≤◌, ◌||◌, Bool, true, false, eqb, List, Option, None, Some, length, inl, inr, refl, sym, subst}
use Rattle.std.specs.Prelude.{◌⊎◌, IfSome}
use Rattle.std.proofs.lemmas.Bool.{eqb-true, ltb-true}
use Rattle.version_vector.specs.declared.interval.Interval.{Interval}
use Rattle.win_order.specs.declared.update.Update.{Update}
use Rattle.ndr_core.specs.Pointers.{optional}
use Rattle.ndr_frs.specs.Shared.{bytes_item, intervals_item, updates_item}
use Rattle.ndr_frs.specs.Requests.{IsStatedRequest, SpellsRequest}
use Rattle.ndr_frs.specs.Replies.{IsStatedReply, IsStatus, SpellsReply, file_item, page_item}
use Rattle.ndr_frs.specs.declared.reply.FrsReply.{FrsReply}
use Rattle.ndr_frs.specs.declared.reply.FrsReply.TheVariants as replies
use Rattle.ndr_frs.specs.declared.request.FrsRequest.{FrsRequest}
use Rattle.ndr_frs.specs.declared.request.FrsRequest.TheVariants as requests

pub request_stated : (opnum : ℕ) (stub : List ℕ) (q : FrsRequest) → SpellsRequest opnum q stub → IsStatedRequest q
request_stated opnum stub (requests.CheckConnectivity replica_set connection) s = tt
request_stated opnum stub (requests.EstablishConnection replica_set connection version flags) s = tt
request_stated opnum stub (requests.EstablishSession connection content_set) s = tt
request_stated opnum stub (requests.RequestUpdates connection content_set credits hash_requested kind diff_count diff) s =
    let k = s.1.4.4.4.4 in
    (ltb-true kind 3 k.3.0, sym k.4.4.4.0, subst (λ (n : ℕ). n ≤ 131072) (sym k.4.4.4.0) k.4.4.3.0)
request_stated opnum stub (requests.RequestVersionVector sequence connection content_set request_type change_type generation) s = (ltb-true request_type 1 s.1.4.4.4.3.0, ltb-true change_type 2 s.1.4.4.4.4.3.0)
request_stated opnum stub (requests.AsyncPoll connection) s = tt
request_stated opnum stub (requests.RawGetFileData handle buffer_size) s = tt
request_stated opnum stub (requests.RdcClose handle) s = tt
request_stated opnum stub (requests.InitializeFileTransferAsync connection update rdc_desired policy buffer_size) s = tt

-- ---- replies

or_cases : (a b : Bool) → (a || b) ≡ true → (a ≡ true) ⊎ (b ≡ true)
or_cases true b e = inl refl
or_cases false b e = inr e

status_of : (n : ℕ) → (eqb n 0 || eqb n 2 || eqb n 3) ≡ true → IsStatus n
status_of n e =
    elim (or_cases (eqb n 0 || eqb n 2) (eqb n 3) e) [
      | inr three ↦ inr (inr (eqb-true n 3 three))
      | inl lower ↦ elim (or_cases (eqb n 0) (eqb n 2) lower) [
        | inl none ↦ inl (eqb-true n 0 none)
        | inr two ↦ inr (inl (eqb-true n 2 two))
      ]
    ]

updates_within : (at maximum : ℕ) (updates : List Update) (text : List ℕ) → updates_item.Spells at (maximum, updates) text → (maximum ≤ 256) × (length updates ≤ maximum)
updates_within at maximum updates text s = (s.1.3.0, s.1.4.3.0)

bytes_within : (at maximum : ℕ) (bytes text : List ℕ) → bytes_item.Spells at (maximum, bytes) text → (maximum ≤ 32768) × (length bytes ≤ maximum)
bytes_within at maximum bytes text s = (s.1.3.0, s.1.4.3.0)

some_is : (v w : List Interval) → Some v ≡ Some w → v ≡ w
some_is v w e = cc

vector_within : (at : ℕ) (vector : Option (List Interval)) (text : List ℕ) → (optional (intervals_item 65536)).Spells at vector text → IfSome vector (λ v. length v ≤ 65536)
vector_within at None text s = tt
vector_within at (Some v) text s =
    let there = s.1.4 in
    subst (λ (w : List Interval). length w ≤ 65536) (sym (some_is v there.0 there.1)) there.2.1.3.0

pub reply_stated : (opnum : ℕ) (stub : List ℕ) (q : FrsReply) → SpellsReply opnum q stub → IsStatedReply q
unfolding page_item file_item
reply_stated opnum stub (replies.CheckConnectivity rc) s = tt
reply_stated opnum stub (replies.EstablishConnection version flags rc) s = tt
reply_stated opnum stub (replies.EstablishSession rc) s = tt
reply_stated opnum stub (replies.RequestUpdates maximum updates count status gvsn_db gvsn_version rc) s =
    let page = updates_within 0 maximum updates s.1.0 s.1.3 in
    (page.0, page.1, status_of status s.1.4.4.3.0)
reply_stated opnum stub (replies.RequestVersionVector rc) s = tt
reply_stated opnum stub (replies.AsyncPoll sequence status generation count vector rc) s =
    (ltb-true status 2 s.1.4.3.0, vector_within _ vector s.1.4.4.4.4.0 s.1.4.4.4.4.3)
reply_stated opnum stub (replies.RawGetFileData maximum bytes size_read is_end rc) s =
    let chunk = bytes_within 0 maximum bytes s.1.0 s.1.3 in
    (chunk.0, chunk.1, ltb-true is_end 2 s.1.4.4.3.0)
reply_stated opnum stub (replies.RdcClose handle rc) s = tt
reply_stated opnum stub (replies.InitializeFileTransferAsync update handle maximum bytes size_read is_end detail rc) s =
    let chunk = bytes_within _ maximum bytes s.1.4.4.0 s.1.4.4.3 in
    (chunk.0, chunk.1)
