-- A request has one spelling, but for free bytes.
use Rattle.std.proofs.Common.{ℕ, List}
use Rattle.std.specs.Int.{w32, w64}
use Rattle.ndr_core.specs.Laws.{DifferInFree, HasOneSpelling}
use Rattle.ndr_core.proofs.OneSpelling.{◌⊛◌, conformant_one, fixed_one, followed_one, guid_one, handle_one, many_one, number_one, wider}
use Rattle.ndr_frs.specs.Requests.{SpellsRequest, check_item, close_item, connection_item, data_item, file_item, page_item, poll_item, session_item, vector_item}
use Rattle.ndr_frs.specs.declared.request.FrsRequest.{FrsRequest}
use Rattle.ndr_frs.specs.declared.request.FrsRequest.TheVariants as forms
use Rattle.ndr_frs.proofs.OneShared.{below_one, interval_one, update_one}

check_one : HasOneSpelling check_item
check_one = guid_one ⊛ guid_one

connection_one : HasOneSpelling connection_item
connection_one = guid_one ⊛ (guid_one ⊛ (number_one w32 ⊛ number_one w32))

session_one : HasOneSpelling session_item
session_one = guid_one ⊛ guid_one

page_one : HasOneSpelling page_item
page_one = guid_one ⊛ (guid_one ⊛ (number_one w32 ⊛ (number_one w32 ⊛ (below_one 3 ⊛ followed_one (number_one w32) (λ said. fixed_one 4 said (conformant_one 131072) ⊛ many_one said interval_one)))))

vector_one : HasOneSpelling vector_item
vector_one = number_one w32 ⊛ (guid_one ⊛ (guid_one ⊛ (below_one 1 ⊛ (below_one 2 ⊛ number_one w64))))

poll_one : HasOneSpelling poll_item
poll_one = guid_one

data_one : HasOneSpelling data_item
data_one = handle_one ⊛ number_one w32

close_one : HasOneSpelling close_item
close_one = handle_one

file_one : HasOneSpelling file_item
file_one = guid_one ⊛ (update_one ⊛ (number_one w32 ⊛ (number_one w32 ⊛ number_one w32)))

pub requests_alike : (opnum : ℕ) (q : FrsRequest) (x y : List ℕ) → SpellsRequest opnum q x → SpellsRequest opnum q y → DifferInFree (SpellsRequest opnum q) x y
requests_alike opnum (forms.CheckConnectivity replica_set connection) x y s t = wider (check_item.Spells 0 (replica_set, connection)) (SpellsRequest opnum (forms.CheckConnectivity replica_set connection)) x y (λ text spells. (s.0, spells)) (check_one.alike 0 (replica_set, connection) x y s.1 t.1)
requests_alike opnum (forms.EstablishConnection replica_set connection version flags) x y s t = wider (connection_item.Spells 0 (replica_set, (connection, (version, flags)))) (SpellsRequest opnum (forms.EstablishConnection replica_set connection version flags)) x y (λ text spells. (s.0, spells)) (connection_one.alike 0 (replica_set, (connection, (version, flags))) x y s.1 t.1)
requests_alike opnum (forms.EstablishSession connection content_set) x y s t = wider (session_item.Spells 0 (connection, content_set)) (SpellsRequest opnum (forms.EstablishSession connection content_set)) x y (λ text spells. (s.0, spells)) (session_one.alike 0 (connection, content_set) x y s.1 t.1)
requests_alike opnum (forms.RequestUpdates connection content_set credits hash_requested kind diff_count diff) x y s t = wider (page_item.Spells 0 (connection, (content_set, (credits, (hash_requested, (kind, (diff_count, (tt, diff)))))))) (SpellsRequest opnum (forms.RequestUpdates connection content_set credits hash_requested kind diff_count diff)) x y (λ text spells. (s.0, spells)) (page_one.alike 0 (connection, (content_set, (credits, (hash_requested, (kind, (diff_count, (tt, diff))))))) x y s.1 t.1)
requests_alike opnum (forms.RequestVersionVector sequence connection content_set request_type change_type generation) x y s t = wider (vector_item.Spells 0 (sequence, (connection, (content_set, (request_type, (change_type, generation)))))) (SpellsRequest opnum (forms.RequestVersionVector sequence connection content_set request_type change_type generation)) x y (λ text spells. (s.0, spells)) (vector_one.alike 0 (sequence, (connection, (content_set, (request_type, (change_type, generation))))) x y s.1 t.1)
requests_alike opnum (forms.AsyncPoll connection) x y s t = wider (poll_item.Spells 0 connection) (SpellsRequest opnum (forms.AsyncPoll connection)) x y (λ text spells. (s.0, spells)) (poll_one.alike 0 connection x y s.1 t.1)
requests_alike opnum (forms.RawGetFileData handle buffer_size) x y s t = wider (data_item.Spells 0 (handle, buffer_size)) (SpellsRequest opnum (forms.RawGetFileData handle buffer_size)) x y (λ text spells. (s.0, spells)) (data_one.alike 0 (handle, buffer_size) x y s.1 t.1)
requests_alike opnum (forms.RdcClose handle) x y s t = wider (close_item.Spells 0 handle) (SpellsRequest opnum (forms.RdcClose handle)) x y (λ text spells. (s.0, spells)) (close_one.alike 0 handle x y s.1 t.1)
requests_alike opnum (forms.InitializeFileTransferAsync connection update rdc_desired policy buffer_size) x y s t = wider (file_item.Spells 0 (connection, (update, (rdc_desired, (policy, buffer_size))))) (SpellsRequest opnum (forms.InitializeFileTransferAsync connection update rdc_desired policy buffer_size)) x y (λ text spells. (s.0, spells)) (file_one.alike 0 (connection, (update, (rdc_desired, (policy, buffer_size)))) x y s.1 t.1)
