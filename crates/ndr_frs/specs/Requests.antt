-- The requests: their layouts, how they are read and written, and which stubs spell them.
use Rattle.std.specs.Prelude.{◌≡◌, ◌<◌, ◌≤◌, ◌^◌, ◌==◌, ℕ, List, Result, Err, length, if◌then◌else◌}
use Rattle.std.specs.List.{AllByRecursion}
use Rattle.std.specs.Int.{w32, w64}
use Rattle.ndr_core.specs.Cursor.{Cursor}
use Rattle.ndr_core.specs.Items.{◌⨾◌, Item, fixed, followed, number}
use Rattle.ndr_core.specs.Arrays.{conformant, many}
use Rattle.ndr_core.specs.Identifiers.{IsHandle, guid_item, handle_item}
use Rattle.ndr_core.specs.declared.handle.ContextHandle.{ContextHandle}
use Rattle.version_vector.specs.declared.interval.Interval.{Interval}
use Rattle.win_order.specs.declared.update.Update.{Update}
use Rattle.ndr_frs.specs.Shared.{IsInterval, IsUpdate, below_item, interval_item, update_item}
use Rattle.ndr_frs.specs.Stubs.{all_of, in_stub, made}
use Rattle.ndr_frs.specs.declared.refusal.StubBad.{StubBad}
use Rattle.ndr_frs.specs.declared.refusal.StubBad.TheVariants.{Opnum}
use Rattle.ndr_frs.specs.declared.request.FrsRequest.{FrsRequest}
use Rattle.ndr_frs.specs.declared.request.FrsRequest.TheVariants as forms

-- ---- the fields of each, by its number

-- replica set, connection
abbrev pub check_item : Item (ℕ × ℕ)
check_item = guid_item ⨾ guid_item

-- replica set, connection, version, flags
abbrev pub connection_item : Item (ℕ × (ℕ × (ℕ × ℕ)))
connection_item = guid_item ⨾ (guid_item ⨾ (number w32 ⨾ number w32))

-- connection, content set
abbrev pub session_item : Item (ℕ × ℕ)
session_item = guid_item ⨾ guid_item

-- connection, content set, credits, whether hashes are requested, kind, count of intervals; the array's count, which is the same, and the array
abbrev pub page_item : Item (ℕ × (ℕ × (ℕ × (ℕ × (ℕ × (ℕ × (Unit {0} × List Interval)))))))
page_item =
    guid_item ⨾ (guid_item ⨾ (number w32 ⨾ (number w32 ⨾ (below_item 3
    ⨾ followed (number w32) (λ said. fixed 4 said (conformant 131072) ⨾ many interval_item said)))))

-- sequence, connection, content set, type of the request, type of the change, generation
abbrev pub vector_item : Item (ℕ × (ℕ × (ℕ × (ℕ × (ℕ × ℕ)))))
vector_item = number w32 ⨾ (guid_item ⨾ (guid_item ⨾ (below_item 1 ⨾ (below_item 2 ⨾ number w64))))

-- connection
abbrev pub poll_item : Item ℕ
poll_item = guid_item

-- handle, size of the buffer
abbrev pub data_item : Item (ContextHandle × ℕ)
data_item = handle_item ⨾ number w32

-- handle
abbrev pub close_item : Item ContextHandle
close_item = handle_item

-- connection, update, whether differences are desired, policy, size of the buffer
abbrev pub file_item : Item (ℕ × (Update × (ℕ × (ℕ × ℕ))))
file_item = guid_item ⨾ (update_item ⨾ (number w32 ⨾ (number w32 ⨾ number w32)))

-- ---- the value that the fields of each make

abbrev pub as_check : (ℕ × ℕ) → FrsRequest
as_check t = forms.CheckConnectivity t.0 t.1

abbrev pub as_connection : (ℕ × (ℕ × (ℕ × ℕ))) → FrsRequest
as_connection t = forms.EstablishConnection t.0 t.1.0 t.1.1.0 t.1.1.1

abbrev pub as_session : (ℕ × ℕ) → FrsRequest
as_session t = forms.EstablishSession t.0 t.1

abbrev pub as_page : (ℕ × (ℕ × (ℕ × (ℕ × (ℕ × (ℕ × (Unit {0} × List Interval))))))) → FrsRequest
as_page t = forms.RequestUpdates t.0 t.1.0 t.1.1.0 t.1.1.1.0 t.1.1.1.1.0 t.1.1.1.1.1.0 t.1.1.1.1.1.1.1

abbrev pub as_vector : (ℕ × (ℕ × (ℕ × (ℕ × (ℕ × ℕ))))) → FrsRequest
as_vector t = forms.RequestVersionVector t.0 t.1.0 t.1.1.0 t.1.1.1.0 t.1.1.1.1.0 t.1.1.1.1.1

abbrev pub as_poll : ℕ → FrsRequest
as_poll t = forms.AsyncPoll t

abbrev pub as_data : (ContextHandle × ℕ) → FrsRequest
as_data t = forms.RawGetFileData t.0 t.1

abbrev pub as_close : ContextHandle → FrsRequest
as_close t = forms.RdcClose t

abbrev pub as_file : (ℕ × (Update × (ℕ × (ℕ × ℕ)))) → FrsRequest
as_file t = forms.InitializeFileTransferAsync t.0 t.1.0 t.1.1.0 t.1.1.1.0 t.1.1.1.1

-- ---- reading

-- the request with this number at a cursor
unfoldable pub request_reads : ℕ → Cursor → Result (FrsRequest × Cursor) StubBad
request_reads opnum c =
    if opnum == 0 then in_stub (made as_check check_item c)
    else (if opnum == 1 then in_stub (made as_connection connection_item c)
    else (if opnum == 2 then in_stub (made as_session session_item c)
    else (if opnum == 3 then in_stub (made as_page page_item c)
    else (if opnum == 4 then in_stub (made as_vector vector_item c)
    else (if opnum == 5 then in_stub (made as_poll poll_item c)
    else (if opnum == 8 then in_stub (made as_data data_item c)
    else (if opnum == 12 then in_stub (made as_close close_item c)
    else (if opnum == 13 then in_stub (made as_file file_item c)
    else Err Opnum))))))))

-- the request that a stub is, of the method with this number
abbrev pub request_of : ℕ → List ℕ → Result FrsRequest StubBad
request_of opnum stub = all_of (request_reads opnum (record { at = 0; rest = stub }))

-- ---- writing

-- the number of the method
abbrev pub request_number : FrsRequest → ℕ
request_number (forms.CheckConnectivity replica_set connection) = 0
request_number (forms.EstablishConnection replica_set connection version flags) = 1
request_number (forms.EstablishSession connection content_set) = 2
request_number (forms.RequestUpdates connection content_set credits hash_requested kind diff_count diff) = 3
request_number (forms.RequestVersionVector sequence connection content_set request_type change_type generation) = 4
request_number (forms.AsyncPoll connection) = 5
request_number (forms.RawGetFileData handle buffer_size) = 8
request_number (forms.RdcClose handle) = 12
request_number (forms.InitializeFileTransferAsync connection update rdc_desired policy buffer_size) = 13

-- behind bytes
abbrev pub request_appends : FrsRequest → List ℕ → List ℕ
request_appends (forms.CheckConnectivity replica_set connection) out = check_item.appends out (replica_set, connection)
request_appends (forms.EstablishConnection replica_set connection version flags) out = connection_item.appends out (replica_set, (connection, (version, flags)))
request_appends (forms.EstablishSession connection content_set) out = session_item.appends out (connection, content_set)
request_appends (forms.RequestUpdates connection content_set credits hash_requested kind diff_count diff) out = page_item.appends out (connection, (content_set, (credits, (hash_requested, (kind, (diff_count, (tt, diff)))))))
request_appends (forms.RequestVersionVector sequence connection content_set request_type change_type generation) out = vector_item.appends out (sequence, (connection, (content_set, (request_type, (change_type, generation)))))
request_appends (forms.AsyncPoll connection) out = poll_item.appends out connection
request_appends (forms.RawGetFileData handle buffer_size) out = data_item.appends out (handle, buffer_size)
request_appends (forms.RdcClose handle) out = close_item.appends out handle
request_appends (forms.InitializeFileTransferAsync connection update rdc_desired policy buffer_size) out = file_item.appends out (connection, (update, (rdc_desired, (policy, buffer_size))))

-- ---- spelling

-- the stub of the method with this number spells the value
abbrev pub SpellsRequest : ℕ → FrsRequest → List ℕ → Type 0
SpellsRequest opnum (forms.CheckConnectivity replica_set connection) text = (opnum ≡ 0) × check_item.Spells 0 (replica_set, connection) text
SpellsRequest opnum (forms.EstablishConnection replica_set connection version flags) text = (opnum ≡ 1) × connection_item.Spells 0 (replica_set, (connection, (version, flags))) text
SpellsRequest opnum (forms.EstablishSession connection content_set) text = (opnum ≡ 2) × session_item.Spells 0 (connection, content_set) text
SpellsRequest opnum (forms.RequestUpdates connection content_set credits hash_requested kind diff_count diff) text = (opnum ≡ 3) × page_item.Spells 0 (connection, (content_set, (credits, (hash_requested, (kind, (diff_count, (tt, diff))))))) text
SpellsRequest opnum (forms.RequestVersionVector sequence connection content_set request_type change_type generation) text = (opnum ≡ 4) × vector_item.Spells 0 (sequence, (connection, (content_set, (request_type, (change_type, generation))))) text
SpellsRequest opnum (forms.AsyncPoll connection) text = (opnum ≡ 5) × poll_item.Spells 0 connection text
SpellsRequest opnum (forms.RawGetFileData handle buffer_size) text = (opnum ≡ 8) × data_item.Spells 0 (handle, buffer_size) text
SpellsRequest opnum (forms.RdcClose handle) text = (opnum ≡ 12) × close_item.Spells 0 handle text
SpellsRequest opnum (forms.InitializeFileTransferAsync connection update rdc_desired policy buffer_size) text = (opnum ≡ 13) × file_item.Spells 0 (connection, (update, (rdc_desired, (policy, buffer_size)))) text

-- ---- values

-- versions or updates are asked for
abbrev pub IsAsking : FrsRequest → Type 0
IsAsking (forms.RequestUpdates connection content_set credits hash_requested kind diff_count diff) = Unit {0}
IsAsking (forms.RequestVersionVector sequence connection content_set request_type change_type generation) = Unit {0}
IsAsking other = ⊥

-- each field has one of its stated values, each array is within its limit, and each count is its array's
abbrev pub IsStatedRequest : FrsRequest → Type 0
IsStatedRequest (forms.RequestUpdates connection content_set credits hash_requested kind diff_count diff) = (kind < 3) × (diff_count ≡ length diff) × (length diff ≤ 131072)
IsStatedRequest (forms.RequestVersionVector sequence connection content_set request_type change_type generation) = (request_type < 1) × (change_type < 2)
IsStatedRequest other = Unit {0}

-- and the numbers have room
abbrev pub IsRequest : FrsRequest → Type 0
IsRequest (forms.CheckConnectivity replica_set connection) = (replica_set < 2 ^ 128) × (connection < 2 ^ 128)
IsRequest (forms.EstablishConnection replica_set connection version flags) = (replica_set < 2 ^ 128) × (connection < 2 ^ 128) × (version < 2 ^ 32) × (flags < 2 ^ 32)
IsRequest (forms.EstablishSession connection content_set) = (connection < 2 ^ 128) × (content_set < 2 ^ 128)
IsRequest (forms.RequestUpdates connection content_set credits hash_requested kind diff_count diff) =
    (kind < 3) × (diff_count ≡ length diff) × (length diff ≤ 131072) × (connection < 2 ^ 128) × (content_set < 2 ^ 128) × (credits < 2 ^ 32) × (hash_requested < 2 ^ 32) × AllByRecursion IsInterval diff
IsRequest (forms.RequestVersionVector sequence connection content_set request_type change_type generation) =
    (request_type < 1) × (change_type < 2) × (sequence < 2 ^ 32) × (connection < 2 ^ 128) × (content_set < 2 ^ 128) × (generation < 2 ^ 64)
IsRequest (forms.AsyncPoll connection) = connection < 2 ^ 128
IsRequest (forms.RawGetFileData handle buffer_size) = IsHandle handle × (buffer_size < 2 ^ 32)
IsRequest (forms.RdcClose handle) = IsHandle handle
IsRequest (forms.InitializeFileTransferAsync connection update rdc_desired policy buffer_size) = (connection < 2 ^ 128) × IsUpdate update × (rdc_desired < 2 ^ 32) × (policy < 2 ^ 32) × (buffer_size < 2 ^ 32)
