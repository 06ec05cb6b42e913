-- The replies: their layouts, how they are read and written, and which stubs spell them.
use Rattle.std.specs.Prelude.{◌≡◌, ◌<◌, ◌≤◌, ◌^◌, ◌==◌, ◌||◌, ◌⊎◌, ℕ, List, Option, Result, Err, IfSome, length, if◌then◌else◌}
use Rattle.std.specs.List.{AllByRecursion}
use Rattle.std.specs.Int.{w32, w64}
use Rattle.ndr_core.specs.Cursor.{Cursor}
use Rattle.ndr_core.specs.Items.{◌⨾◌, AreBytes, Item, checked, number}
use Rattle.ndr_core.specs.Identifiers.{IsHandle, guid_item, handle_item}
use Rattle.ndr_core.specs.Pointers.{optional}
use Rattle.ndr_core.specs.declared.handle.ContextHandle.{ContextHandle}
use Rattle.version_vector.specs.declared.interval.Interval.{Interval}
use Rattle.win_order.specs.declared.update.Update.{Update}
use Rattle.ndr_frs.specs.Shared.{IsInterval, IsUpdate, below_item, bytes_item, intervals_item, update_item, updates_item}
use Rattle.ndr_frs.specs.Stubs.{all_of, in_stub, made}
use Rattle.ndr_frs.specs.declared.refusal.StubBad.{StubBad}
use Rattle.ndr_frs.specs.declared.refusal.StubBad.TheVariants.{Opnum}
use Rattle.ndr_frs.specs.declared.reply.FrsReply.{FrsReply}
use Rattle.ndr_frs.specs.declared.reply.FrsReply.TheVariants as forms

-- ---- the fields of each, by its number

-- 2 for the last page, 3 for one behind which more come, 0 for none
abbrev pub status_item : Item ℕ
status_item = checked 4 (λ n. n == 0 || n == 2 || n == 3) (number w32)

-- return code
abbrev pub check_item : Item ℕ
check_item = number w32

-- version, flags, return code
abbrev pub connection_item : Item (ℕ × (ℕ × ℕ))
connection_item = number w32 ⨾ (number w32 ⨾ number w32)

-- return code
abbrev pub session_item : Item ℕ
session_item = number w32

-- maximum and updates, count, status, GVSN of the last update, return code
unfoldable pub page_item : Item ((ℕ × List Update) × (ℕ × (ℕ × (ℕ × (ℕ × ℕ)))))
page_item = updates_item ⨾ (number w32 ⨾ (status_item ⨾ (guid_item ⨾ (number w64 ⨾ number w32))))

-- return code
abbrev pub vector_item : Item ℕ
vector_item = number w32

-- sequence, status, generation, count, pointer to the vector, return code
abbrev pub poll_item : Item (ℕ × (ℕ × (ℕ × (ℕ × (Option (List Interval) × ℕ)))))
poll_item = number w32 ⨾ (below_item 2 ⨾ (number w64 ⨾ (number w32 ⨾ (optional (intervals_item 65536) ⨾ number w32))))

-- maximum and bytes, count of bytes read, whether it is the end, return code
abbrev pub data_item : Item ((ℕ × List ℕ) × (ℕ × (ℕ × ℕ)))
data_item = bytes_item ⨾ (number w32 ⨾ (below_item 2 ⨾ number w32))

-- handle, return code
abbrev pub close_item : Item (ContextHandle × ℕ)
close_item = handle_item ⨾ number w32

-- update, handle, maximum and bytes, count of bytes read, whether it is the end, detail, return code
unfoldable pub file_item : Item (Update × (ContextHandle × ((ℕ × List ℕ) × (ℕ × (ℕ × (ℕ × ℕ))))))
file_item = update_item ⨾ (handle_item ⨾ (bytes_item ⨾ (number w32 ⨾ (number w32 ⨾ (number w64 ⨾ number w32)))))

-- ---- the value that the fields of each make

abbrev pub as_check : ℕ → FrsReply
as_check t = forms.CheckConnectivity t

abbrev pub as_connection : (ℕ × (ℕ × ℕ)) → FrsReply
as_connection t = forms.EstablishConnection t.0 t.1.0 t.1.1

abbrev pub as_session : ℕ → FrsReply
as_session t = forms.EstablishSession t

abbrev pub as_page : ((ℕ × List Update) × (ℕ × (ℕ × (ℕ × (ℕ × ℕ))))) → FrsReply
as_page t = forms.RequestUpdates t.0.0 t.0.1 t.1.0 t.1.1.0 t.1.1.1.0 t.1.1.1.1.0 t.1.1.1.1.1

abbrev pub as_vector : ℕ → FrsReply
as_vector t = forms.RequestVersionVector t

abbrev pub as_poll : (ℕ × (ℕ × (ℕ × (ℕ × (Option (List Interval) × ℕ))))) → FrsReply
as_poll t = forms.AsyncPoll t.0 t.1.0 t.1.1.0 t.1.1.1.0 t.1.1.1.1.0 t.1.1.1.1.1

abbrev pub as_data : ((ℕ × List ℕ) × (ℕ × (ℕ × ℕ))) → FrsReply
as_data t = forms.RawGetFileData t.0.0 t.0.1 t.1.0 t.1.1.0 t.1.1.1

abbrev pub as_close : (ContextHandle × ℕ) → FrsReply
as_close t = forms.RdcClose t.0 t.1

abbrev pub as_file : (Update × (ContextHandle × ((ℕ × List ℕ) × (ℕ × (ℕ × (ℕ × ℕ)))))) → FrsReply
as_file t = forms.InitializeFileTransferAsync t.0 t.1.0 t.1.1.0.0 t.1.1.0.1 t.1.1.1.0 t.1.1.1.1.0 t.1.1.1.1.1.0 t.1.1.1.1.1.1

-- ---- reading

-- the reply with this number at a cursor
unfoldable pub reply_reads : ℕ → Cursor → Result (FrsReply × Cursor) StubBad
reply_reads opnum c =
    if opnum == 0 then in_stub (made as_check check_item c)
    else (if opnum == 1 then in_stub (made as_connection connection_item c)
    else (if opnum == 2 then in_stub (made as_session session_item c)
    else (if opnum == 3 then in_stub (made as_page page_item c)
    else (if opnum == 4 then in_stub (made as_vector vector_item c)
    else (if opnum == 5 then in_stub (made as_poll poll_item c)
    else (if opnum == 8 then in_stub (made as_data data_item c)
    else (if opnum == 12 then in_stub (made as_close close_item c)
    else (if opnum == 13 then in_stub (made as_file file_item c)
    else Err Opnum))))))))

-- the reply that a stub is, of the method with this number
abbrev pub reply_of : ℕ → List ℕ → Result FrsReply StubBad
reply_of opnum stub = all_of (reply_reads opnum (record { at = 0; rest = stub }))

-- ---- writing

-- the number of the method
abbrev pub reply_number : FrsReply → ℕ
reply_number (forms.CheckConnectivity rc) = 0
reply_number (forms.EstablishConnection version flags rc) = 1
reply_number (forms.EstablishSession rc) = 2
reply_number (forms.RequestUpdates maximum updates count status gvsn_db gvsn_version rc) = 3
reply_number (forms.RequestVersionVector rc) = 4
reply_number (forms.AsyncPoll sequence status generation count vector rc) = 5
reply_number (forms.RawGetFileData maximum bytes size_read is_end rc) = 8
reply_number (forms.RdcClose handle rc) = 12
reply_number (forms.InitializeFileTransferAsync update handle maximum bytes size_read is_end detail rc) = 13

-- behind bytes
abbrev pub reply_appends : FrsReply → List ℕ → List ℕ
reply_appends (forms.CheckConnectivity rc) out = check_item.appends out rc
reply_appends (forms.EstablishConnection version flags rc) out = connection_item.appends out (version, (flags, rc))
reply_appends (forms.EstablishSession rc) out = session_item.appends out rc
reply_appends (forms.RequestUpdates maximum updates count status gvsn_db gvsn_version rc) out = page_item.appends out ((maximum, updates), (count, (status, (gvsn_db, (gvsn_version, rc)))))
reply_appends (forms.RequestVersionVector rc) out = vector_item.appends out rc
reply_appends (forms.AsyncPoll sequence status generation count vector rc) out = poll_item.appends out (sequence, (status, (generation, (count, (vector, rc)))))
reply_appends (forms.RawGetFileData maximum bytes size_read is_end rc) out = data_item.appends out ((maximum, bytes), (size_read, (is_end, rc)))
reply_appends (forms.RdcClose handle rc) out = close_item.appends out (handle, rc)
reply_appends (forms.InitializeFileTransferAsync update handle maximum bytes size_read is_end detail rc) out = file_item.appends out (update, (handle, ((maximum, bytes), (size_read, (is_end, (detail, rc))))))

-- ---- spelling

-- the stub of the method with this number spells the value
abbrev pub SpellsReply : ℕ → FrsReply → List ℕ → Type 0
SpellsReply opnum (forms.CheckConnectivity rc) text = (opnum ≡ 0) × check_item.Spells 0 rc text
SpellsReply opnum (forms.EstablishConnection version flags rc) text = (opnum ≡ 1) × connection_item.Spells 0 (version, (flags, rc)) text
SpellsReply opnum (forms.EstablishSession rc) text = (opnum ≡ 2) × session_item.Spells 0 rc text
SpellsReply opnum (forms.RequestUpdates maximum updates count status gvsn_db gvsn_version rc) text = (opnum ≡ 3) × page_item.Spells 0 ((maximum, updates), (count, (status, (gvsn_db, (gvsn_version, rc))))) text
SpellsReply opnum (forms.RequestVersionVector rc) text = (opnum ≡ 4) × vector_item.Spells 0 rc text
SpellsReply opnum (forms.AsyncPoll sequence status generation count vector rc) text = (opnum ≡ 5) × poll_item.Spells 0 (sequence, (status, (generation, (count, (vector, rc))))) text
SpellsReply opnum (forms.RawGetFileData maximum bytes size_read is_end rc) text = (opnum ≡ 8) × data_item.Spells 0 ((maximum, bytes), (size_read, (is_end, rc))) text
SpellsReply opnum (forms.RdcClose handle rc) text = (opnum ≡ 12) × close_item.Spells 0 (handle, rc) text
SpellsReply opnum (forms.InitializeFileTransferAsync update handle maximum bytes size_read is_end detail rc) text = (opnum ≡ 13) × file_item.Spells 0 (update, (handle, ((maximum, bytes), (size_read, (is_end, (detail, rc)))))) text

-- ---- values

-- a status of a page, or none
abbrev pub IsStatus : ℕ → Type 0
IsStatus status = (status ≡ 0) ⊎ ((status ≡ 2) ⊎ (status ≡ 3))

-- each field has one of its stated values, and each array is within its limit and its maximum
abbrev pub IsStatedReply : FrsReply → Type 0
IsStatedReply (forms.RequestUpdates maximum updates count status gvsn_db gvsn_version rc) = (maximum ≤ 256) × (length updates ≤ maximum) × IsStatus status
IsStatedReply (forms.AsyncPoll sequence status generation count vector rc) = (status < 2) × IfSome vector (λ v. length v ≤ 65536)
IsStatedReply (forms.RawGetFileData maximum bytes size_read is_end rc) = (maximum ≤ 32768) × (length bytes ≤ maximum) × (is_end < 2)
IsStatedReply (forms.InitializeFileTransferAsync update handle maximum bytes size_read is_end detail rc) = (maximum ≤ 32768) × (length bytes ≤ maximum)
IsStatedReply other = Unit {0}

-- a vector of a reply
pub record IsVector (v : List Interval) : Type 0 where
  pub short : length v ≤ 65536
  pub each : AllByRecursion IsInterval v

-- and the numbers have room
abbrev pub IsReply : FrsReply → Type 0
IsReply (forms.CheckConnectivity rc) = rc < 2 ^ 32
IsReply (forms.EstablishConnection version flags rc) = (version < 2 ^ 32) × (flags < 2 ^ 32) × (rc < 2 ^ 32)
IsReply (forms.EstablishSession rc) = rc < 2 ^ 32
IsReply (forms.RequestUpdates maximum updates count status gvsn_db gvsn_version rc) =
    (maximum ≤ 256) × (length updates ≤ maximum) × IsStatus status × AllByRecursion IsUpdate updates × (count < 2 ^ 32) × (gvsn_db < 2 ^ 128) × (gvsn_version < 2 ^ 64) × (rc < 2 ^ 32)
IsReply (forms.RequestVersionVector rc) = rc < 2 ^ 32
IsReply (forms.AsyncPoll sequence status generation count vector rc) =
    (status < 2) × IfSome vector IsVector × (sequence < 2 ^ 32) × (generation < 2 ^ 64) × (count < 2 ^ 32) × (rc < 2 ^ 32)
IsReply (forms.RawGetFileData maximum bytes size_read is_end rc) =
    (maximum ≤ 32768) × (length bytes ≤ maximum) × (is_end < 2) × AreBytes bytes × (size_read < 2 ^ 32) × (rc < 2 ^ 32)
IsReply (forms.RdcClose handle rc) = IsHandle handle × (rc < 2 ^ 32)
IsReply (forms.InitializeFileTransferAsync update handle maximum bytes size_read is_end detail rc) =
    (maximum ≤ 32768) × (length bytes ≤ maximum) × IsUpdate update × IsHandle handle × AreBytes bytes × (size_read < 2 ^ 32) × (is_end < 2 ^ 32) × (detail < 2 ^ 64) × (rc < 2 ^ 32)
