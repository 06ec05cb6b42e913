-- A reply has one spelling, but for free bytes.
use Rattle.std.proofs.Common.{ℕ, List}
use Rattle.std.specs.Int.{w32, w64}
use Rattle.ndr_core.specs.Laws.{DifferInFree, HasOneSpelling}
use Rattle.ndr_core.proofs.OneSpelling.{◌⊛◌, checked_one, guid_one, handle_one, number_one, optional_one, wider}
use Rattle.ndr_frs.specs.Replies.{SpellsReply, check_item, close_item, connection_item, data_item, file_item, page_item, poll_item, session_item, status_item, vector_item}
use Rattle.ndr_frs.specs.declared.reply.FrsReply.{FrsReply}
use Rattle.ndr_frs.specs.declared.reply.FrsReply.TheVariants as forms
use Rattle.ndr_frs.proofs.OneShared.{below_one, bytes_item_one, intervals_one, update_one, updates_one}

status_one : HasOneSpelling status_item
status_one = checked_one 4 _ (number_one w32)

check_one : HasOneSpelling check_item
check_one = number_one w32

connection_one : HasOneSpelling connection_item
connection_one = number_one w32 ⊛ (number_one w32 ⊛ number_one w32)

session_one : HasOneSpelling session_item
session_one = number_one w32

page_one : HasOneSpelling page_item
unfolding page_item
page_one = updates_one ⊛ (number_one w32 ⊛ (status_one ⊛ (guid_one ⊛ (number_one w64 ⊛ number_one w32))))

vector_one : HasOneSpelling vector_item
vector_one = number_one w32

poll_one : HasOneSpelling poll_item
poll_one = number_one w32 ⊛ (below_one 2 ⊛ (number_one w64 ⊛ (number_one w32 ⊛ (optional_one (intervals_one 65536) ⊛ number_one w32))))

data_one : HasOneSpelling data_item
data_one = bytes_item_one ⊛ (number_one w32 ⊛ (below_one 2 ⊛ number_one w32))

close_one : HasOneSpelling close_item
close_one = handle_one ⊛ number_one w32

file_one : HasOneSpelling file_item
unfolding file_item
file_one = update_one ⊛ (handle_one ⊛ (bytes_item_one ⊛ (number_one w32 ⊛ (number_one w32 ⊛ (number_one w64 ⊛ number_one w32)))))

pub replies_alike : (opnum : ℕ) (q : FrsReply) (x y : List ℕ) → SpellsReply opnum q x → SpellsReply opnum q y → DifferInFree (SpellsReply opnum q) x y
replies_alike opnum (forms.CheckConnectivity rc) x y s t = wider (check_item.Spells 0 rc) (SpellsReply opnum (forms.CheckConnectivity rc)) x y (λ text spells. (s.0, spells)) (check_one.alike 0 rc x y s.1 t.1)
replies_alike opnum (forms.EstablishConnection version flags rc) x y s t = wider (connection_item.Spells 0 (version, (flags, rc))) (SpellsReply opnum (forms.EstablishConnection version flags rc)) x y (λ text spells. (s.0, spells)) (connection_one.alike 0 (version, (flags, rc)) x y s.1 t.1)
replies_alike opnum (forms.EstablishSession rc) x y s t = wider (session_item.Spells 0 rc) (SpellsReply opnum (forms.EstablishSession rc)) x y (λ text spells. (s.0, spells)) (session_one.alike 0 rc x y s.1 t.1)
replies_alike opnum (forms.RequestUpdates maximum updates count status gvsn_db gvsn_version rc) x y s t = wider (page_item.Spells 0 ((maximum, updates), (count, (status, (gvsn_db, (gvsn_version, rc)))))) (SpellsReply opnum (forms.RequestUpdates maximum updates count status gvsn_db gvsn_version rc)) x y (λ text spells. (s.0, spells)) (page_one.alike 0 ((maximum, updates), (count, (status, (gvsn_db, (gvsn_version, rc))))) x y s.1 t.1)
replies_alike opnum (forms.RequestVersionVector rc) x y s t = wider (vector_item.Spells 0 rc) (SpellsReply opnum (forms.RequestVersionVector rc)) x y (λ text spells. (s.0, spells)) (vector_one.alike 0 rc x y s.1 t.1)
replies_alike opnum (forms.AsyncPoll sequence status generation count vector rc) x y s t = wider (poll_item.Spells 0 (sequence, (status, (generation, (count, (vector, rc)))))) (SpellsReply opnum (forms.AsyncPoll sequence status generation count vector rc)) x y (λ text spells. (s.0, spells)) (poll_one.alike 0 (sequence, (status, (generation, (count, (vector, rc))))) x y s.1 t.1)
replies_alike opnum (forms.RawGetFileData maximum bytes size_read is_end rc) x y s t = wider (data_item.Spells 0 ((maximum, bytes), (size_read, (is_end, rc)))) (SpellsReply opnum (forms.RawGetFileData maximum bytes size_read is_end rc)) x y (λ text spells. (s.0, spells)) (data_one.alike 0 ((maximum, bytes), (size_read, (is_end, rc))) x y s.1 t.1)
replies_alike opnum (forms.RdcClose handle rc) x y s t = wider (close_item.Spells 0 (handle, rc)) (SpellsReply opnum (forms.RdcClose handle rc)) x y (λ text spells. (s.0, spells)) (close_one.alike 0 (handle, rc) x y s.1 t.1)
replies_alike opnum (forms.InitializeFileTransferAsync update handle maximum bytes size_read is_end detail rc) x y s t = wider (file_item.Spells 0 (update, (handle, ((maximum, bytes), (size_read, (is_end, (detail, rc))))))) (SpellsReply opnum (forms.InitializeFileTransferAsync update handle maximum bytes size_read is_end detail rc)) x y (λ text spells. (s.0, spells)) (file_one.alike 0 (update, (handle, ((maximum, bytes), (size_read, (is_end, (detail, rc)))))) x y s.1 t.1)
