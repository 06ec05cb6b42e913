use Rattle.std.proofs.Common.{◌≡◌, ℕ, List, OnOk, sym, subst}
use Rattle.std.specs.Int.{w32, w64}
use Rattle.ndr_core.specs.Items.{◌⨾◌, number}
use Rattle.ndr_core.specs.Identifiers.{handle_item}
use Rattle.ndr_frs.specs.Shared.{bytes_item, update_item}
use Rattle.ndr_frs.specs.Replies.{file_item, reply_appends}
use Rattle.ndr_frs.specs.declared.reply.FrsReply.{FrsReply}
use Rattle.ndr_frs.proofs.Written.{behind, last}
use Rattle.ndr_frs.proofs.reply_writing.put_file.Goals as goal

pub returns : goal.returns
unfolding file_item
returns c =
    let carried = subst (λ (bytes : List ℕ). c.put_bytes.new.out ≡ bytes_item.appends c.put_handle.new.self (c.in-InitializeFileTransferAsync.maximum, bytes)) c.as_slice.ensures c.in_ok-put_bytes-in-InitializeFileTransferAsync.ensures in
    let at_6 = last (number w32) c.in-InitializeFileTransferAsync.rc c.put_u64.new.self c.put_u32-in-InitializeFileTransferAsync-2.new.self c.put_u32-in-InitializeFileTransferAsync-2.result c.put_u32-in-InitializeFileTransferAsync-2.ensures in
    let at_5 = behind (number w64) (number w32) c.in-InitializeFileTransferAsync.detail c.in-InitializeFileTransferAsync.rc c.put_u32-in-InitializeFileTransferAsync.new.self c.put_u64.new.self c.put_u32-in-InitializeFileTransferAsync-2.new.self c.put_u32-in-InitializeFileTransferAsync-2.result c.in_ok-put_u64-in-InitializeFileTransferAsync.ensures at_6 in
    let at_4 = behind (number w32) (number w64 ⨾ number w32) c.in-InitializeFileTransferAsync.is_end (c.in-InitializeFileTransferAsync.detail, c.in-InitializeFileTransferAsync.rc) c.put_u32.new.self c.put_u32-in-InitializeFileTransferAsync.new.self c.put_u32-in-InitializeFileTransferAsync-2.new.self c.put_u32-in-InitializeFileTransferAsync-2.result c.in_ok-put_u32-in-InitializeFileTransferAsync-2.ensures at_5 in
    let at_3 = behind (number w32) (number w32 ⨾ (number w64 ⨾ number w32)) c.in-InitializeFileTransferAsync.size_read (c.in-InitializeFileTransferAsync.is_end, (c.in-InitializeFileTransferAsync.detail, c.in-InitializeFileTransferAsync.rc)) c.put_bytes.new.out c.put_u32.new.self c.put_u32-in-InitializeFileTransferAsync-2.new.self c.put_u32-in-InitializeFileTransferAsync-2.result c.in_ok-put_u32-in-InitializeFileTransferAsync.ensures at_4 in
    let at_2 = behind (bytes_item) (number w32 ⨾ (number w32 ⨾ (number w64 ⨾ number w32))) (c.in-InitializeFileTransferAsync.maximum, c.in-InitializeFileTransferAsync.bytes) (c.in-InitializeFileTransferAsync.size_read, (c.in-InitializeFileTransferAsync.is_end, (c.in-InitializeFileTransferAsync.detail, c.in-InitializeFileTransferAsync.rc))) c.put_handle.new.self c.put_bytes.new.out c.put_u32-in-InitializeFileTransferAsync-2.new.self c.put_u32-in-InitializeFileTransferAsync-2.result carried at_3 in
    let at_1 = behind (handle_item) (bytes_item ⨾ (number w32 ⨾ (number w32 ⨾ (number w64 ⨾ number w32)))) c.in-InitializeFileTransferAsync.handle ((c.in-InitializeFileTransferAsync.maximum, c.in-InitializeFileTransferAsync.bytes), (c.in-InitializeFileTransferAsync.size_read, (c.in-InitializeFileTransferAsync.is_end, (c.in-InitializeFileTransferAsync.detail, c.in-InitializeFileTransferAsync.rc)))) c.put.new.out c.put_handle.new.self c.put_u32-in-InitializeFileTransferAsync-2.new.self c.put_u32-in-InitializeFileTransferAsync-2.result c.in_ok-put_handle-in-InitializeFileTransferAsync.ensures at_2 in
    let at_0 = behind (update_item) (handle_item ⨾ (bytes_item ⨾ (number w32 ⨾ (number w32 ⨾ (number w64 ⨾ number w32))))) c.in-InitializeFileTransferAsync.update (c.in-InitializeFileTransferAsync.handle, ((c.in-InitializeFileTransferAsync.maximum, c.in-InitializeFileTransferAsync.bytes), (c.in-InitializeFileTransferAsync.size_read, (c.in-InitializeFileTransferAsync.is_end, (c.in-InitializeFileTransferAsync.detail, c.in-InitializeFileTransferAsync.rc))))) c.args.out.now c.put.new.out c.put_u32-in-InitializeFileTransferAsync-2.new.self c.put_u32-in-InitializeFileTransferAsync-2.result c.in_ok-put-in-InitializeFileTransferAsync.ensures at_1 in
    subst (λ (reply : FrsReply). OnOk c.put_u32-in-InitializeFileTransferAsync-2.result (c.put_u32-in-InitializeFileTransferAsync-2.new.self ≡ reply_appends reply c.args.out.now)) (sym c.in-InitializeFileTransferAsync.is) at_0
