use Rattle.std.proofs.Common.{◌≡◌, List, OnOk, sym, subst}
use Rattle.std.specs.Int.{w32, w64}
use Rattle.win_order.specs.declared.update.Update.{Update}
use Rattle.ndr_core.specs.Items.{◌⨾◌, number}
use Rattle.ndr_core.specs.Identifiers.{guid_item}
use Rattle.ndr_frs.specs.Shared.{updates_item}
use Rattle.ndr_frs.specs.Replies.{page_item, reply_appends, status_item}
use Rattle.ndr_frs.specs.declared.reply.FrsReply.{FrsReply}
use Rattle.ndr_frs.proofs.Written.{behind, last}
use Rattle.ndr_frs.proofs.reply_writing.put_page.Goals as goal

pub returns : goal.returns
unfolding page_item
returns c =
    let listed = subst (λ (updates : List Update). c.put_updates.new.out ≡ updates_item.appends c.args.out.now (c.in-RequestUpdates.maximum, updates)) c.as_slice.ensures c.in_ok-put_updates-in-RequestUpdates.ensures in
    let at_5 = last (number w32) c.in-RequestUpdates.rc c.put_u64.new.self c.put_u32-in-RequestUpdates-2.new.self c.put_u32-in-RequestUpdates-2.result c.put_u32-in-RequestUpdates-2.ensures in
    let at_4 = behind (number w64) (number w32) c.in-RequestUpdates.gvsn_version c.in-RequestUpdates.rc c.put_guid.new.self c.put_u64.new.self c.put_u32-in-RequestUpdates-2.new.self c.put_u32-in-RequestUpdates-2.result c.in_ok-put_u64-in-RequestUpdates.ensures at_5 in
    let at_3 = behind (guid_item) (number w64 ⨾ number w32) c.in-RequestUpdates.gvsn_db (c.in-RequestUpdates.gvsn_version, c.in-RequestUpdates.rc) c.put_u32-in-RequestUpdates.new.self c.put_guid.new.self c.put_u32-in-RequestUpdates-2.new.self c.put_u32-in-RequestUpdates-2.result c.in_ok-put_guid-in-RequestUpdates.ensures at_4 in
    let at_2 = behind (status_item) (guid_item ⨾ (number w64 ⨾ number w32)) c.in-RequestUpdates.status (c.in-RequestUpdates.gvsn_db, (c.in-RequestUpdates.gvsn_version, c.in-RequestUpdates.rc)) c.put_u32.new.self c.put_u32-in-RequestUpdates.new.self c.put_u32-in-RequestUpdates-2.new.self c.put_u32-in-RequestUpdates-2.result c.in_ok-put_u32-in-RequestUpdates-2.ensures at_3 in
    let at_1 = behind (number w32) (status_item ⨾ (guid_item ⨾ (number w64 ⨾ number w32))) c.in-RequestUpdates.count (c.in-RequestUpdates.status, (c.in-RequestUpdates.gvsn_db, (c.in-RequestUpdates.gvsn_version, c.in-RequestUpdates.rc))) c.put_updates.new.out c.put_u32.new.self c.put_u32-in-RequestUpdates-2.new.self c.put_u32-in-RequestUpdates-2.result c.in_ok-put_u32-in-RequestUpdates.ensures at_2 in
    let at_0 = behind (updates_item) (number w32 ⨾ (status_item ⨾ (guid_item ⨾ (number w64 ⨾ number w32)))) (c.in-RequestUpdates.maximum, c.in-RequestUpdates.updates) (c.in-RequestUpdates.count, (c.in-RequestUpdates.status, (c.in-RequestUpdates.gvsn_db, (c.in-RequestUpdates.gvsn_version, c.in-RequestUpdates.rc)))) c.args.out.now c.put_updates.new.out c.put_u32-in-RequestUpdates-2.new.self c.put_u32-in-RequestUpdates-2.result listed at_1 in
    subst (λ (reply : FrsReply). OnOk c.put_u32-in-RequestUpdates-2.result (c.put_u32-in-RequestUpdates-2.new.self ≡ reply_appends reply c.args.out.now)) (sym c.in-RequestUpdates.is) at_0
