use Rattle.std.specs.Int.{w32, w64}
use Rattle.ndr_core.specs.Items.{◌⨾◌, chunk, number, padded}
use Rattle.ndr_core.specs.Identifiers.{guid_item}
use Rattle.ndr_frs.specs.Shared.{flag_item, gvsn_item, name_item, sum_item, uid_item, update_item}
use Rattle.ndr_frs.proofs.Written.{behind, last}
use Rattle.ndr_frs.proofs.update.UpdateItemWire.put.Goals as goal

pub returns : goal.returns
unfolding update_item
returns c =
    let u = c.args.update.now in
    let at_14 = last (number w32) u.flags c.put_name.new.out c.put_u32-2.new.self c.put_u32-2.result c.put_u32-2.ensures in
    let at_13 = behind (name_item) (number w32) u.name u.flags c.put_uid-2.new.out c.put_name.new.out c.put_u32-2.new.self c.put_u32-2.result c.in_ok-put_name.ensures at_14 in
    let at_12 = behind (uid_item) (name_item ⨾ number w32) u.parent (u.name, u.flags) c.put_gvsn.new.out c.put_uid-2.new.out c.put_u32-2.new.self c.put_u32-2.result c.in_ok-put_uid-2.ensures at_13 in
    let at_11 = behind (gvsn_item) (uid_item ⨾ (name_item ⨾ number w32)) u.gvsn (u.parent, (u.name, u.flags)) c.put_uid.new.out c.put_gvsn.new.out c.put_u32-2.new.self c.put_u32-2.result c.in_ok-put_gvsn.ensures at_12 in
    let at_10 = behind (uid_item) (gvsn_item ⨾ (uid_item ⨾ (name_item ⨾ number w32))) u.uid (u.gvsn, (u.parent, (u.name, u.flags))) c.put_array-2.new.self c.put_uid.new.out c.put_u32-2.new.self c.put_u32-2.result c.in_ok-put_uid.ensures at_11 in
    let at_9 = behind (chunk 1 16) (uid_item ⨾ (gvsn_item ⨾ (uid_item ⨾ (name_item ⨾ number w32)))) u.similarity (u.uid, (u.gvsn, (u.parent, (u.name, u.flags)))) c.put_array.new.self c.put_array-2.new.self c.put_u32-2.new.self c.put_u32-2.result c.in_ok-put_array-2.ensures at_10 in
    let at_8 = behind (sum_item) (chunk 1 16 ⨾ (uid_item ⨾ (gvsn_item ⨾ (uid_item ⨾ (name_item ⨾ number w32))))) u.hash (u.similarity, (u.uid, (u.gvsn, (u.parent, (u.name, u.flags))))) c.put_guid.new.self c.put_array.new.self c.put_u32-2.new.self c.put_u32-2.result c.in_ok-put_array.ensures at_9 in
    let at_7 = behind (guid_item) (sum_item ⨾ (chunk 1 16 ⨾ (uid_item ⨾ (gvsn_item ⨾ (uid_item ⨾ (name_item ⨾ number w32)))))) u.set (u.hash, (u.similarity, (u.uid, (u.gvsn, (u.parent, (u.name, u.flags)))))) c.put_u64-3.new.self c.put_guid.new.self c.put_u32-2.new.self c.put_u32-2.result c.in_ok-put_guid.ensures at_8 in
    let at_6 = behind (number w64) (guid_item ⨾ (sum_item ⨾ (chunk 1 16 ⨾ (uid_item ⨾ (gvsn_item ⨾ (uid_item ⨾ (name_item ⨾ number w32))))))) u.created (u.set, (u.hash, (u.similarity, (u.uid, (u.gvsn, (u.parent, (u.name, u.flags))))))) c.put_u64-2.new.self c.put_u64-3.new.self c.put_u32-2.new.self c.put_u32-2.result c.in_ok-put_u64-3.ensures at_7 in
    let at_5 = behind (number w64) (number w64 ⨾ (guid_item ⨾ (sum_item ⨾ (chunk 1 16 ⨾ (uid_item ⨾ (gvsn_item ⨾ (uid_item ⨾ (name_item ⨾ number w32)))))))) u.clock (u.created, (u.set, (u.hash, (u.similarity, (u.uid, (u.gvsn, (u.parent, (u.name, u.flags)))))))) c.put_u64.new.self c.put_u64-2.new.self c.put_u32-2.new.self c.put_u32-2.result c.in_ok-put_u64-2.ensures at_6 in
    let at_4 = behind (number w64) (number w64 ⨾ (number w64 ⨾ (guid_item ⨾ (sum_item ⨾ (chunk 1 16 ⨾ (uid_item ⨾ (gvsn_item ⨾ (uid_item ⨾ (name_item ⨾ number w32))))))))) u.fence (u.clock, (u.created, (u.set, (u.hash, (u.similarity, (u.uid, (u.gvsn, (u.parent, (u.name, u.flags))))))))) c.put_u32.new.self c.put_u64.new.self c.put_u32-2.new.self c.put_u32-2.result c.in_ok-put_u64.ensures at_5 in
    let at_3 = behind (number w32) (number w64 ⨾ (number w64 ⨾ (number w64 ⨾ (guid_item ⨾ (sum_item ⨾ (chunk 1 16 ⨾ (uid_item ⨾ (gvsn_item ⨾ (uid_item ⨾ (name_item ⨾ number w32)))))))))) u.attributes (u.fence, (u.clock, (u.created, (u.set, (u.hash, (u.similarity, (u.uid, (u.gvsn, (u.parent, (u.name, u.flags)))))))))) c.put_flag-2.new.out c.put_u32.new.self c.put_u32-2.new.self c.put_u32-2.result c.in_ok-put_u32.ensures at_4 in
    let at_2 = behind (flag_item) (number w32 ⨾ (number w64 ⨾ (number w64 ⨾ (number w64 ⨾ (guid_item ⨾ (sum_item ⨾ (chunk 1 16 ⨾ (uid_item ⨾ (gvsn_item ⨾ (uid_item ⨾ (name_item ⨾ number w32))))))))))) u.name_conflict (u.attributes, (u.fence, (u.clock, (u.created, (u.set, (u.hash, (u.similarity, (u.uid, (u.gvsn, (u.parent, (u.name, u.flags))))))))))) c.put_flag.new.out c.put_flag-2.new.out c.put_u32-2.new.self c.put_u32-2.result c.in_ok-put_flag-2.ensures at_3 in
    let at_1 = behind (flag_item) (flag_item ⨾ (number w32 ⨾ (number w64 ⨾ (number w64 ⨾ (number w64 ⨾ (guid_item ⨾ (sum_item ⨾ (chunk 1 16 ⨾ (uid_item ⨾ (gvsn_item ⨾ (uid_item ⨾ (name_item ⨾ number w32)))))))))))) u.present (u.name_conflict, (u.attributes, (u.fence, (u.clock, (u.created, (u.set, (u.hash, (u.similarity, (u.uid, (u.gvsn, (u.parent, (u.name, u.flags)))))))))))) c.align.new.self c.put_flag.new.out c.put_u32-2.new.self c.put_u32-2.result c.in_ok-put_flag.ensures at_2 in
    let at_0 = behind (padded 8) (flag_item ⨾ (flag_item ⨾ (number w32 ⨾ (number w64 ⨾ (number w64 ⨾ (number w64 ⨾ (guid_item ⨾ (sum_item ⨾ (chunk 1 16 ⨾ (uid_item ⨾ (gvsn_item ⨾ (uid_item ⨾ (name_item ⨾ number w32))))))))))))) tt (u.present, (u.name_conflict, (u.attributes, (u.fence, (u.clock, (u.created, (u.set, (u.hash, (u.similarity, (u.uid, (u.gvsn, (u.parent, (u.name, u.flags))))))))))))) c.args.out.now c.align.new.self c.put_u32-2.new.self c.put_u32-2.result c.in_ok-align.ensures at_1 in
    at_0
