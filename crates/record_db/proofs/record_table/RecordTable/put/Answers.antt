use Rattle.std.proofs.Common.{◌≡◌, ◌∙◌, ap, subst, sym, false, List, Some, None}
use Rattle.std.specs.Prelude.{option_copied}
use Rattle.std.specs.List.{AllByRecursion}
use Rattle.std.specs.Map.{lookup, remove_entry, values_of}
use Rattle.std.specs.BTreeMap.{insert_entry, is_at}
use Rattle.frs_base.specs.Versions.{same_gvsn}
use Rattle.frs_base.specs.declared.version.Gvsn.{Gvsn}
use Rattle.frs_base.specs.declared.version.Uid.{Uid}
use Rattle.win_order.specs.declared.update.Update.{Update}
use Rattle.record_db.specs.Lists.{put_record}
use Rattle.record_db.specs.Maps.{AreFiled, gvsn_cmp, uid_cmp}
use Rattle.record_db.proofs.Maps.{filed_new, filed_over, values_put}
use Rattle.record_db.proofs.record_table.RecordTable.put.Goals as goal
use Rattle.record_db.proofs.record_table.RecordTable.put.Goals.{in-Some, in_default}

same_maps : (files files' : List (Uid × Update)) (versions versions' : List (Gvsn × Update)) → files' ≡ files → versions' ≡ versions → AreFiled files versions → AreFiled files' versions'
same_maps files files' versions versions' f v filed = subst (λ l. AreFiled l versions') (sym f) (subst (AreFiled files) (sym v) filed)

pub invariant_of-self : goal.invariant_of-self
invariant_of-self c =
    let u = c.args.update in
    let files = c.self.inside.files.entries in
    let versions = c.self.inside.versions.entries in
    let value = c.update.view_is in
    let uid = ap (λ (x : Update). x.uid) (c.deref.ensures ∙ value) in
    let gvsn = ap (λ (x : Update). x.gvsn) (c.deref-2.ensures ∙ value) in
    let other = c.update.invariant ∙ value in
    let put = c.put.ensures.put ∙ (λ i. insert_entry uid_cmp c.match-get.self-inside.files.entries (uid i) (value i)) in
    let put2 = c.put-2.ensures.put ∙ (λ i. insert_entry gvsn_cmp c.match-get.self-inside.versions.entries (gvsn i) (other i)) in
    let new = subst (AllByRecursion (λ r. same_gvsn u.gvsn r.gvsn ≡ false)) (sym (ap (λ s. s.items) c.self.view_is)) c.requires.new in
    let found = ap (λ k. lookup (is_at (uid_cmp k)) files) (sym uid) ∙ sym c.get.ensures.value in
    elim c.match-get.branch as (λ _. AreFiled c.put.new.self.entries c.put-2.new.self.entries) [
      | in-Some w ↦
          let held = w.in-Some.held.now in
          let here = ap (λ s. s.files.entries) w.self-inside-is in
          let left = ap (λ s. s.versions.entries) w.self-inside-is ∙ w.cut.ensures.cut in
          same_maps _ _ _ _ (put ∙ ap (λ l. insert_entry uid_cmp l u.uid u) here) (put2 ∙ ap (λ l. insert_entry gvsn_cmp l u.gvsn u) left)
          (filed_over u files versions c.self.invariant c.get.ensures.rising new held (found ∙ ap option_copied w.in-Some.is))
      | in_default w ↦
          let here = ap (λ s. s.files.entries) w.self-inside-is in
          let left = ap (λ s. s.versions.entries) w.self-inside-is in
          same_maps _ _ _ _ (put ∙ ap (λ l. insert_entry uid_cmp l u.uid u) here) (put2 ∙ ap (λ l. insert_entry gvsn_cmp l u.gvsn u) left)
          (filed_new u files versions c.self.invariant c.get.ensures.rising new (found ∙ ap option_copied w.in_default.is))
    ]

pub returns : goal.returns
returns c =
    let u = c.args.update in
    let value = c.update.view_is in
    let uid = ap (λ (x : Update). x.uid) (c.deref.ensures ∙ value) in
    let files = c.self.inside.files.entries in
    let put = c.put.ensures.put ∙ (λ i. insert_entry uid_cmp c.match-get.self-inside.files.entries (uid i) (value i)) in
    let here = elim c.match-get.branch as (λ _. c.match-get.self-inside.files.entries ≡ files) [
      | in-Some w ↦ ap (λ s. s.files.entries) w.self-inside-is
      | in_default w ↦ ap (λ s. s.files.entries) w.self-inside-is
    ] in
    ap values_of (put ∙ ap (λ l. insert_entry uid_cmp l u.uid u) here) ∙ values_put u files c.self.invariant.by_file ∙ ap (put_record u) (ap (λ s. s.items) c.self.view_is)
