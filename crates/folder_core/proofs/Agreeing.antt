-- The volume and the records go on to agree.
use Rattle.std.proofs.Common.{◌≡◌, ◌≢◌, ◌<◌, ◌≤◌, ℕ, true, List, Option, Some, None, refl, sym, ap, ◌∙◌, subst, inl, inr}
use Rattle.std.specs.Prelude.{MatchOption, if◌then◌else◌, option_map}
use Rattle.frs_base.specs.Identifiers.{content_set}
use Rattle.frs_base.specs.Options.{In}
use Rattle.version_vector.specs.Versions.{covers}
use Rattle.version_vector.specs.declared.interval.Interval.{Interval}
use Rattle.win_order.specs.declared.update.Update.{Update}
use Rattle.frs_base.specs.declared.version.Uid.{Uid}
use Rattle.vol_state.specs.declared.command.VolCmd.{VolCmd}
use Rattle.vol_state.specs.declared.object.Object.{Object}
use Rattle.vol_state.specs.declared.record.VolRecord.{VolRecord}
use Rattle.vol_state.specs.Conditions.{is_allowed}
use Rattle.vol_state.specs.Effects.{effect}
use Rattle.vol_state.specs.Journal.{record_at}
use Rattle.vol_state.specs.Maps.{StandsOn, maps_of, write}
use Rattle.vol_state.specs.State.{uid_of}
use Rattle.vol_state.specs.Tables.{IsAt}
use Rattle.record_db.specs.declared.command.BookCmd.TheVariants as cmd
use Rattle.record_db.specs.Lists.{put_any, put_record}
use Rattle.record_db.specs.Staged.{with_uid}
use Rattle.record_db.specs.State.{BookState, IsBook}
use Rattle.record_db.specs.Steps.{Changes, in_set}
use Rattle.name_rules.specs.Recorded.{base_fence, held_of, is_deletion, made_of, recorded_of}
use Rattle.name_rules.specs.Tree.{is_file}
use Rattle.name_rules.proofs.Cases.{made_by}
use Rattle.world_model.specs.Events.{adopted_by, consumed_by, finished_by, operated, unstaged_at}
use Rattle.world_model.specs.Folder.{FolderIsSound, IsFit, IsFitVector}
use Rattle.world_model.specs.World.{Member}
use Rattle.world_model.proofs.Folder.{folders_stay}
use Rattle.folder_core.specs.Machine.{Machine}
use Rattle.folder_core.specs.Consume.{made_at}
use Rattle.folder_core.specs.Install.{MayOperate}
use Rattle.folder_core.specs.Notes.{form_sum}
use Rattle.folder_core.specs.Sound.{Agrees, IsInOrder, member_of, staged_sums}
use Rattle.folder_core.proofs.Alike.{covers_are, maps_are, stands_for_maps}
use Rattle.folder_core.proofs.Held.{each_of, held_is, in_own_set, record_there}
use Rattle.folder_core.proofs.Staging.{sums_made, sums_stay, sums_with}

-- the same, of what is equal
moved : (own own' : ℕ) (x x' : Member) (records records' : List Update) → own ≡ own' → x ≡ x' → records ≡ records' → FolderIsSound own x records → FolderIsSound own' x' records'
moved own own' x x' records records' p q r h = subst (λ l. FolderIsSound own' x' l) r (subst (λ y. FolderIsSound own' y records) q (subst (λ o. FolderIsSound o x records) p h))

-- an operation on the volume is done
pub agrees_operated : StandsOn → (m : Machine) (op : VolCmd) → IsInOrder m → is_allowed op m.volume ≡ true → MayOperate m op → Agrees m → Agrees (record m { volume = effect op m.volume })
agrees_operated on m op order allowed may h = subst (λ x. FolderIsSound m.book.own x m.book.records) path (after may)
  where
    after : MayOperate m op → FolderIsSound m.book.own (operated m.book.own op (member_of m)) m.book.records
    after (inl local) = (folders_stay m.book.own (member_of m) m.book.records h).local op local
    after (inr i) = (folders_stay m.book.own (member_of m) m.book.records h).install op i.quiet i.due i.replica

    maps : write m.volume.own op (maps_of m.volume) ≡ maps_of (effect op m.volume)
    maps = maps_are (effect op m.volume) (write m.volume.own op (maps_of m.volume)) (on op m.volume (maps_of m.volume) order.volume order.free allowed (stands_for_maps m.volume))

    path : operated m.book.own op (member_of m) ≡ member_of (record m { volume = effect op m.volume })
    path = let is = ap (λ own. write own op (maps_of m.volume)) (sym order.own) ∙ maps in λ i. record (member_of m) { volume = is i }

-- ---- a journal record

-- what is made is of the content set
made_set : (m : Machine) (moment : ℕ) (r : VolRecord) (u : Update) → IsBook m.book → m.book.set ≡ content_set
    → Some u ≡ recorded_of m.volume.own (maps_of m.volume) (base_fence m.book.phase m.book.kind) m.book.consumed moment r (held_of m.book.records r.uid) → u.set ≡ m.book.set
made_set m moment r u book set is =
    elim (made_by m.volume.own (maps_of m.volume) (base_fence m.book.phase m.book.kind) m.book.consumed moment r.local (is_deletion r) (held_of m.book.records r.uid) ((maps_of m.volume).at r.fid) u is).1 [
      | inl d ↦
          let found = subst (λ o. of_set o) d.was (all_set (held_of m.book.records r.uid) (held_is m.book.records r.uid)) in
          ap (λ z. z.set) d.is ∙ found
      | inr c ↦ ap (λ z. z.set) c.is ∙ sym set
    ]
  where
    of_set : Option Update → Type 0
    of_set held = MatchOption held (Unit {0}) (λ v. v.set ≡ m.book.set)

    all_set : (held : Option Update) → MatchOption held ((v : Update) → In v m.book.records → v.uid ≢ r.uid) (λ v. In v m.book.records × (v.uid ≡ r.uid))
        → MatchOption held (Unit {0}) (λ v. v.set ≡ m.book.set)
    all_set None never = tt
    all_set (Some v) found = each_of (λ z. z.set ≡ m.book.set) m.book.records v book.set found.0

same_made : (set : ℕ) (made : Option Update) → ((u : Update) → Some u ≡ made → u.set ≡ set) → option_map (in_set set) made ≡ made
same_made set None same = refl
same_made set (Some u) same = ap (λ z. Some z) (in_own_set set u (same u refl))

-- the next journal record is consumed
pub agrees_recorded : (m : Machine) (moment : ℕ) (made : Option Update) (new : BookState) → IsInOrder m → m.book.set ≡ content_set → made ≡ made_at m moment
    → 9 ≤ m.book.consumed → m.book.consumed < m.volume.next_usn → Changes (cmd.RecordLocal m.book.consumed made) m.book new → Agrees m → Agrees (record m { book = new })
agrees_recorded m moment made new order set is begun left c h = by (record_there m.volume m.book.consumed order.numbered begun left)
  where
    by : (r : VolRecord) × (record_at m.volume.journal m.book.consumed ≡ Some r) → Agrees (record m { book = new })
    by (r, there) =
        let made_is : made ≡ recorded_of m.volume.own (maps_of m.volume) (base_fence m.book.phase m.book.kind) m.book.consumed moment r (held_of m.book.records r.uid) =
        is ∙ ap (λ found. made_of found (λ s. recorded_of m.volume.own (maps_of m.volume) (base_fence m.book.phase m.book.kind) m.book.consumed moment s (held_of m.book.records s.uid))) there in
        let made_by_own : made ≡ recorded_of m.book.own (maps_of m.volume) (base_fence m.book.phase m.book.kind) m.book.consumed moment r (held_of m.book.records r.uid) =
        made_is ∙ ap (λ own. recorded_of own (maps_of m.volume) (base_fence m.book.phase m.book.kind) m.book.consumed moment r (held_of m.book.records r.uid)) order.own in
        let after : FolderIsSound m.book.own (consumed_by m.book.own made (member_of m)) (put_any made m.book.records) =
        (folders_stay m.book.own (member_of m) m.book.records h).consume moment r (held_of m.book.records r.uid) made there (held_is m.book.records r.uid) made_by_own in
        let known = covers_are new.vector _ c.vector in
        let staged = sums_made m.book new made c.staged in
        let path : consumed_by m.book.own made (member_of m) ≡ member_of (record m { book = new }) =
        (λ i. record (consumed_by m.book.own made (member_of m)) { known = sym known i; consumed = sym c.consumed i; kind = sym c.kind i; phase = sym c.phase i; staged = sym staged i }) in
        let records : put_any made m.book.records ≡ new.records =
        ap (λ o. put_any o m.book.records) (sym (same_made m.book.set made (λ u e. made_set m moment r u order.book set (e ∙ made_is)))) ∙ sym c.records in
        moved _ _ _ _ _ _ (sym c.own) path records after

-- ---- a partner's update and vector

-- an update is taken, with what is staged of it: the form with its hash of a present file, and nothing of all else
pub agrees_adopted : (m : Machine) (u : Update) (form : Option (List ℕ)) (new : BookState) → u.set ≡ m.book.set → IsFit m.book.own (member_of m) m.book.records u
    → option_map form_sum form ≡ (if is_file u then Some u.hash else None) → Changes (cmd.Adopt u form) m.book new → Agrees m → Agrees (record m { book = new })
agrees_adopted m u form new set fit sum c h =
    let after : FolderIsSound m.book.own (adopted_by u (member_of m)) (put_record u m.book.records) = (folders_stay m.book.own (member_of m) m.book.records h).adopt u fit in
    let known = covers_are new.vector _ c.vector in
    let staged = sums_with m.book new u.uid form c.staged ∙ ap (λ s. with_uid (staged_sums m.book) u.uid s) sum in
    let path : adopted_by u (member_of m) ≡ member_of (record m { book = new }) =
    (λ i. record (adopted_by u (member_of m)) { known = sym known i; consumed = sym c.consumed i; kind = sym c.kind i; phase = sym c.phase i; staged = sym staged i }) in
    let records : put_record u m.book.records ≡ new.records = ap (λ v. put_record v m.book.records) (sym (in_own_set m.book.set u set)) ∙ sym c.records in
    moved _ _ _ _ _ _ (sym c.own) path records after

-- a round is finished
pub agrees_finished : (m : Machine) (sent : List Interval) (new : BookState) → IsFitVector m.book.own (member_of m) (covers sent) → Changes (cmd.Finish sent) m.book new → Agrees m
    → Agrees (record m { book = new })
agrees_finished m sent new fit c h =
    let after : FolderIsSound m.book.own (finished_by (covers sent) (member_of m)) m.book.records = (folders_stay m.book.own (member_of m) m.book.records h).finish (covers sent) fit in
    let known = covers_are new.vector _ c.vector in
    let staged = sums_stay m.book new c.staged in
    let path : finished_by (covers sent) (member_of m) ≡ member_of (record m { book = new }) =
    (λ i. record (finished_by (covers sent) (member_of m)) { known = sym known i; consumed = sym c.consumed i; kind = sym c.kind i; phase = sym c.phase i; staged = sym staged i }) in
    moved _ _ _ _ _ _ (sym c.own) path (sym c.records) after

-- ---- the installer

-- a staged form goes
pub agrees_unstaged : (m : Machine) (uid : Uid) (fid : ℕ) (o : Object) (new : BookState) → IsAt (maps_of m.volume) fid o → uid_of m.book.own o ≡ uid → staged_sums m.book uid ≡ Some o.sum
    → Changes (cmd.Unstage uid) m.book new → Agrees m → Agrees (record m { book = new })
agrees_unstaged m uid fid o new at is staged c h =
    let after : FolderIsSound m.book.own (unstaged_at uid (member_of m)) m.book.records = (folders_stay m.book.own (member_of m) m.book.records h).unstage uid fid o at is staged in
    let known = covers_are new.vector _ c.vector in
    let sums = sums_with m.book new uid None c.staged in
    let path : unstaged_at uid (member_of m) ≡ member_of (record m { book = new }) =
    (λ i. record (unstaged_at uid (member_of m)) { known = sym known i; consumed = sym c.consumed i; kind = sym c.kind i; phase = sym c.phase i; staged = sym sums i }) in
    moved _ _ _ _ _ _ (sym c.own) path (sym c.records) after
