-- A drain ends: so many steps of the installer are done at a member, where nothing else happens between them.
use Rattle.std.proofs.Common.{◌≡◌, ◌⊎◌, ◌≤◌, ◌+◌, ◌*◌, ◌-◌, ℕ, true, false, cond, List, [], ◌∷◌, ◌++◌, length, refl, sym, ap, ◌∙◌, subst, arith, inl, inr, Option, Some, None, sum_by}
use Rattle.std.specs.Prelude.{count_by, map}
use Rattle.std.proofs.lemmas.List.Elements.{All-from_get_or}
use Rattle.std.proofs.lemmas.List.Sums.{sum_by-le, sum_by-le-sum_by}
use Rattle.frs_base.specs.Options.{In}
use Rattle.frs_base.specs.declared.sum.Sum.{Sum}
use Rattle.frs_base.specs.declared.version.Uid.{Uid}
use Rattle.win_order.specs.declared.update.Update.{Update}
use Rattle.vol_state.specs.declared.object.Object.{Object}
use Rattle.vol_state.specs.declared.record.VolRecord.{VolRecord}
use Rattle.vol_state.specs.declared.command.VolCmd.{VolCmd}
use Rattle.vol_state.specs.declared.command.VolCmd.TheVariants as cmd
use Rattle.vol_state.specs.State.{uid_of}
use Rattle.vol_state.specs.Effects.{at_place, stamp, with_bytes}
use Rattle.vol_state.specs.Maps.{Maps, write}
use Rattle.vol_state.specs.Tables.{IsAt}
use Rattle.record_db.specs.Records.{IsRecord}
use Rattle.record_db.proofs.Keys.{same_uid_refl}
use Rattle.record_db.proofs.Sets.{in_after, in_before}
use Rattle.name_rules.specs.Next.{IsDue}
use Rattle.name_rules.specs.declared.step.Step.{Step as InstallStep}
use Rattle.name_rules.specs.declared.step.Step.TheVariants as install_step
use Rattle.name_rules.proofs.Showing.{shown_record}
use Rattle.world_model.specs.World.{Member, World, IsRecordOf, with_member}
use Rattle.world_model.specs.Events.{Install, Step, consumed_by, consumes, operated, unstaged_at}
use Rattle.world_model.specs.Invariant.{Invariant}
use Rattle.world_model.specs.Laws.{AreDone, DrainsEnd, FilesAreListed, HasAll, IsDone, is_for}
use Rattle.world_model.proofs.Changing.{at_same}
use Rattle.world_model.proofs.Counting.{sum_more}
use Rattle.world_model.proofs.Deciding.{IsListed, records_listed}
use Rattle.world_model.proofs.Due.{passes, records_stay}
use Rattle.world_model.proofs.Facts.{at_case, none_some, some_is}
use Rattle.world_model.proofs.Next.{in_uids, is_below, uids_below}
use Rattle.world_model.proofs.Views.{at_most_four_done, counted, kept}
use Rattle.world_model.proofs.Writing.{changes_is, logs, loses_is, made_object, wrote}

-- ---- counting

-- how many of these steps are for the files of a list
abbrev for_files : List Uid → List InstallStep → ℕ
for_files uids steps = sum_by (λ uid. count_by (λ step. is_for step uid) steps) uids

no_fewer : (uids : List Uid) (step : InstallStep) (steps : List InstallStep) → for_files uids steps ≤ for_files uids (step ∷ steps)
no_fewer uids step steps = sum_by-le-sum_by (λ uid. count_by (λ other. is_for other uid) steps) (λ uid. count_by (λ other. is_for other uid) (step ∷ steps)) uids
    (λ uid. let c = counted step steps uid in omega (arith, c))

one_more : (uids : List Uid) (step : InstallStep) (steps : List InstallStep) (uid : Uid) → In uid uids → is_for step uid ≡ true → for_files uids steps + 1 ≤ for_files uids (step ∷ steps)
one_more uids step steps uid i e = sum_more (λ x. count_by (λ other. is_for other x) steps) (λ x. count_by (λ other. is_for other x) (step ∷ steps)) uids uid
    (λ x. let c = counted step steps x in omega (arith, c)) here i
  where
    here : count_by (λ other. is_for other uid) steps + 1 ≤ count_by (λ other. is_for other uid) (step ∷ steps)
    here = let c = subst (λ b. count_by (λ other. is_for other uid) (step ∷ steps) ≡ cond b 1 0 + count_by (λ other. is_for other uid) steps) e (counted step steps uid) in omega (arith, c)

-- at most four for each
four_each : (f : Uid → ℕ) (uids : List Uid) → ((uid : Uid) → f uid ≤ 4) → sum_by f uids ≤ length uids * 4
four_each f uids few = sum_by-le f 4 uids (All-from_get_or (λ uid. f uid ≤ 4) uids (record { db = 0; version = 0 }) (λ i l. few _))

-- ---- what is written

-- the objects of a volume are of the files of a list
abbrev AreOf : ℕ → Maps → List Uid → Type 0
AreOf own m uids = (f : ℕ) (o : Object) → IsAt m f o → In (uid_of own o) uids

-- one object of such a file is written or goes
record Writes (own : ℕ) (m : Maps) (uids : List Uid) (new : Maps) : Type 0 where
  fid : ℕ
  object : Option Object
  entry : VolRecord
  is : new ≡ wrote m fid object entry
  of : (o : Object) → object ≡ Some o → In (uid_of own o) uids

-- so they are of the files of the list still
still_of : (own : ℕ) (m : Maps) (uids : List Uid) (new : Maps) → AreOf own m uids → Writes own m uids new → AreOf own new uids
still_of own m uids new old w = subst (λ n. AreOf own n uids) (sym w.is)
    (λ f o at. at_case (In (uid_of own o) uids) m.at w.fid w.object f (Some o) at (λ i s. w.of o s) (λ n a. old f o a))

-- what the installer does is one such write
due_writes : (R : Update → Type 0) (own : ℕ) (m : Maps) (staged : Uid → Option Sum) (uids : List Uid) → ((u : Update) → R u → In u.uid uids) → AreOf own m uids → (op : VolCmd) → IsDue R own m staged op
    → Writes own m uids (write own op m)
due_writes R own m staged uids records objects op due = by op due
  where
    changed : (f : ℕ) (o y : Object) → IsAt m f o → uid_of own y ≡ uid_of own o → (z : Object) → Some y ≡ Some z → In (uid_of own z) uids
    changed f o y at same z s = subst (λ i. In i uids) (sym same ∙ ap (uid_of own) (some_is y z s)) (objects f o at)

    by : (op : VolCmd) → IsDue R own m staged op → Writes own m uids (write own op m)
    by (cmd.PutNew parent name bytes) due = absurd due
    by (cmd.PutOver f bytes) due = absurd due
    by (cmd.Mkdir parent name) due = absurd due
    by (cmd.Move f parent name) due = absurd due
    by (cmd.Remove f) due = absurd due
    by (cmd.Park f) (o, p, at, place, out) = record {
      fid = f;
      object = Some (stamp false m.next_usn (at_place None o));
      entry = logs m f (uid_of own o) 6 false;
      is = changes_is own 6 false f (at_place None) m o at;
      of = changed f o _ at refl;
    }
    by (cmd.Erase f) (o, u, at, r, id, absent) = record {
      fid = f;
      object = None;
      entry = logs m f (uid_of own o) 7 false;
      is = loses_is own 7 false f m o at;
      of = λ z s. absurd (none_some z s);
    }
    by (cmd.Make uid kind bytes) (u, shown, id, same, content) = record {
      fid = m.next_fid;
      object = Some (made_object m false None kind bytes (Some uid) 0);
      entry = logs m m.next_fid uid 8 false;
      is = refl;
      of = λ z s. subst (λ i. In i uids) (id ∙ ap (uid_of own) (some_is _ z s)) (records u (shown_record R u shown));
    }
    by (cmd.Rewrite f bytes) (o, u, at, r, id, is, differs, content, sum) = record {
      fid = f;
      object = Some (stamp false m.next_usn (with_bytes bytes o));
      entry = logs m f (uid_of own o) 9 false;
      is = changes_is own 9 false f (with_bytes bytes) m o at;
      of = changed f o _ at refl;
    }
    by (cmd.Place f parent name) (o, u, at, shown, id, up, named) = record {
      fid = f;
      object = Some (stamp false m.next_usn (at_place (Some (parent, name)) o));
      entry = logs m f (uid_of own o) 10 false;
      is = changes_is own 10 false f (at_place (Some (parent, name))) m o at;
      of = changed f o _ at refl;
    }

-- ---- a step

-- how many journal records a member hasn't consumed
abbrev left : World → ℕ → ℕ
left w d = (w.at d).volume.next_usn - (w.at d).consumed

-- a step passes over a journal record, or is for a file of the list and leaves one more at most; and the list stays whole
record Drains (w : World) (d : ℕ) (uids : List Uid) (step : InstallStep) (new : World) : Type 0 where
  all : HasAll new d uids
  takes : (left new d + 1 ≤ left w d) ⊎ ((uid : Uid) × In uid uids × (is_for step uid ≡ true) × (left new d ≤ left w d + 1))

-- what a changed member has it has in its world
has_at : (w : World) (d : ℕ) (y : Member) (uids : List Uid) → ((u : Update) → IsRecord w.all y.known u → In u.uid uids) → AreOf d y.volume uids → HasAll (with_member w d y) d uids
has_at w d y uids records objects = record {
  records = λ u r. records u (subst (λ (x : Member). IsRecord w.all x.known u) (at_same w.at d y) r);
  objects = λ f o at. objects f o (subst (λ (x : Member). IsAt x.volume f o) (at_same w.at d y) at);
}

-- an operation is done, for a file of the list
operates : (w : World) (d : ℕ) (uids : List Uid) → HasAll w d uids → (op : VolCmd) (step : InstallStep) (uid : Uid) (new : World) → In uid uids → is_for step uid ≡ true → Step w d (Install op) new → Drains w d uids step new
operates w d uids h op step uid new i e (quiet, due, ok, is) = subst (Drains w d uids step) (sym is) (record {
  all = has_at w d (operated d op (w.at d)) uids h.records (still_of d (w.at d).volume uids (write d op (w.at d).volume) h.objects writes);
  takes = inr (uid, i, e, subst (λ (x : Member). x.volume.next_usn - x.consumed ≤ left w d + 1) (sym (at_same w.at d (operated d op (w.at d)))) more);
})
  where
    writes : Writes d (w.at d).volume uids (write d op (w.at d).volume)
    writes = due_writes (IsRecordOf w d) d (w.at d).volume (w.at d).staged uids h.records h.objects op due

    more : (write d op (w.at d).volume).next_usn - (w.at d).consumed ≤ left w d + 1
    more = let n : (write d op (w.at d).volume).next_usn ≡ (w.at d).volume.next_usn + 1 = ap (λ (m : Maps). m.next_usn) writes.is in omega (arith, n)

-- a journal record is passed over
passes_over : (w : World) (d : ℕ) (uids : List Uid) → Invariant w → HasAll w d uids → (usn : ℕ) (r : VolRecord) → (w.at d).volume.entry (w.at d).consumed ≡ Some r → Drains w d uids (install_step.Skip usn) (consumes w d None)
passes_over w d uids h has usn r at = record {
  all = has_at (record w { all = w.all ++ [] }) d (consumed_by d None (w.at d)) uids (λ u q. has.records u ((records_stay w d h).back u q)) has.objects;
  takes = inl (subst (λ (x : Member). (x.volume.next_usn - x.consumed) + 1 ≤ left w d) (sym (at_same w.at d (consumed_by d None (w.at d)))) one);
}
  where
    one : ((w.at d).volume.next_usn - ((w.at d).consumed + 1)) + 1 ≤ left w d
    one = let low = (h.members d).numbers.entries (w.at d).consumed r at in omega (arith, low)

drains : (w : World) (d : ℕ) (uids : List Uid) → Invariant w → HasAll w d uids → (step : InstallStep) (new : World) → IsDone w d step new → Drains w d uids step new
drains w d uids h has (install_step.Park file) new (op, (f, o, at, is, op_is), step) = operates w d uids has op (install_step.Park file) file new (subst (λ i. In i uids) is (has.objects f o at)) (same_uid_refl file) step
drains w d uids h has (install_step.Erase file) new (op, (f, o, at, is, op_is), step) = operates w d uids has op (install_step.Erase file) file new (subst (λ i. In i uids) is (has.objects f o at)) (same_uid_refl file) step
drains w d uids h has (install_step.Make file) new (op, (u, bytes, r, is, op_is), step) = operates w d uids has op (install_step.Make file) file new (subst (λ i. In i uids) is (has.records u r)) (same_uid_refl file) step
drains w d uids h has (install_step.Rewrite file) new (op, (f, o, bytes, at, is, op_is), step) = operates w d uids has op (install_step.Rewrite file) file new (subst (λ i. In i uids) is (has.objects f o at)) (same_uid_refl file) step
drains w d uids h has (install_step.Place file) new (op, (f, o, u, parent, at, is, r, id, here, up, op_is), step) = operates w d uids has op (install_step.Place file) file new (subst (λ i. In i uids) is (has.objects f o at)) (same_uid_refl file) step
drains w d uids h has (install_step.Unstage file) new (f, o, at, is, staged, now) = subst (Drains w d uids (install_step.Unstage file)) (sym now) (record {
  all = has_at w d (unstaged_at file (w.at d)) uids has.records has.objects;
  takes = inr (file, subst (λ i. In i uids) is (has.objects f o at), same_uid_refl file, subst (λ (x : Member). x.volume.next_usn - x.consumed ≤ left w d + 1) (sym (at_same w.at d (unstaged_at file (w.at d)))) (omega arith));
})
drains w d uids h has (install_step.Skip usn) new (moment, is, quiet, (early, made, (r, held, at, is_held, made_is), now)) =
    subst (Drains w d uids (install_step.Skip usn)) (sym (now ∙ ap (consumes w d) (passes w d moment made quiet (r, held, at, is_held, made_is)))) (passes_over w d uids h has usn r at)

-- ---- the laws

-- each step for a file leaves one record at most, which one other step passes over
few_steps : (w : World) (d : ℕ) (uids : List Uid) → Invariant w → HasAll w d uids → (steps : List InstallStep) (new : World) → AreDone w d steps new → length steps ≤ 2 * for_files uids steps + left w d
few_steps w d uids h has [] new done = omega arith
few_steps w d uids h has (step ∷ steps) new (mid, done, more) = by now.takes (few_steps mid d uids (kept w d step mid h done) now.all steps new more)
  where
    now : Drains w d uids step mid
    now = drains w d uids h has step mid done

    by : (left mid d + 1 ≤ left w d) ⊎ ((uid : Uid) × In uid uids × (is_for step uid ≡ true) × (left mid d ≤ left w d + 1)) → length steps ≤ 2 * for_files uids steps + left mid d
        → length (step ∷ steps) ≤ 2 * for_files uids (step ∷ steps) + left w d
    by (inl less) rest = let sums = no_fewer uids step steps in omega (arith, less, rest, sums)
    by (inr (uid, i, e, most)) rest = let sums = one_more uids step steps uid i e in omega (arith, most, rest, sums)

pub drains_end : DrainsEnd
drains_end w h d uids has steps new done =
    let few = few_steps w d uids h has steps new done in
    let four = four_each (λ uid. count_by (λ step. is_for step uid) steps) uids (at_most_four_done w h d steps new done) in
    omega (arith, few, four)

pub files_are_listed : FilesAreListed
files_are_listed w h d = (
  of_objects ++ of_records,
  record {
    records = λ u r. in_after u.uid of_objects of_records (in_uids u l.list (l.to u r));
    objects = λ f o at. in_before (uid_of d o) of_objects of_records (is_below d m m.next_fid f o ((h.members d).numbers.fids f o at) at);
  },
)
  where
    m : Maps
    m = (w.at d).volume

    l : IsListed (IsRecordOf w d)
    l = records_listed w.all (w.at d).known h.versions.one_each

    of_objects : List Uid
    of_objects = uids_below d m m.next_fid

    of_records : List Uid
    of_records = map (λ u. u.uid) l.list
