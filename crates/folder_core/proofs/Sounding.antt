-- A machine stays sound, whatever its partners send.
use Rattle.std.proofs.Common.{◌≡◌, ◌<◌, ◌≤◌, ◌-◌, ◌^◌, ℕ, true, List, Option, Some, None, refl, sym, ◌∙◌, ap, subst, inl, inr, arith}
use Rattle.std.specs.Prelude.{if◌then◌else◌, option_map}
use Rattle.frs_base.specs.Identifiers.{content_set}
use Rattle.frs_base.specs.Options.{In}
use Rattle.frs_base.specs.declared.kind.MemberKind.{MemberKind}
use Rattle.frs_base.specs.declared.version.Gvsn.{Gvsn}
use Rattle.frs_base.specs.declared.version.Uid.{Uid}
use Rattle.version_vector.specs.Versions.{covers}
use Rattle.version_vector.specs.declared.interval.Interval.{Interval}
use Rattle.win_order.specs.declared.update.Update.{Update}
use Rattle.vol_state.specs.declared.command.VolCmd.{VolCmd}
use Rattle.vol_state.specs.declared.command.VolCmd.TheVariants as vol
use Rattle.vol_state.specs.declared.object.Object.{Object}
use Rattle.vol_state.specs.Conditions.{is_allowed, step}
use Rattle.vol_state.specs.Effects.{effect}
use Rattle.vol_state.specs.Journal.{IsNumbered}
use Rattle.vol_state.specs.Laws.{AreFree, IsInTime, KeepsNumbering, LeavesNumbersFree}
use Rattle.vol_state.specs.Maps.{StandsOn, maps_of}
use Rattle.vol_state.specs.State.{uid_of}
use Rattle.vol_state.specs.Tables.{IsAt}
use Rattle.vol_state.specs.Valid.{IsVolume}
use Rattle.vol_state.specs.Seen.{fresh_state}
use Rattle.record_db.specs.declared.command.BookCmd.{BookCmd}
use Rattle.record_db.specs.declared.command.BookCmd.TheVariants as cmd
use Rattle.record_db.specs.State.{BookState, IsBook, fresh_book}
use Rattle.record_db.specs.Steps.{Changes, consumed_after}
use Rattle.world_model.specs.Folder.{IsFit}
use Rattle.name_rules.specs.Next.{IsDue}
use Rattle.name_rules.specs.Tree.{is_file}
use Rattle.name_rules.proofs.Showing.{shown_record}
use Rattle.world_model.proofs.Folder.{folders_begin}
use Rattle.folder_core.specs.Machine.{Machine, fresh_machine}
use Rattle.folder_core.specs.Consume.{made_at}
use Rattle.folder_core.specs.Install.{MayOperate}
use Rattle.folder_core.specs.Sound.{IsInOrder, IsSound, MayBeStaged, member_of, staged_sums}
use Rattle.folder_core.specs.Notes.{form_sum}
use Rattle.folder_core.proofs.Staging.{forms_made, forms_stay, forms_with, nothing_staged}
use Rattle.folder_core.proofs.Volumes.{free_fresh, has_all, in_time, one_fid, one_usn, same_own, step_is}
use Rattle.folder_core.proofs.Bounds.{HasClock, bounds_adopted, bounds_finished, bounds_recorded, bounds_unstaged}
use Rattle.folder_core.proofs.Agreeing.{agrees_adopted, agrees_finished, agrees_operated, agrees_recorded, agrees_unstaged}

-- what is known of volumes
pub record VolumeLaws : Type 0 where
  pub on : StandsOn
  pub numbering : KeepsNumbering
  pub free : LeavesNumbersFree

-- a machine that has done nothing is sound
pub fresh_is_sound : (kind : MemberKind) (own set : ℕ) → set ≡ content_set → IsVolume (fresh_state own) → IsBook (fresh_book kind own set) → IsSound (fresh_machine kind own set)
fresh_is_sound kind own set same volume book = record {
  order = record {
    own = refl;
    volume = volume;
    numbered = record { run = tt; next = refl };
    free = free_fresh own;
    fids = omega arith;
    book = book;
    consumed = omega arith;
  };
  bounds = record {
    begun = omega arith;
    clocks = tt;
  };
  forms = λ uid form e. absurd (none_some form e);
  set = same;
  agrees = folders_begin own kind;
}
  where
    none_some : {T : Type 0} (x : T) → None ≡ Some x → ⊥
    none_some x e = cc

-- ---- an operation on the volume

-- its command is done, and has its effect
pub does_effect : (m : Machine) (op : VolCmd) → IsSound m → m.volume.next_usn < 2 ^ 64 - 1 → is_allowed op m.volume ≡ true → step op m.volume ≡ effect op m.volume
does_effect m op h numbers allowed = step_is op m.volume (has_all op m.volume h.order.free h.order.fids numbers) allowed

-- no operation that may be done makes an object of a UID to be born
born_in_time : (m : Machine) (op : VolCmd) → IsSound m → MayOperate m op → IsInTime op m.volume
born_in_time m op h (inl local) = in_time op m.volume (maps_of m.volume) local
born_in_time m op h (inr may) = by op may.due
  where
    by : (op : VolCmd) → IsDue (λ u. In u m.book.records) m.book.own (maps_of m.volume) (staged_sums m.book) op → IsInTime op m.volume
    by (vol.PutNew parent name bytes) due = tt
    by (vol.PutOver fid bytes) due = tt
    by (vol.Mkdir parent name) due = tt
    by (vol.Move fid parent name) due = tt
    by (vol.Remove fid) due = tt
    by (vol.Park fid) due = tt
    by (vol.Erase fid) due = tt
    by (vol.Make uid kind bytes) (u, shown, id, kind_is, rest) = λ own.
        let made : uid.version < m.book.consumed = subst (λ i. i.version < m.book.consumed) id (h.agrees.made u (shown_record (λ v. In v m.book.records) u shown) (ap (λ i. i.db) id ∙ (own ∙ h.order.own))) in
        let low = h.order.consumed in
        omega (arith, made, low)
    by (vol.Rewrite fid bytes) due = tt
    by (vol.Place fid parent name) due = tt

-- an operation that may be done keeps a machine sound
pub operated_sound : VolumeLaws → (m : Machine) (op : VolCmd) → IsSound m → m.volume.next_usn < 2 ^ 64 - 1 → is_allowed op m.volume ≡ true → MayOperate m op
    → IsVolume (effect op m.volume) → IsSound (record m { volume = effect op m.volume })
operated_sound laws m op h numbers allowed may volume = record {
  order = record {
    own = same_own op m.volume ∙ h.order.own;
    volume = volume;
    numbered = subst IsNumbered (does_effect m op h numbers allowed) (laws.numbering op m.volume h.order.numbered);
    free = subst AreFree (does_effect m op h numbers allowed) (laws.free op m.volume h.order.free (born_in_time m op h may));
    fids = let fid = one_fid op m.volume in let usn = one_usn op m.volume in let low = h.order.fids in omega (arith, fid, usn, low);
    book = h.order.book;
    consumed = let usn = one_usn op m.volume in let low = h.order.consumed in omega (arith, usn, low);
  };
  bounds = h.bounds;
  forms = h.forms;
  set = h.set;
  agrees = agrees_operated laws.on m op h.order allowed may h.agrees;
}

-- ---- the book

order_after : (m : Machine) (op : BookCmd) (new : BookState) → IsInOrder m → consumed_after op m.book.consumed ≤ m.volume.next_usn → IsBook new → Changes op m.book new → IsInOrder (record m { book = new })
order_after m op new h within book c = record {
  own = h.own ∙ sym c.own;
  volume = h.volume;
  numbered = h.numbered;
  free = h.free;
  fids = h.fids;
  book = book;
  consumed = subst (λ n. n ≤ m.volume.next_usn) (sym c.consumed) within;
}

-- consuming the next journal record does
pub recorded_sound : (m : Machine) (moment : ℕ) (made : Option Update) (new : BookState) → IsSound m → made ≡ made_at m moment → HasClock made → m.book.consumed < m.volume.next_usn
    → IsBook new → Changes (cmd.RecordLocal m.book.consumed made) m.book new → IsSound (record m { book = new })
recorded_sound m moment made new h is has left book c = record {
  order = order_after m (cmd.RecordLocal m.book.consumed made) new h.order (omega (arith, left)) book c;
  bounds = bounds_recorded m.book new made h.bounds has c;
  forms = forms_made m.book new made c.staged h.forms;
  set = c.set ∙ h.set;
  agrees = agrees_recorded m moment made new h.order h.set is h.bounds.begun left c h.agrees;
}

-- what is staged of an update: the form with its hash of a present file, which is one of a local file, and nothing of all else
pub record IsStagedOf (u : Update) (form : Option (List ℕ)) : Type 0 where
  pub sum : option_map form_sum form ≡ (if is_file u then Some u.hash else None)
  pub local : MayBeStaged form

-- taking a fit update does
pub adopted_sound : (m : Machine) (u : Update) (form : Option (List ℕ)) (new : BookState) → IsSound m → u.set ≡ m.book.set → u.clock < 2 ^ 62
    → IsFit m.book.own (member_of m) m.book.records u → IsStagedOf u form
    → IsBook new → Changes (cmd.Adopt u form) m.book new → IsSound (record m { book = new })
adopted_sound m u form new h set clock fit staged book c = record {
  order = order_after m (cmd.Adopt u form) new h.order h.order.consumed book c;
  bounds = bounds_adopted m.book new u form h.bounds clock c;
  forms = forms_with m.book new u.uid form c.staged staged.local h.forms;
  set = c.set ∙ h.set;
  agrees = agrees_adopted m u form new set fit staged.sum c h.agrees;
}

-- finishing a round over a fit vector does
pub finished_sound : (m : Machine) (sent : List Interval) (new : BookState) → IsSound m → ((g : Gvsn) → covers sent g ≡ true → g.db ≡ m.book.own → g.version < m.book.consumed)
    → IsBook new → Changes (cmd.Finish sent) m.book new → IsSound (record m { book = new })
finished_sound m sent new h fit book c = record {
  order = order_after m (cmd.Finish sent) new h.order h.order.consumed book c;
  bounds = bounds_finished m.book new sent h.bounds c;
  forms = forms_stay m.book new c.staged h.forms;
  set = c.set ∙ h.set;
  agrees = agrees_finished m sent new fit c h.agrees;
}

-- so does a staged form that goes
pub unstaged_sound : (m : Machine) (uid : Uid) (fid : ℕ) (o : Object) (new : BookState) → IsSound m → IsAt (maps_of m.volume) fid o → uid_of m.book.own o ≡ uid → staged_sums m.book uid ≡ Some o.sum
    → IsBook new → Changes (cmd.Unstage uid) m.book new → IsSound (record m { book = new })
unstaged_sound m uid fid o new h at is staged book c = record {
  order = order_after m (cmd.Unstage uid) new h.order h.order.consumed book c;
  bounds = bounds_unstaged m.book new uid h.bounds c;
  forms = forms_with m.book new uid None c.staged nothing_staged h.forms;
  set = c.set ∙ h.set;
  agrees = agrees_unstaged m uid fid o new at is staged c h.agrees;
}
