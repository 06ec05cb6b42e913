-- An event that was in flight is still possible later, and what is adopted is fit.
use Rattle.std.proofs.Common.{◌≡◌, ◌⊎◌, ◌<◌, ℕ, Bool, true, false, refl, sym, ap, ◌∙◌, subst, inl, inr, Option, Some, None}
use Rattle.frs_base.specs.declared.version.Uid.{Uid}
use Rattle.win_order.specs.declared.update.Update.{Update}
use Rattle.win_order.specs.Order.{key_of}
use Rattle.vol_state.specs.declared.record.VolRecord.{VolRecord}
use Rattle.vol_state.specs.declared.command.VolCmd.{VolCmd}
use Rattle.vol_state.specs.declared.command.VolCmd.TheVariants as cmd
use Rattle.vol_state.specs.Tables.{IsAt, IsLocal, IsReplica}
use Rattle.record_db.specs.Records.{Covered, IsHeld, IsHeldOrBeaten, IsRecord, Versions}
use Rattle.record_db.proofs.Keys.{key_irrefl}
use Rattle.record_db.proofs.Best.{beats_all}
use Rattle.name_rules.specs.Recorded.{base_fence, recorded_of}
use Rattle.name_rules.specs.Next.{IsDue, IsPending, IsQuiet}
use Rattle.name_rules.proofs.Showing.{AreSame, same_back, shown_same}
use Rattle.world_model.specs.World.{Member, World}
use Rattle.world_model.specs.Events.{Event, IsOfFile, IsOfPage, Step, Local, Consume, SendVector, SendUpdate, Adopt, Finish, Install, Unstage, adopted_by, consumed_by, consumes, finished_by, operated, unstaged_at}
use Rattle.world_model.specs.Invariant.{VersionsAreMade}
use Rattle.world_model.specs.Runs.{CoversAlike, Grows}
use Rattle.world_model.specs.Laws.{AdoptionsAreFit}
use Rattle.world_model.proofs.Changing.{at_same}
use Rattle.world_model.proofs.Growth.{stays}
use Rattle.world_model.proofs.Puts.{record_stayed, record_stays}

-- ---- what holds of records holds later

pub records_same : (w later : World) (s : Versions) → CoversAlike w later s → AreSame (IsRecord w.all s) (IsRecord later.all s)
records_same w later s k = record { to = record_stays w later s k; back = record_stayed w later s k }

-- the record of a file, or none
pub held_later : (w later : World) (s : Versions) (uid : Uid) (held : Option Update) → CoversAlike w later s → IsHeld (Covered w.all s) uid held → IsHeld (Covered later.all s) uid held
held_later w later s uid None k h = λ v c. h v (k.only v c)
held_later w later s uid (Some r) k h = (record_stays w later s k r h.0, h.1)

-- what the installer may do
due_later : (R S : Update → Type 0) (own : ℕ) (x : Member) (op : VolCmd) → AreSame R S → IsDue R own x.volume x.staged op → IsDue S own x.volume x.staged op
due_later R S own x (cmd.Park fid) same (o, p, at, place, out) = (o, p, at, place, λ k. out (k.0, shown_same (same_back same) k.0 k.1, k.2, k.3, k.4))
due_later R S own x (cmd.Erase fid) same (o, u, at, r, a, b) = (o, u, at, same.to u r, a, b)
due_later R S own x (cmd.Make uid kind bytes) same (u, h, a, b, c) = (u, shown_same same u h, a, b, c)
due_later R S own x (cmd.Rewrite fid bytes) same (o, u, at, r, a, b, c, d, e) = (o, u, at, same.to u r, a, b, c, d, e)
due_later R S own x (cmd.Place fid parent name) same (o, u, at, h, a, b, c) = (o, u, at, shown_same same u h, a, b, c)
due_later R S own x (cmd.PutNew parent name bytes) same h = absurd h
due_later R S own x (cmd.PutOver fid bytes) same h = absurd h
due_later R S own x (cmd.Mkdir parent name) same h = absurd h
due_later R S own x (cmd.Move fid parent name) same h = absurd h
due_later R S own x (cmd.Remove fid) same h = absurd h

-- ---- flights

-- other members went on meanwhile; the event does to its member what it would have done
pub flights_land : (w later : World) (d : ℕ) (e : Event) (new : World) → VersionsAreMade w → Grows w later → w.at d ≡ later.at d → Step w d e new
    → (landed : World) × Step later d e landed × (landed.at d ≡ new.at d)
flights_land w later d (Local op) new h g same (ok, is) =
    (_, (subst (λ (x : Member). IsLocal x.volume op) same ok, refl), at_same later.at d _ ∙ (ap (operated d op) (sym same) ∙ (sym (at_same w.at d _) ∙ ap (λ (z : World). z.at d) (sym is))))
flights_land w later d (Consume moment) new h g same (early, made, (r, held, at, is_held, made_is), is) =
    let k = stays w later (w.at d).known (h.known d) g in (
      consumes later d made,
      (
        early,
        made,
        subst (λ (x : Member). (r : VolRecord) × (held : Option Update) × (x.volume.entry x.consumed ≡ Some r) × IsHeld (Covered later.all x.known) r.uid held
            × (made ≡ recorded_of d x.volume (base_fence x.phase x.kind) x.consumed moment r held)) same
            (r, held, at, held_later w later (w.at d).known r.uid held k is_held, made_is),
        refl,
      ),
      at_same later.at d _ ∙ (ap (consumed_by d made) (sym same) ∙ (sym (at_same w.at d _) ∙ ap (λ (z : World). z.at d) (sym is))),
    )
flights_land w later d SendVector new h g same is = (_, refl, sym same ∙ ap (λ (z : World). z.at d) (sym is))
flights_land w later d (SendUpdate u) new h g same (ok, is) = (_, (sendable ok, refl), sym same ∙ ap (λ (z : World). z.at d) (sym is))
  where
    sendable : IsOfPage w d u ⊎ IsOfFile w d u → IsOfPage later d u ⊎ IsOfFile later d u
    sendable (inl (s, a, r)) = inl (s, g.vectors _ a, record_stays w later s (stays w later s (λ v t. h.sent _ v a t) g) u r)
    sendable (inr (r, n)) = inr (subst (λ (x : Member). IsRecord later.all x.known u × (IsPending x.consumed x.volume u.uid → ⊥)) same
        (record_stays w later (w.at d).known (stays w later (w.at d).known (h.known d) g) u r, n))
flights_land w later d (Adopt u) new h g same ((from, sent), (held, is_held, better), is) =
    let k = stays w later (w.at d).known (h.known d) g in (
      _,
      ((from, g.updates _ sent), (held, subst (λ (x : Member). IsHeld (Covered later.all x.known) u.uid held) same (held_later w later (w.at d).known u.uid held k is_held), better), refl),
      at_same later.at d _ ∙ (ap (adopted_by u) (sym same) ∙ (sym (at_same w.at d _) ∙ ap (λ (z : World). z.at d) (sym is))),
    )
flights_land w later d (Finish s) new h g same ((from, sent), held, is) =
    let k = stays w later (w.at d).known (h.known d) g in
    let ks = stays w later s (λ v t. h.sent _ v sent t) g in (
      _,
      (
        (from, g.vectors _ sent),
        (λ u r. subst (λ (x : Member). IsHeldOrBeaten (IsRecord later.all x.known) u) same
            (let (q, b, c, e) = held u (record_stayed w later s ks u r) in (q, record_stays w later (w.at d).known k q b, c, e))),
        refl,
      ),
      at_same later.at d _ ∙ (ap (finished_by s) (sym same) ∙ (sym (at_same w.at d _) ∙ ap (λ (z : World). z.at d) (sym is))),
    )
flights_land w later d (Install op) new h g same (quiet, due, ok, is) =
    let k = records_same w later (w.at d).known (stays w later (w.at d).known (h.known d) g) in (
      _,
      (
        subst (λ (x : Member). IsQuiet x.consumed x.volume) same quiet,
        subst (λ (x : Member). IsDue (IsRecord later.all x.known) d x.volume x.staged op) same (due_later _ _ d (w.at d) op k due),
        subst (λ (x : Member). IsReplica d x.volume op) same ok,
        refl,
      ),
      at_same later.at d _ ∙ (ap (operated d op) (sym same) ∙ (sym (at_same w.at d _) ∙ ap (λ (z : World). z.at d) (sym is))),
    )
flights_land w later d (Unstage uid) new h g same (f, o, at, file, staged, is) = (
  _,
  (f, o, subst (λ (x : Member). IsAt x.volume f o) same at, file, subst (λ (x : Member). x.staged uid ≡ Some o.sum) same staged, refl),
  at_same later.at d _ ∙ (ap (unstaged_at uid) (sym same) ∙ (sym (at_same w.at d _) ∙ ap (λ (z : World). z.at d) (sym is))),
)

-- ---- adoptions

pub adoptions_fit : AdoptionsAreFit
adoptions_fit w d u new h ((from, sent), (held, is_held, better), is) =
    let c = h.sent.updates _ sent in record {
      new = by ((w.at d).known u.gvsn) refl;
      version_ahead = λ e. subst (λ (i : ℕ). u.gvsn.version < (w.at i).consumed) e (h.versions.recorded u c.0).1;
      file_ahead = λ e. subst (λ (i : ℕ). u.uid.version < (w.at i).consumed) e (h.files.made u c.0);
      kinds = λ v r s. h.files.kinds v u r.among.0 c.0 s;
      object_kind = λ f o at s. sym ((h.members d).objects.kinds f o u at c.0 (sym s));
    }
  where
    by : (b : Bool) → (w.at d).known u.gvsn ≡ b → b ≡ false
    by false e = refl
    by true e = absurd (key_irrefl (key_of u) (beats_all (Covered w.all (w.at d).known) u held is_held better u ((h.sent.updates _ sent).0, e) refl))
