-- What lives keep.
use Rattle.std.proofs.Common.{◌≡◌, ◌≢◌, ℕ, [], ◌∷◌, refl, sym, ap, ◌∙◌, subst, inl, inr, Option, Some, None}
use Rattle.std.specs.Prelude.{MatchOption}
use Rattle.vol_state.specs.Maps.{with_at}
use Rattle.world_model.specs.World.{Member, World}
use Rattle.world_model.specs.Events.{Event, Step, Local, Consume, SendVector, SendUpdate, Adopt, Finish, Install, Unstage}
use Rattle.world_model.specs.Invariant.{Invariant}
use Rattle.world_model.specs.Runs.{Grows}
use Rattle.world_model.specs.Lives.{Act, FlightsAreKept, Happens, IsInFlight, Life, Lives, Does, Restarts, Stops}
use Rattle.world_model.specs.Laws.{EventsKeepTheInvariant, FirstLivesAreKept, FlightsCanLand, LivesAreSound, MembersStopAndStart}
use Rattle.world_model.proofs.Changing.{at_other}
use Rattle.world_model.proofs.Facts.{at_case, none_some, some_is}
use Rattle.world_model.proofs.Flight.{flights_land}
use Rattle.world_model.proofs.Growth.{grows_refl, grows_trans, step_grows}

-- an event leaves the other members
pub step_beside : (w : World) (d : ℕ) (e : Event) (new : World) → Step w d e new → (j : ℕ) → j ≢ d → w.at j ≡ new.at j
step_beside w d (Local op) new s j n = sym (at_other w.at d _ j n) ∙ ap (λ (z : World). z.at j) (sym s.1)
step_beside w d (Consume moment) new s j n = sym (at_other w.at d _ j n) ∙ ap (λ (z : World). z.at j) (sym s.3)
step_beside w d SendVector new s j n = ap (λ (z : World). z.at j) (sym s)
step_beside w d (SendUpdate u) new s j n = ap (λ (z : World). z.at j) (sym s.1)
step_beside w d (Adopt u) new s j n = sym (at_other w.at d _ j n) ∙ ap (λ (z : World). z.at j) (sym s.2)
step_beside w d (Finish v) new s j n = sym (at_other w.at d _ j n) ∙ ap (λ (z : World). z.at j) (sym s.2)
step_beside w d (Install op) new s j n = sym (at_other w.at d _ j n) ∙ ap (λ (z : World). z.at j) (sym s.3)
step_beside w d (Unstage uid) new s j n = sym (at_other w.at d _ j n) ∙ ap (λ (z : World). z.at j) (sym s.5)

-- what a life has that keeps all three from another on
abbrev Kept : Life → Life → Type 0
Kept l new = Invariant new.world × Grows l.world new.world × FlightsAreKept new

-- ---- where every event keeps the invariant

happens_kept : EventsKeepTheInvariant → (l : Life) (d : ℕ) (e : Event) (new : Life) → Invariant l.world → FlightsAreKept l → Happens l d e None new → Kept l new
happens_kept keeps l d e new h k (w, s, is) = subst (Kept l) (sym is) (
  keeps l.world d e w h s,
  step_grows l.world d e w s,
  λ j f c. at_case ((after : Member) × IsInFlight (record { world = w; down = with_at l.down d None }) j f after) l.down d None j (Some (Some f)) c
      (λ i q. absurd (none_some (Some f) q))
      (λ n q. let (after, o) = k j f q in (
        after,
        record {
          before = o.before;
          changed = o.changed;
          made = o.made;
          step = o.step;
          grown = grows_trans o.before l.world w o.grown (step_grows l.world d e w s);
          same = o.same ∙ step_beside l.world d e w s j n;
          is = o.is;
        },
      )),
)

moved : (l : Life) (down : ℕ → Option (Option Event)) (j : ℕ) (f : Event) (after : Member) → IsInFlight l j f after → IsInFlight (record l { down = down }) j f after
moved l down j f after o = record { before = o.before; changed = o.changed; made = o.made; step = o.step; grown = o.grown; same = o.same; is = o.is }

act_kept : EventsKeepTheInvariant → (l : Life) (d : ℕ) (a : Act) (new : Life) → Invariant l.world → FlightsAreKept l → Lives l d a new → Kept l new
act_kept keeps l d (Does e) new h k (up, s) = happens_kept keeps l d e new h k s
act_kept keeps l d (Restarts happened) new h k (flight, c, inr (e, t, f, s)) = happens_kept keeps l d e new h k s
act_kept keeps l d (Restarts happened) new h k (flight, c, inl (t, is)) = subst (Kept l) (sym is) (
  h,
  grows_refl l.world,
  λ j f q. at_case ((after : Member) × IsInFlight (record l { down = with_at l.down d None }) j f after) l.down d None j (Some (Some f)) q
      (λ i b. absurd (none_some (Some f) b))
      (λ n b. let (after, o) = k j f b in (after, moved l _ j f after o)),
)
act_kept keeps l d (Stops flight) new h k (up, can, is) = subst (Kept l) (sym is) (
  h,
  grows_refl l.world,
  λ j f q. at_case ((after : Member) × IsInFlight (record l { down = with_at l.down d (Some flight) }) j f after) l.down d (Some flight) j (Some (Some f)) q
      (λ i b. let same : flight ≡ Some f = some_is flight (Some f) b in
      let (w, s) = subst (λ o. MatchOption o (Unit {0}) (λ e. (w : World) × Step l.world d e w)) same can in
      (w.at j, record { before = l.world; changed = w; made = h.versions; step = subst (λ z. Step l.world z f w) (sym i) s; grown = grows_refl l.world; same = refl; is = refl }))
      (λ n b. let (after, o) = k j f b in (after, moved l _ j f after o)),
)

-- every life keeps it, and what was in flight
pub lives_sound_where : EventsKeepTheInvariant → LivesAreSound
lives_sound_where keeps l [] new h k e = subst (Kept l) (sym e) (h, grows_refl l.world, k)
lives_sound_where keeps l (a ∷ rest) new h k (mid, s, r) =
    let (h', g, k') = act_kept keeps l a.at a.act mid h k s in
    let (h2, g2, k2) = lives_sound_where keeps mid rest new h' k' r in
    (h2, grows_trans l.world mid.world new.world g g2, k2)

-- nothing is in flight at first
pub first_lives_kept : FirstLivesAreKept
first_lives_kept w d e c = absurd (none_some (Some e) c)

-- ---- landing

pub flights_can_land : FlightsCanLand
flights_can_land l d e after c o =
    let (w, s, same) = flights_land o.before l.world d e o.changed o.made o.grown o.same o.step in
    (record { world = w; down = with_at l.down d None }, (Some e, c, inr (e, refl, refl, (w, s, refl))), same ∙ o.is)

-- ---- stopping and starting

pub members_stop : MembersStopAndStart
members_stop l d = record {
  stops = λ up. (record l { down = with_at l.down d (Some None) }, (up, tt, refl));
  in_flight = λ e w up s. (record l { down = with_at l.down d (Some (Some e)) }, (up, (w, s), refl));
  starts = λ flight c. (record l { down = with_at l.down d None }, (flight, c, inl (refl, refl)));
}
