-- What the events of lines leave of a sound world.
use Rattle.std.proofs.Common.{◌≡◌, ◌≢◌, ◌<◌, ◌^◌, ℕ, List, [], ◌∷◌, refl, sym, ◌∙◌, subst, inl, inr, Option, Some, None}
use Rattle.win_order.specs.declared.update.Update.{Update}
use Rattle.vol_state.specs.declared.command.VolCmd.{VolCmd}
use Rattle.vol_state.specs.State.{State}
use Rattle.vol_state.specs.Maps.{with_at}
use Rattle.record_db.specs.Records.{Versions}
use Rattle.world_model.specs.World.{Member, World}
use Rattle.world_model.specs.Events.{Records, Step, Local, Consume, SendVector, SendUpdate, Adopt, Finish, adopted_by, consumed_by, consumes, finished_by, operated, sends_update, sends_vector}
use Rattle.world_model.specs.Runs.{Grows}
use Rattle.world_model.proofs.Changing.{at_each}
use Rattle.world_model.proofs.Growth.{grows_refl, grows_trans, step_grows}
use Rattle.world_model.proofs.Lives.{step_beside}
use Rattle.world_model.proofs.Steps.{step_keeps}
use Rattle.script_engine.specs.Sound.{AreLists, IsSoundWorld}
use Rattle.script_engine.specs.declared.refusal.Refusal.{Refusal}
use Rattle.script_engine.specs.declared.consumed.Consumed.{Consumed}
use Rattle.script_engine.specs.declared.consumed.Consumed.TheVariants.{Made, Skipped}
use Rattle.script_engine.specs.Consuming.{ConsumesAll, ConsumesNext, ConsumesOne}
use Rattle.script_engine.specs.Pulling.{Ends, Takes, TakesPages}
use Rattle.script_engine.proofs.Vectors.{HasVector, vector_both, vector_plus}
use Rattle.script_engine.proofs.Volumes.{local_lists}

-- a sound world that grew, in which this member alone changed
pub record Passes (d : ℕ) (w new : World) : Type 0 where
  pub sound : IsSoundWorld new
  pub grows : Grows w new
  pub others : (j : ℕ) → j ≢ d → w.at j ≡ new.at j

pub passes_refl : (d : ℕ) (w : World) → IsSoundWorld w → Passes d w w
passes_refl d w h = record { sound = h; grows = grows_refl w; others = λ j n. refl }

pub passes_trans : (d : ℕ) (a b c : World) → Passes d a b → Passes d b c → Passes d a c
passes_trans d a b c p q = record { sound = q.sound; grows = grows_trans a b c p.grows q.grows; others = λ j n. p.others j n ∙ q.others j n }

-- ---- one event

abbrev HasVolume : ℕ → Member → Type 0
HasVolume d x = (v : State) × AreLists d x.volume v

pub passes_local : (w : World) (d : ℕ) (op : VolCmd) (new : World) → IsSoundWorld w → Step w d (Local op) new → Passes d w new
passes_local w d op new h s =
    let inv = step_keeps w d (Local op) new h.invariant s in
    record {
      sound = record {
        invariant = inv;
        volumes = λ j. subst (λ (z : World). HasVolume j (z.at j)) (sym s.1)
            (at_each HasVolume w.at d (operated d op (w.at d)) (local_lists w d op new s inv (h.volumes d)) (λ i n. h.volumes i) j);
        vectors = λ j. subst (λ (z : World). HasVector (z.at j).known) (sym s.1) (at_each (λ i (y : Member). HasVector y.known) w.at d (operated d op (w.at d)) (h.vectors d) (λ i n. h.vectors i) j);
      };
      grows = step_grows w d (Local op) new s;
      others = step_beside w d (Local op) new s;
    }

-- a member with the volume that it had, and a vector
changed : (w : World) (d : ℕ) (x : Member) → IsSoundWorld w → x.volume ≡ (w.at d).volume → HasVector x.known
    → ((j : ℕ) → HasVolume j (with_at w.at d x j)) × ((j : ℕ) → HasVector (with_at w.at d x j).known)
changed w d x h same v = (
  at_each HasVolume w.at d x (subst (λ m. (v : State) × AreLists d m v) (sym same) (h.volumes d)) (λ j n. h.volumes j),
  at_each (λ j (y : Member). HasVector y.known) w.at d x v (λ j n. h.vectors j),
)

pub passes_consume : (w : World) (d moment : ℕ) (made : Option Update) (new : World) → moment < 2 ^ 61 → IsSoundWorld w → Records w d moment made → new ≡ consumes w d made → Passes d w new
passes_consume w d moment made new early h r is = subst (Passes d w) (sym is) (
    let s : Step w d (Consume moment) (consumes w d made) = (early, made, r, refl) in
    let (volumes, vectors) = changed w d (consumed_by d made (w.at d)) h refl (vector_plus (w.at d).known (record { db = d; version = (w.at d).consumed }) (h.vectors d)) in
    record {
      sound = record { invariant = step_keeps w d (Consume moment) _ h.invariant s; volumes = volumes; vectors = vectors };
      grows = step_grows w d (Consume moment) _ s;
      others = step_beside w d (Consume moment) _ s;
    }
    )

pub passes_vector : (w : World) (d server : ℕ) (new : World) → IsSoundWorld w → Step w server SendVector new → Passes d w new
passes_vector w d server new h s = subst (Passes d w) (sym s) (record {
  sound = record { invariant = step_keeps w server SendVector _ h.invariant refl; volumes = h.volumes; vectors = h.vectors };
  grows = step_grows w server SendVector (sends_vector w server) refl;
  others = λ j n. refl;
})

pub passes_update : (w : World) (d server : ℕ) (u : Update) (new : World) → IsSoundWorld w → Step w server (SendUpdate u) new → Passes d w new
passes_update w d server u new h s = subst (Passes d w) (sym s.1) (record {
  sound = record { invariant = step_keeps w server (SendUpdate u) _ h.invariant (s.0, refl); volumes = h.volumes; vectors = h.vectors };
  grows = step_grows w server (SendUpdate u) (sends_update w server u) (s.0, refl);
  others = λ j n. refl;
})

pub passes_adopt : (w : World) (d : ℕ) (u : Update) (new : World) → IsSoundWorld w → Step w d (Adopt u) new → Passes d w new
passes_adopt w d u new h s =
    let (volumes, vectors) = changed w d (adopted_by u (w.at d)) h refl (vector_plus (w.at d).known u.gvsn (h.vectors d)) in
    subst (Passes d w) (sym s.2) (record {
      sound = record { invariant = step_keeps w d (Adopt u) _ h.invariant (s.0, s.1, refl); volumes = volumes; vectors = vectors };
      grows = step_grows w d (Adopt u) _ (s.0, s.1, refl);
      others = step_beside w d (Adopt u) _ (s.0, s.1, refl);
    })

pub passes_finish : (w : World) (d : ℕ) (v : Versions) (new : World) → IsSoundWorld w → HasVector v → Step w d (Finish v) new → Passes d w new
passes_finish w d v new h vector s =
    let (volumes, vectors) = changed w d (finished_by v (w.at d)) h refl (vector_both (w.at d).known v (h.vectors d) vector) in
    subst (Passes d w) (sym s.2) (record {
      sound = record { invariant = step_keeps w d (Finish v) _ h.invariant (s.0, s.1, refl); volumes = volumes; vectors = vectors };
      grows = step_grows w d (Finish v) _ (s.0, s.1, refl);
      others = step_beside w d (Finish v) _ (s.0, s.1, refl);
    })

-- ---- consuming

pub consumes_one_passes : (w : World) (d moment : ℕ) (c : Consumed) (new : World) → moment < 2 ^ 61 → IsSoundWorld w → ConsumesOne w d moment c new → Passes d w new
consumes_one_passes w d moment (Made usn) new early h (same, fits, u, r, is) = passes_consume w d moment (Some u) new early h r is
consumes_one_passes w d moment (Skipped usn) new early h (same, fits, r, is) = passes_consume w d moment None new early h r is

pub consumes_all_passes : (w : World) (d moment : ℕ) (done : List Consumed) (why : Option Refusal) (new : World) → moment < 2 ^ 61 → IsSoundWorld w → ConsumesAll w d moment done why new → Passes d w new
consumes_all_passes w d moment [] why new early h (inl (end, none, is)) = subst (Passes d w) (sym is) (passes_refl d w h)
consumes_all_passes w d moment [] why new early h (inr (count, wide, some, is)) = subst (Passes d w) (sym is) (passes_refl d w h)
consumes_all_passes w d moment (c ∷ cs) why new early h (mid, one, more) =
    let p = consumes_one_passes w d moment c mid early h one in
    passes_trans d w mid new p (consumes_all_passes mid d moment cs why new early p.sound more)

pub consumes_next_passes : (w : World) (d moment : ℕ) (done : List Consumed) (why : Option Refusal) (new : World) → moment < 2 ^ 61 → IsSoundWorld w → ConsumesNext w d moment done why new → Passes d w new
consumes_next_passes w d moment [] None new early h (end, is) = subst (Passes d w) (sym is) (passes_refl d w h)
consumes_next_passes w d moment [] (Some why) new early h (count, wide, some, is) = subst (Passes d w) (sym is) (passes_refl d w h)
consumes_next_passes w d moment (c ∷ []) None new early h one = consumes_one_passes w d moment c new early h one
consumes_next_passes w d moment (c ∷ []) (Some why) new early h bad = absurd bad
consumes_next_passes w d moment (c ∷ more ∷ rest) why new early h bad = absurd bad

-- ---- pulling

pub takes_passes : (w : World) (puller server : ℕ) (u : Update) (new : World) → IsSoundWorld w → Takes w puller server u new → Passes puller w new
takes_passes w puller server u new h (fits, mid, sent, adopted) =
    let p = passes_update w puller server u mid h sent in
    passes_trans puller w mid new p (passes_adopt mid puller u new p.sound adopted)

pub pages_pass : (w : World) (puller server : ℕ) (us listed : List Update) (taken : ℕ) (why : Option Refusal) (new : World) → IsSoundWorld w
    → TakesPages w puller server us listed taken why new → Passes puller w new
pages_pass w puller server [] listed taken why new h (empty, zero, none, is) = subst (Passes puller w) (sym is) (passes_refl puller w h)
pages_pass w puller server (u ∷ us) listed taken why new h (inl (beaten, rest)) = pages_pass w puller server us listed taken why new h rest
pages_pass w puller server (u ∷ us) listed taken why new h (inr (inl (wanted, file, more, list, rest))) = pages_pass w puller server us more taken why new h rest
pages_pass w puller server (u ∷ us) listed taken why new h (inr (inr (inl (other, mid, others, took, rest, count)))) =
    let p = takes_passes w puller server u mid h took in passes_trans puller w mid new p (pages_pass mid puller server us listed others why new p.sound rest)
pages_pass w puller server (u ∷ us) listed taken why new h (inr (inr (inr (other, count, much, is, rest, zero, some)))) = subst (Passes puller w) (sym is) (passes_refl puller w h)

pub ends_pass : (w : World) (puller : ℕ) (s : Versions) (why : Option Refusal) (new : World) → IsSoundWorld w → HasVector s → Ends w puller s why new → Passes puller w new
ends_pass w puller s why new h vector (inl (fits, finish, none)) = passes_finish w puller s new h vector finish
ends_pass w puller s why new h vector (inr (count, much, some, is)) = subst (Passes puller w) (sym is) (passes_refl puller w h)
