-- Runs with stops and runs without lead to the same worlds.
use Rattle.std.proofs.Common.{◌≡◌, ℕ, List, [], ◌∷◌, All, refl, sym, ap, ◌∙◌, subst, inl, inr, Option, None}
use Rattle.std.proofs.lemmas.List.Elements.{All-cons, All-head, All-nil, All-tail}
use Rattle.frs_base.specs.Options.{In}
use Rattle.win_order.specs.declared.update.Update.{Update}
use Rattle.vol_state.specs.declared.record.VolRecord.{VolRecord}
use Rattle.vol_state.specs.Maps.{with_at}
use Rattle.record_db.specs.Records.{Covered, IsHeld}
use Rattle.record_db.proofs.Best.{one_held}
use Rattle.name_rules.specs.Recorded.{base_fence, recorded_of}
use Rattle.world_model.specs.World.{World}
use Rattle.world_model.specs.Events.{Adopt, Consume, Event, Finish, Install, Local, Records, SendUpdate, SendVector, Unstage, consumes}
use Rattle.world_model.specs.Runs.{Happening, Run}
use Rattle.world_model.specs.Invariant.{VersionsAreMade}
use Rattle.world_model.specs.Lives.{Act, Deed, Does, Happens, Life, Lives, Restarts, Stops, first_life}
use Rattle.world_model.specs.Laws.{ActsAreOne, AllIsCountedInLives, AreAtMembersOf, EventsAreOne, LivesAreRuns, RunsAreLives}
use Rattle.world_model.proofs.Changing.{at_each}
use Rattle.world_model.proofs.Counting.{all_counted}
use Rattle.world_model.proofs.Facts.{some_is, true_false}

-- ---- with stops, and without

-- one more act
module _ (l mid new : Life) (a : Deed) (ds : List Deed) where
  -- a run without stops leads from a world to the last one
  abbrev Comes : World → List Deed → Type 0
  Comes w acts = (hs : List Happening) × Run w hs new.world × AreAtMembersOf hs acts

  -- no event came
  none_came : mid.world ≡ l.world → Comes mid.world ds → Comes l.world (a ∷ ds)
  none_came is (hs, run, at) = (hs, subst (λ w. Run w hs new.world) is run, λ h i. let (b, j, same) = at h i in (b, inr j, same))

  -- one came
  one_came : (e : Event) → Happens l a.at e None mid → Comes mid.world ds → Comes l.world (a ∷ ds)
  one_came e (w, s, is) (hs, run, at) =
      (record { at = a.at; event = e } ∷ hs, (w, s, subst (λ (z : World). Run z hs new.world) (ap (λ (k : Life). k.world) is) run), λ h i. among h i)
    where
      among : (h : Happening) → In h (record { at = a.at; event = e } ∷ hs) → (b : Deed) × In b (a ∷ ds) × (b.at ≡ h.at)
      among h (inl same) = (a, inl refl, ap (λ (z : Happening). z.at) (sym same))
      among h (inr i) = let (b, j, same) = at h i in (b, inr j, same)

  comes : (act : Act) → Lives l a.at act mid → Comes mid.world ds → Comes l.world (a ∷ ds)
  comes (Does e) (up, s) rest = one_came e s rest
  comes (Stops flight) (up, can, is) rest = none_came (ap (λ (k : Life). k.world) is) rest
  comes (Restarts happened) (flight, c, inl (t, is)) rest = none_came (ap (λ (k : Life). k.world) is) rest
  comes (Restarts happened) (flight, c, inr (e, t, f, s)) rest = one_came e s rest

pub lives_are_runs : LivesAreRuns
lives_are_runs l [] new e = ([], ap (λ (k : Life). k.world) e, λ h i. absurd i)
lives_are_runs l (a ∷ ds) new (mid, s, r) = comes l mid new a ds a.act s (lives_are_runs mid ds new r)

-- a map that has one value everywhere is not changed by it
same_everywhere : {X : Type 0} (x : X) (d j : ℕ) → x ≡ with_at (λ i. x) d x j
same_everywhere x d = at_each (λ j y. x ≡ y) (λ i. x) d x refl (λ j n. refl)

pub runs_are_lives : RunsAreLives
runs_are_lives w [] new e = ap first_life e
runs_are_lives w (h ∷ hs) new (mid, s, r) =
    (first_life mid, (refl, (mid, s, λ i. record { world = mid; down = λ j. same_everywhere None h.at j i })), runs_are_lives mid hs new r)

-- ---- the bound on All

all_at : (members : List ℕ) (ds : List Deed) → All (λ (a : Deed). In a.at members) ds → (a : Deed) → In a ds → In a.at members
all_at members [] all a i = absurd i
all_at members (x ∷ ds) all a (inl e) = subst (λ (z : Deed). In z.at members) (sym e) (All-head (λ (z : Deed). In z.at members) x ds all)
all_at members (x ∷ ds) all a (inr i) = all_at members ds (All-tail (λ (z : Deed). In z.at members) x ds all) a i

at_all : (members : List ℕ) (hs : List Happening) → ((h : Happening) → In h hs → In h.at members) → All (λ (h : Happening). In h.at members) hs
at_all members [] each = All-nil (λ (h : Happening). In h.at members)
at_all members (h ∷ hs) each = All-cons (λ (k : Happening). In k.at members) h hs (each h (inl refl)) (at_all members hs (λ k i. each k (inr i)))

pub all_counted_in_lives : AllIsCountedInLives
all_counted_in_lives kinds members ds new all run =
    let (hs, r, at) = lives_are_runs _ ds new run in
    all_counted kinds members hs new.world (at_all members hs (λ h i. let (a, j, same) = at h i in subst (λ d. In d members) same (all_at members ds all a j))) r

-- ---- what an event leads to

-- a journal record makes one update, or none
made_once : (w : World) → VersionsAreMade w → (d moment : ℕ) (a b : Option Update) → Records w d moment a → Records w d moment b → a ≡ b
made_once w h d moment a b (r, held, at, is_held, is) (q, other, at', is_other, is') =
    let record_is : q ≡ r = some_is q r (sym at' ∙ at) in
    let held_is : held ≡ other =
    one_held (Covered w.all (w.at d).known) r.uid held other (λ u v i j. h.one_each u v i.0 j.0) is_held
    (subst (λ (z : VolRecord). IsHeld (Covered w.all (w.at d).known) z.uid other) record_is is_other) in
    is ∙ ((λ i. recorded_of d (w.at d).volume (base_fence (w.at d).phase (w.at d).kind) (w.at d).consumed moment (sym record_is i) (held_is i)) ∙ sym is')

pub events_are_one : EventsAreOne
events_are_one w h d (Local op) a b s t = s.1 ∙ sym t.1
events_are_one w h d (Consume moment) a b (_, made, r, is) (_, other, q, is') = is ∙ (ap (consumes w d) (made_once w h d moment made other r q) ∙ sym is')
events_are_one w h d SendVector a b s t = s ∙ sym t
events_are_one w h d (SendUpdate u) a b s t = s.1 ∙ sym t.1
events_are_one w h d (Adopt u) a b s t = s.2 ∙ sym t.2
events_are_one w h d (Finish v) a b s t = s.2 ∙ sym t.2
events_are_one w h d (Install op) a b s t = s.3 ∙ sym t.3
events_are_one w h d (Unstage uid) a b s t = s.5 ∙ sym t.5

-- an event leaves a member up in one way
happens_once : (l : Life) → VersionsAreMade l.world → (d : ℕ) (e : Event) (a b : Life) → Happens l d e None a → Happens l d e None b → a ≡ b
happens_once l h d e a b (w, s, is) (v, t, is') =
    let one = events_are_one l.world h d e w v s t in
    is ∙ ((λ i. record { world = one i; down = with_at l.down d None }) ∙ sym is')

pub acts_are_one : ActsAreOne
acts_are_one l h d (Does e) a b (up, s) (up', t) = happens_once l h d e a b s t
acts_are_one l h d (Stops flight) a b (up, can, is) (up', can', is') = is ∙ sym is'
acts_are_one l h d (Restarts happened) a b (f, c, inl (t, is)) (g, c', inl (t', is')) = is ∙ sym is'
acts_are_one l h d (Restarts happened) a b (f, c, inl (t, is)) (g, c', inr (e', t', k', s')) = absurd (true_false happened t' t)
acts_are_one l h d (Restarts happened) a b (f, c, inr (e, t, k, s)) (g, c', inl (t', is')) = absurd (true_false happened t t')
acts_are_one l h d (Restarts happened) a b (f, c, inr (e, t, k, s)) (g, c', inr (e', t', k', s')) =
    let same : e' ≡ e = some_is e' e (sym k' ∙ (some_is g f (sym c' ∙ c) ∙ k)) in
    happens_once l h d e a b s (subst (λ z. Happens l d z None b) same s')
