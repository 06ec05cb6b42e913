-- Members that stop, with an event in flight or none, and start again.
use Rattle.std.specs.Prelude.{◌≡◌, ◌⊎◌, ℕ, Bool, true, false, List, [], ◌∷◌, Option, Some, None, MatchOption}
use Rattle.vol_state.specs.Maps.{with_at}
use Rattle.world_model.specs.World.{Member, World}
use Rattle.world_model.specs.Events.{Event, Step}
use Rattle.world_model.specs.Invariant.{VersionsAreMade}
use Rattle.world_model.specs.Runs.{Grows}

-- a world, and of each member that is down the event that was in flight, if any
pub record Life : Type 0 where
  pub world : World
  pub down : ℕ → Option (Option Event)

-- the life of a world in which every member is up
abbrev pub first_life : World → Life
first_life w = record { world = w; down = λ d. None }

-- what happens at a member
pub data Act : Type 0 where
  -- an event
  Does : Event → Act
  -- it stops, or a disk of it fails, with an event in flight or none
  Stops : Option Event → Act
  -- it is up again, and the event in flight took place or not
  Restarts : Bool → Act

-- an event has its change at a member, which is then down or up
abbrev pub Happens : Life → ℕ → Event → Option (Option Event) → Life → Type 0
Happens l d e down new = (w : World) × Step l.world d e w × (new ≡ record { world = w; down = with_at l.down d down })

-- an event could come now
abbrev pub CanCome : Life → ℕ → Option Event → Type 0
CanCome l d flight = MatchOption flight (Unit {0}) (λ e. (w : World) × Step l.world d e w)

-- an act leads from one life to the other
abbrev pub Lives : Life → ℕ → Act → Life → Type 0
Lives l d (Does e) new = (l.down d ≡ None) × Happens l d e None new
Lives l d (Stops flight) new = (l.down d ≡ None) × CanCome l d flight × (new ≡ record l { down = with_at l.down d (Some flight) })
Lives l d (Restarts happened) new = (flight : Option Event) × (l.down d ≡ Some flight)
    × (((happened ≡ false) × (new ≡ record l { down = with_at l.down d None })) ⊎ ((e : Event) × (happened ≡ true) × (flight ≡ Some e) × Happens l d e None new))

-- an act at the member of a database
pub record Deed : Type 0 where
  pub at : ℕ
  pub act : Act

-- the acts, one after the other
abbrev pub LifeRun : Life → List Deed → Life → Type 0
LifeRun l [] new = new ≡ l
LifeRun l (d ∷ ds) new = (mid : Life) × Lives l d.at d.act mid × LifeRun mid ds new

-- the event could have its change when the member stopped, which is as it was then
pub record IsInFlight (l : Life) (d : ℕ) (e : Event) (after : Member) : Type 0 where
  pub before : World
  pub changed : World
  pub made : VersionsAreMade before
  pub step : Step before d e changed
  pub grown : Grows before l.world
  pub same : before.at d ≡ l.world.at d
  pub is : changed.at d ≡ after

-- so could each event that is in flight
abbrev pub FlightsAreKept : Life → Type 0
FlightsAreKept l = (d : ℕ) (e : Event) → l.down d ≡ Some (Some e) → (after : Member) × IsInFlight l d e after
