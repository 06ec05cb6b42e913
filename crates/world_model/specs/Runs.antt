-- Runs of events, and what only grows in them.
use Rattle.std.specs.Prelude.{◌≡◌, ◌⊎◌, ◌≤◌, ℕ, true, List, [], ◌∷◌}
use Rattle.frs_base.specs.Options.{In}
use Rattle.frs_base.specs.declared.version.Gvsn.{Gvsn}
use Rattle.win_order.specs.declared.update.Update.{Update}
use Rattle.record_db.specs.Records.{Versions, Covered}
use Rattle.world_model.specs.World.{World, SentVector, SentUpdate, IsConsumed}
use Rattle.world_model.specs.Events.{Event, Step}

-- an event at the member of a database
pub record Happening : Type 0 where
  pub at : ℕ
  pub event : Event

-- the events, one after the other, lead from one world to the other
abbrev pub Run : World → List Happening → World → Type 0
Run w [] new = new ≡ w
Run w (h ∷ hs) new = (mid : World) × Step w h.at h.event mid × Run mid hs new

-- All, what is consumed, covered and sent only grow, and All by versions that weren't consumed
pub record Grows (w new : World) : Type 0 where
  pub all : (u : Update) → In u w.all → In u new.all
  pub fresh : (u : Update) → In u new.all → In u w.all ⊎ (IsConsumed w u.gvsn → ⊥)
  pub consumed : (d : ℕ) → (w.at d).consumed ≤ (new.at d).consumed
  pub known : (d : ℕ) (g : Gvsn) → (w.at d).known g ≡ true → (new.at d).known g ≡ true
  pub vectors : (s : SentVector) → In s w.vectors → In s new.vectors
  pub updates : (s : SentUpdate) → In s w.updates → In s new.updates

-- a set covers the same updates of both worlds
pub record CoversAlike (w new : World) (s : Versions) : Type 0 where
  pub stays : (u : Update) → Covered w.all s u → Covered new.all s u
  pub only : (u : Update) → Covered new.all s u → Covered w.all s u
