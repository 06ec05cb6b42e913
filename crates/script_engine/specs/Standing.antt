-- Which scene an engine stands for.
use Rattle.std.specs.Prelude.{◌≡◌, ◌<◌, ◌≤◌, ◌+◌, ◌-◌, ◌^◌, ◌&&◌, nat_lt, ℕ, List, Option, Some, count_by, length, option_map, slice_get, sum_by}
use Rattle.frs_base.specs.Identifiers.{content_set, database_of}
use Rattle.frs_base.specs.Options.{In}
use Rattle.frs_base.specs.declared.version.Uid.{Uid}
use Rattle.marshal_form.specs.Local.{local}
use Rattle.marshal_form.specs.Spelling.{spelling}
use Rattle.win_order.specs.declared.update.Update.{Update}
use Rattle.vol_state.specs.Maps.{Stands as StandsForMaps}
use Rattle.record_db.specs.Standing.{StandsFor}
use Rattle.record_db.specs.State.{form_of}
use Rattle.world_model.specs.World.{Member}
use Rattle.folder_core.specs.Machine.{Machine}
use Rattle.folder_core.specs.Notes.{form_sum}
use Rattle.folder_core.specs.Sound.{IsSound as IsSoundMachine}
use Rattle.script_engine.specs.Scene.{Scene}
use Rattle.script_engine.specs.Sound.{IsSoundScene}

-- a machine stands for the member of this database: its records are Winners(Covered(All, K)), its vector covers K, its lists are those of the volume, the sums of its staged forms are those staged
pub record MachineStands (all : List Update) (x : Member) (d : ℕ) (m : Machine) : Type 0 where
  pub sound : IsSoundMachine m
  pub own : m.book.own ≡ d
  pub set : m.book.set ≡ content_set
  pub kind : m.book.kind ≡ x.kind
  pub forms : Uid → Option (List ℕ)
  pub book : StandsFor all x.known x.consumed x.phase forms m.book
  pub staged : (uid : Uid) → x.staged uid ≡ option_map form_sum (forms uid)
  pub volume : StandsForMaps m.volume x.volume

-- each form that is staged is that of a local file with these contents
abbrev pub HoldsContents : (Uid → List ℕ) → Machine → Type 0
HoldsContents contents m = (uid : Uid) (form : List ℕ) → form_of m.book uid ≡ Some form → form ≡ spelling local (contents uid)

-- updates of the content set, none of them compressed
abbrev pub AreOurs : List Update → Type 0
AreOurs all = (u : Update) → In u all → (u.set ≡ content_set) × (u.flags ≡ 0)

-- how many local records a member's journal has
abbrev pub local_in : Machine → ℕ
local_in m = count_by (λ r. r.local) m.volume.journal

-- how many of those it consumed
abbrev pub recorded_in : Machine → ℕ
recorded_in m = count_by (λ r. r.local && nat_lt r.usn m.book.consumed) m.volume.journal

-- how many journal records, local or not, it hasn't consumed
abbrev pub unconsumed_in : Machine → ℕ
unconsumed_in m = m.volume.next_usn - m.book.consumed

-- the machines stand for the scene's members, in order
pub record MachinesStand (machines : List Machine) (s : Scene) : Type 0 where
  pub many : length machines ≡ length s.names
  pub each : (k : ℕ) (m : Machine) → slice_get machines k ≡ Some m → MachineStands s.world.all (s.world.at (database_of (k + 1))) (database_of (k + 1)) m
  pub contents : (k : ℕ) (m : Machine) → slice_get machines k ≡ Some m → HoldsContents (s.contents (database_of (k + 1))) m
  pub ours : AreOurs s.world.all
  pub usns : (k : ℕ) (m : Machine) → slice_get machines k ≡ Some m → m.volume.next_usn < 2 ^ 64
  pub counted : length s.world.all ≤ sum_by recorded_in machines
  pub scene : IsSoundScene s

-- ---- bounds

-- one local record more is counted without overflow
abbrev pub HaveRoom : List Machine → Type 0
HaveRoom machines = sum_by local_in machines < 2 ^ 60
