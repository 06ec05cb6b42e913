-- What a contract sees of a volume.
use Rattle.std.specs.Prelude.{ℕ, ◌<◌, List, []}
use Rattle.vol_state.specs.declared.command.VolCmd.{VolCmd}
use Rattle.vol_state.specs.declared.object.Object.{Object}
use Rattle.vol_state.specs.State.{State}

-- its state, and how many commands it has room for
pub record Seen : Type 0 where
  pub state : State
  pub room : ℕ

-- a volume with nothing in it: the first fid is 1, the first USN 9
abbrev pub fresh_state : ℕ → State
fresh_state own = record { own = own; objects = []; journal = []; next_fid = 1; next_usn = 9 }

-- the own database, objects, and the room for more
pub record Shelved : Type 0 where
  pub own : ℕ
  pub items : List Object
  pub room : ℕ

-- a command has its room
abbrev pub Fits : VolCmd → Seen → Type 0
Fits cmd volume = 0 < volume.room
