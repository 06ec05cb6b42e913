-- A local operation.
use Rattle.std.specs.Prelude.{◌≡◌, MatchResult}
use Rattle.vol_state.specs.declared.command.VolCmd.{VolCmd}
use Rattle.vol_state.specs.declared.operation.LocalOp.{LocalOp}
use Rattle.vol_state.specs.Effects.{effect}
use Rattle.vol_state.specs.Paths.{resolve}
use Rattle.folder_core.specs.declared.refusal.Refusal.TheVariants.{Local}
use Rattle.folder_core.specs.declared.reply.Reply.{Reply}
use Rattle.folder_core.specs.declared.reply.Reply.TheVariants.{Usn}
use Rattle.folder_core.specs.Machine.{Machine, Refuses}

-- the command has its effect on the volume, and its journal record the next USN
abbrev pub Operates : VolCmd → Machine → Reply → Machine → Type 0
Operates cmd old reply new = (reply ≡ Usn old.volume.next_usn) × (new ≡ record old { volume = effect cmd old.volume })

-- the command of the operation's row is done, or its first refusal stands
abbrev pub AnswersLocal : LocalOp → Machine → Reply → Machine → Type 0
AnswersLocal operation old reply new =
    MatchResult (resolve old.volume.objects operation) (λ cmd. Operates cmd old reply new) (λ why. Refuses (Local why) old reply new)
