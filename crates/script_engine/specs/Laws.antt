-- What holds of the trees of volumes, and of pulls.
use Rattle.std.specs.Prelude.{◌≡◌, ◌↔◌, ◌&&◌, not, ℕ, false, List, [], None}
use Rattle.vol_state.specs.Maps.{Maps, Stands}
use Rattle.vol_state.specs.State.{State}
use Rattle.vol_state.specs.Valid.{IsVolume}
use Rattle.win_order.specs.declared.update.Update.{Update}
use Rattle.world_model.specs.Events.{sends_vector}
use Rattle.world_model.specs.Rounds.{IsPage, IsRound, Round}
use Rattle.world_model.specs.World.{World}
use Rattle.pinned_pages.specs.Pages.{IsByVersion}
use Rattle.script_engine.specs.Pulling.{IsAsked, Pulls}
use Rattle.script_engine.specs.Scene.{Scene}
use Rattle.script_engine.specs.Trees.{IsTreeOf, Row}

-- maps have one tree
abbrev pub TreesAreOne : Type 0
TreesAreOne = (m : Maps) (a b : List Row) → IsTreeOf m a → IsTreeOf m b → a ≡ b

-- the maps that a volume stands for have a tree
abbrev pub VolumesHaveTrees : Type 0
VolumesHaveTrees = (v : State) (m : Maps) → IsVolume v → Stands v m → (rows : List Row) × IsTreeOf m rows

-- a pull that isn't refused is a whole round of the world
abbrev pub PullsAreRounds : Type 0
PullsAreRounds = (s : Scene) (puller server taken : ℕ) (new : Scene) → Pulls s puller server taken None new → IsRound s.world puller server new.world

-- a round over the server's vector, before its first page
abbrev pub begun_round : World → ℕ → ℕ → Round
begun_round w puller server = record { versions = (w.at server).known; rest = λ g. (w.at server).known g && not ((w.at puller).known g); listed = [] }

-- what a pull asks for is, in order, a page of that round that leaves nothing to be asked for, and nothing else is
abbrev pub PagesAreAsked : Type 0
PagesAreAsked = (w : World) (puller server : ℕ) (page : List Update) → IsByVersion page
    → IsPage (sends_vector w server) (begun_round w puller server) page (λ g. false) ↔ IsAsked w puller server page
